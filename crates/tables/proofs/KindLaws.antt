-- Kinds and their numbers.
use Prim.Native.Nat.{ℕ, ◌≤◌}
use native.Mathlib.Omega.{arith}
use mathlib.Core.Path.{◌≡◌, refl}
use mathlib.Core.Logic.{◌≢◌}
use borrow.Author.Tests.{ne_eqb}
use Rattle.laws.proofs.Decisions.{same_or}
use Rattle.tables.specs.declared.Kind.{Kind}
use Rattle.tables.specs.declared.Kind.TheVariants.{Commit, Abort, WeakAbort, Begin, Serial, BeginOnCommit, BeginOnAbort}
use Rattle.tables.specs.Dependencies.{kind_number, kind_of}

pub kind-last : (k : ℕ) → k ≢ 1 → k ≢ 2 → k ≢ 3 → k ≢ 4 → k ≢ 5 → k ≢ 6 → BeginOnAbort ≡ kind_of k
unfolding kind_of
kind-last k a b c d e f = rw (ne_eqb k 1 a, ne_eqb k 2 b, ne_eqb k 3 c, ne_eqb k 4 d, ne_eqb k 5 e, ne_eqb k 6 f)

-- a kind has the number that it was declared by
pub kind-back : (k : ℕ) → 1 ≤ k → k ≤ 7 → kind_number (kind_of k) ≡ k
unfolding kind_of
kind-back k l h =
    same_or k 1 (λ e. rw e) (λ a.
    same_or k 2 (λ e. rw e) (λ b.
    same_or k 3 (λ e. rw e) (λ c.
    same_or k 4 (λ e. rw e) (λ d.
    same_or k 5 (λ e. rw e) (λ f.
    same_or k 6 (λ e. rw e) (λ g.
    let last : 7 ≡ k = omega arith in
    rw (← kind-last k a b c d f g) last))))))

-- and a number stands for the kind that has it
pub kind-again : (k : Kind) → kind_of (kind_number k) ≡ k
unfolding kind_of
kind-again Commit = refl
kind-again Abort = refl
kind-again WeakAbort = refl
kind-again Begin = refl
kind-again Serial = refl
kind-again BeginOnCommit = refl
kind-again BeginOnAbort = refl
