-- The lines of a listing, one after another.
use Prim.Native.Nat.{ℕ, zero, suc, ◌+◌, ◌-◌, ◌≤◌, ◌<◌}
use native.Mathlib.Numerals.{add-one}
use native.Mathlib.Omega.{arith}
use mathlib.Core.Path.{◌≡◌, refl, ap}
use mathlib.Core.List.{List, [], ◌∷◌, ◌++◌}
use lib.ListN.{take}
use lib.Seq.{take-nil}
use Rattle.onward.specs.declared.Judgement.{Judgement}
use Rattle.onward.specs.declared.No.{No}
use Rattle.listing.specs.Lines.{line_count, line_of, lines_from, listing_of, no_line, no_lines}

-- ---- of refused events, n of them

pub nos-next : (n m : ℕ) (x : No) (l : List No) → 0 < n → n - 1 ≡ m → no_lines (take n (x ∷ l)) ≡ no_line x ++ no_lines (take m l)
unfolding no_lines
nos-next zero m x l h e = absurd (omega arith)
nos-next (suc n) m x l h e = let less : n ≡ m = omega arith in ap (λ (i : ℕ). no_line x ++ no_lines (take i l)) less

pub nos-none : (n : ℕ) {l : List No} → l ≡ [] → no_lines (take n l) ≡ []
unfolding no_lines
nos-none n e = rw e (ap no_lines (take-nil n))

pub nos-end : (n : ℕ) (l : List No) → n ≡ 0 → no_lines (take n l) ≡ []
unfolding no_lines
nos-end n l e = rw e refl

-- ---- of transactions, operations and sagas

pub lines_step : (r : Judgement) (k n m : ℕ) → n ≡ m + 1 → lines_from r k n ≡ line_of r k ++ lines_from r (k + 1) m
unfolding lines_from
lines_step r k n m e = rw (e, add-one m) refl

pub lines_end : (r : Judgement) (k n : ℕ) → n ≡ 0 → lines_from r k n ≡ []
unfolding lines_from
lines_end r k n e = rw e refl

pub some-line : (r : Judgement) → 1 ≤ line_count r
unfolding line_count
some-line r = omega arith

-- ---- all together: those of refused events follow the first

pub parts : (r : Judgement) (l : List No) → listing_of r l ≡ line_of r 0 ++ (no_lines l ++ lines_from r 1 (line_count r - 1))
unfolding listing_of
parts r l = refl
