-- The next place at which a test holds, as a search finds it, and what is known of the places that it passed over.
use Prim.Native.Nat.{ℕ, ◌+◌, ◌≤◌, ◌<◌}
use native.Mathlib.Omega.{arith}
use mathlib.Core.Path.{◌≡◌, sym, ◌∙◌}
use mathlib.Core.Bool.{Bool, true, false}
use Rattle.laws.specs.Index.{any_below}
use Rattle.laws.proofs.Decisions.{lt-or, same_or}
use Rattle.laws.proofs.IndexLaws.{any-off, off-any}
use Rattle.cells.specs.Cells.{Next}

module _ (f : ℕ → Bool) (first : ℕ) where
  -- none from the first place up to i
  abbrev pub Passed : ℕ → Type 0
  Passed i = (k : ℕ) → first ≤ k → k < i → f k ≡ false

  pub passed_none : Passed first
  passed_none k a b = absurd (omega arith)

  -- b is what the code found at i
  pub passed-more : (i : ℕ) {b : Bool} → Passed i → b ≡ f i → b ≡ false → Passed (i + 1)
  passed-more i p e h k l m = same_or k i (λ s. rw s (sym e ∙ h)) (λ s. p k l (omega arith))

  pub next_here : (i to : ℕ) {b : Bool} → Passed i → b ≡ f i → b ≡ true → first ≤ i → i < to → Next f first to i
  next_here i to p e h l m = record { low = l; high = omega arith; none = p; here = λ k. sym e ∙ h }

  pub next-none : (i to : ℕ) → Passed i → first ≤ to → to ≤ i → Next f first to to
  next-none i to p l m = record { low = l; high = omega arith; none = λ k a b. p k a (omega arith); here = λ k. absurd (omega arith) }

-- a search that leaves out the places at which another test does not hold
pub any-skipped : (f g : ℕ → Bool) (i to r : ℕ) → any_below i f ≡ false → Next g i to r → ((k : ℕ) → g k ≡ false → f k ≡ false) → any_below r f ≡ false
any-skipped f g i to r h x imp = any-off r f (λ k l. lt-or k i (λ m. off-any i f h k m) (λ m. imp k (x.none k m l)))
