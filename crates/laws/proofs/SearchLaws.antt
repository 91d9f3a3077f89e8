-- A search within a search, with an early return: is there a j below n that passes a test, and below it an i that passes one with j.
use Prim.Native.Nat.{ℕ, ◌<◌}
use mathlib.Core.Path.{◌≡◌, sym, ap, ◌∙◌}
use mathlib.Core.Bool.{Bool, true, false, ◌&&◌, and-false}
use Rattle.laws.specs.Index.{any_below}
use Rattle.laws.proofs.Bools.{and_on}
use Rattle.laws.proofs.IndexLaws.{any-intro}

module _ (g : ℕ → Bool) (h : ℕ → ℕ → Bool) where
  abbrev pub within : ℕ → Bool
  within j = g j && any_below j (h j)

  -- a and b are the tests that the code made
  pub within-hit : (n j i : ℕ) {a b : Bool} → a ≡ g j → a ≡ true → b ≡ h j i → b ≡ true → i < j → j < n → true ≡ any_below n within
  within-hit n j i oa ha ob hb l m =
      sym (any-intro n within j m (and_on (g j) (any_below j (h j)) (sym oa ∙ ha) (any-intro j (h j) i l (sym ob ∙ hb))))

  -- j does not pass
  pub within-not : (j : ℕ) {a : Bool} → a ≡ g j → a ≡ false → false ≡ within j
  within-not j oa ha = sym (ap (λ (x : Bool). x && any_below j (h j)) (sym oa ∙ ha))

  -- nothing below j passes with it
  pub within_none : (j i : ℕ) → any_below i (h j) ≡ false → i ≡ j → false ≡ within j
  within_none j i e s = sym (ap (λ (x : Bool). g j && x) (ap (λ (k : ℕ). any_below k (h j)) (sym s) ∙ e) ∙ and-false (g j))
