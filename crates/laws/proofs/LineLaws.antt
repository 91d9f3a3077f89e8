-- Lines: none holds exactly when the answer is `otherwise`, and a refusal is given exactly when it is that of the first line that holds.
use mathlib.Core.Path.{◌≡◌, refl, sym, ap, ◌∙◌}
use mathlib.Core.Bool.{Bool, true, false}
use mathlib.Core.List.{List, [], ◌∷◌, ◌++◌}
use Rattle.laws.specs.Lines.{Line, first_line, Off, FirstIs}
use Rattle.laws.proofs.Bools.{bool_cases}

-- ---- along the lines

abbrev pub holds_first : {R : Type 0} → List (Line R) → Bool
holds_first [] = false
holds_first (l ∷ ls) = l.holds

abbrev pub others : {R : Type 0} → List (Line R) → List (Line R)
others [] = []
others (l ∷ ls) = ls

abbrev pub given_first : {R A : Type 0} → (R → A) → A → List (Line R) → A
given_first given otherwise [] = otherwise
given_first given otherwise (l ∷ ls) = given l.refusal

module _ {R A : Type 0} (given : R → A) (otherwise : A) where
  -- a line that does not hold is passed, one that holds is the answer
  pub passed : (ls : List (Line R)) → holds_first ls ≡ false → first_line given otherwise ls ≡ first_line given otherwise (others ls)
  passed [] e = refl
  passed (l ∷ ls) e = rw e

  pub stopped : (ls : List (Line R)) → holds_first ls ≡ true → first_line given otherwise ls ≡ given_first given otherwise ls
  stopped [] e = refl
  stopped (l ∷ ls) e = rw e

  pub off-first : (ls : List (Line R)) → Off ls → first_line given otherwise ls ≡ otherwise
  off-first [] h = refl
  off-first (l ∷ ls) h = rw h.0 (off-first ls h.1)

  -- lines of which none holds leave it to those after them
  pub off-past : (xs ys : List (Line R)) → Off xs → first_line given otherwise (xs ++ ys) ≡ first_line given otherwise ys
  off-past [] ys h = refl
  off-past (x ∷ xs) ys h = rw h.0 (off-past xs ys h.1)

  pub is-first : (r : R) (ls : List (Line R)) → FirstIs r ls → first_line given otherwise ls ≡ given r
  is-first r ls f =
      ap (first_line given otherwise) f.split ∙ off-past f.earlier (f.this ∷ f.later) f.none_before ∙ rw f.holds (ap given f.refuses)

  module _ (apart : (r : R) → given r ≡ otherwise → ⊥) where
    pub first_off : (ls : List (Line R)) → first_line given otherwise ls ≡ otherwise → Off ls
    first_off [] e = tt
    first_off (l ∷ ls) e =
        bool_cases l.holds (λ t. absurd (apart l.refusal (rw t at e))) (λ t. (t, first_off ls (rw t at e)))

    -- a refusal among the first lines is given whatever lines follow
    pub first-stays : (r : R) (xs ys : List (Line R)) → first_line given otherwise xs ≡ given r → first_line given otherwise (xs ++ ys) ≡ given r
    first-stays r [] ys e = absurd (apart r (sym e))
    first-stays r (x ∷ xs) ys e =
        bool_cases x.holds (λ t. rw t (rw t at e)) (λ t. rw t (first-stays r xs ys (rw t at e)))

    module _ (same : (r q : R) → given r ≡ given q → r ≡ q) where
      -- the answer is a refusal that is not this line's: the line does not hold, and those after it give the answer
      pub peeled : (r : R) (l : Line R) (ls : List (Line R)) → (l.refusal ≡ r → ⊥) → first_line given otherwise (l ∷ ls) ≡ given r
          → (l.holds ≡ false) × (first_line given otherwise ls ≡ given r)
      peeled r l ls n e = bool_cases l.holds (λ t. absurd (n (same l.refusal r (rw t at e)))) (λ t. (t, rw t at e))

      pub first-is : (r : R) (ls : List (Line R)) → first_line given otherwise ls ≡ given r → FirstIs r ls
      first-is r [] e = absurd (apart r (sym e))
      first-is r (l ∷ ls) e =
          bool_cases l.holds
          (λ t.
          record {
            earlier = [];
            this = l;
            later = ls;
            split = refl;
            none_before = tt;
            holds = t;
            refuses = same l.refusal r (rw t at e);
          })
          (λ t.
          let f = first-is r ls (rw t at e) in
          record {
            earlier = l ∷ f.earlier;
            this = f.this;
            later = f.later;
            split = ap (λ (x : List (Line R)). l ∷ x) f.split;
            none_before = (t, f.none_before);
            holds = f.holds;
            refuses = f.refuses;
          })
