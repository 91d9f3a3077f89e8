-- The lines of a verdict: each has its refusal and says whether it holds; the first that holds is given.
use Rattle.std.specs.Prelude.{◌≡◌, Bool, true, false, cond, List, [], ◌∷◌, ◌++◌}

pub record Line (R : Type 0) : Type 0 where
  pub refusal : R
  pub holds : Bool

abbrev pub line : {R : Type 0} → R → Bool → Line R
line r b = record { refusal = r; holds = b }

-- what the first line that holds makes of its refusal; `otherwise` where none holds
abbrev pub first_line : {R : Type 0} {A : Type 0} → (R → A) → A → List (Line R) → A
first_line given otherwise [] = otherwise
first_line given otherwise (l ∷ ls) = cond l.holds (given l.refusal) (first_line given otherwise ls)

-- no line holds
abbrev pub Off : {R : Type 0} → List (Line R) → Type 0
Off [] = Unit {0}
Off (l ∷ ls) = (l.holds ≡ false) × Off ls

-- the first line that holds has this refusal
pub record FirstIs {R : Type 0} (r : R) (ls : List (Line R)) : Type 0 where
  pub earlier : List (Line R)
  pub this : Line R
  pub later : List (Line R)
  pub split : ls ≡ earlier ++ (this ∷ later)
  pub none_before : Off earlier
  pub holds : this.holds ≡ true
  pub refuses : this.refusal ≡ r
