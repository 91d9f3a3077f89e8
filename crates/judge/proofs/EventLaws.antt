-- One event, accepted or refused: what its lines say, and the state after it.
use mathlib.Core.Path.{◌≡◌, refl, sym, ap, ◌∙◌}
use mathlib.Core.Bool.{Bool, true, false, not, ◌&&◌}
use mathlib.Core.Logic.{◌↔◌}
use mathlib.Core.List.{List, [], ◌∷◌, ◌++◌}
use lib.Dec.{eqb}
use borrow.Author.Tests.{eq-eqb}
use Rattle.laws.specs.Lines.{FirstIs, Line, Off, line}
use Rattle.laws.proofs.Bools.{clash, on_and, on-not}
use Rattle.laws.proofs.LineLaws.{first-is, first_off, is-first, off-first, off-past, peeled}
use Rattle.terms.specs.Refusals.{number_of}
use Rattle.terms.specs.declared.Event.{Event}
use Rattle.terms.specs.declared.Refusal.{Refusal}
use Rattle.terms.specs.declared.Verdict.{Verdict}
use Rattle.terms.specs.declared.Verdict.TheVariants.{Accepted, Refused}
use Rattle.tables.specs.declared.Tables.{Tables}
use Rattle.rules.specs.declared.State.{State}
use Rattle.judge.specs.Judge.{change_by, change_of, judged, lines, ruling_of, state_after, verdict_by}
use Rattle.judge.proofs.RuleLaws.{not-accepted}

pub same-refusal : (r q : Refusal) → Refused r ≡ Refused q → r ≡ q
same-refusal r q e = cc

-- ---- a refusal that one line alone has

-- that of a line is another
abbrev has_other : Refusal → Line Refusal → Bool
has_other r l = not (eqb (number_of l.refusal) (number_of r))

-- none of these lines has it
abbrev pub lacks : Refusal → List (Line Refusal) → Bool
lacks r [] = true
lacks r (l ∷ ls) = has_other r l && lacks r ls

module _ (r : Refusal) where
  past : (l : Line Refusal) (ls : List (Line Refusal)) → has_other r l ≡ true → verdict_by (l ∷ ls) ≡ Refused r → (l.holds ≡ false) × (verdict_by ls ≡ Refused r)
  past l ls n =
      peeled Refused Accepted not-accepted same-refusal r l ls
      (λ e. clash (eq-eqb (number_of l.refusal) (number_of r) (ap number_of e)) (on-not (eqb (number_of l.refusal) (number_of r)) n))

  pub never-given : (ls : List (Line Refusal)) → lacks r ls ≡ true → verdict_by ls ≡ Refused r → ⊥
  never-given [] n v = not-accepted r (sym v)
  never-given (l ∷ ls) n v = let both = on_and (has_other r l) (lacks r ls) n in never-given ls both.1 (past l ls both.0 v).1

  pub given_by : (xs ys : List (Line Refusal)) (b : Bool) → lacks r xs ≡ true → lacks r ys ≡ true → verdict_by (xs ++ (line r b ∷ ys)) ≡ Refused r → Off xs × (b ≡ true)
  given_by [] ys true n m v = (tt, refl)
  given_by [] ys false n m v = absurd (never-given ys m v)
  given_by (x ∷ xs) ys b n m v =
      let both = on_and (has_other r x) (lacks r xs) n in
      let p = past x (xs ++ (line r b ∷ ys)) both.0 v in
      let w = given_by xs ys b both.1 m p.1 in
      ((p.0, w.0), w.1)

module _ (tables : Tables) (s : State) (e : Event) where
  -- what an accepted event's lines say
  pub lines-off : (judged tables s e).verdict ≡ Accepted → Off (lines tables s e)
  unfolding judged ruling_of
  lines-off v = first_off Refused Accepted not-accepted (lines tables s e) v

  pub off-lines : Off (lines tables s e) → (judged tables s e).verdict ≡ Accepted
  unfolding judged ruling_of
  off-lines o = off-first Refused Accepted (lines tables s e) o

  pub first_line : (r : Refusal) → (judged tables s e).verdict ≡ Refused r → FirstIs r (lines tables s e)
  unfolding judged ruling_of
  first_line r v = first-is Refused Accepted not-accepted same-refusal r (lines tables s e) v

  pub verdict-lines : (judged tables s e).verdict ≡ verdict_by (lines tables s e)
  unfolding judged ruling_of
  verdict-lines = refl

  pub line_first : (r : Refusal) → FirstIs r (lines tables s e) → (judged tables s e).verdict ≡ Refused r
  unfolding judged ruling_of
  line_first r f = is-first Refused Accepted r (lines tables s e) f

  -- a refusal that one line alone has is given exactly when that line holds and none before it does
  pub only-line : (r : Refusal) (xs ys : List (Line Refusal)) (b : Bool) → lines tables s e ≡ xs ++ (line r b ∷ ys) → lacks r xs ≡ true → lacks r ys ≡ true
      → ((judged tables s e).verdict ≡ Refused r) ↔ (Off xs × (b ≡ true))
  only-line r xs ys b q n m = (
    λ v. given_by r xs ys b n m (sym (verdict-lines ∙ ap verdict_by q) ∙ v),
    λ w. verdict-lines ∙ ap verdict_by q ∙ off-past Refused Accepted xs (line r b ∷ ys) w.0 ∙ rw w.1,
  )

  pub next-ok : (judged tables s e).verdict ≡ Accepted → (judged tables s e).state ≡ state_after (change_of tables s.transactions e) s
  unfolding judged ruling_of
  next-ok v = ap (λ (x : Verdict). state_after (change_by x (change_of tables s.transactions e)) s) v

  pub next-no : (r : Refusal) → (judged tables s e).verdict ≡ Refused r → (judged tables s e).state ≡ s
  unfolding judged ruling_of state_after
  next-no r v = ap (λ (x : Verdict). state_after (change_by x (change_of tables s.transactions e)) s) v

  -- accepted or refused
  pub by-verdict {ℓ} : {A : Type ℓ} → ((judged tables s e).verdict ≡ Accepted → A) → ((r : Refusal) → (judged tables s e).verdict ≡ Refused r → A) → A
  by-verdict {A = A} f g = go (judged tables s e).verdict refl
    where
      go : (v : Verdict) → (judged tables s e).verdict ≡ v → A
      go Accepted q = f q
      go (Refused r) q = g r q
