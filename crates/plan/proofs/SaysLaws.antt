-- What a line says, told from what it was read as.
use Prim.Native.Nat.{ℕ}
use native.Mathlib.Omega.{arith}
use mathlib.Core.Path.{◌≡◌, refl, sym, ap, ap₂, subst, ◌∙◌}
use mathlib.Core.Bool.{Bool, true, false, cond, ◌&&◌, ◌||◌}
use mathlib.Core.Logic.{◌⊎◌, inl, inr, ⊎_elim}
use mathlib.Core.List.{List, [], ◌∷◌, ◌++◌}
use lib.Dec.{eqb}
use lib.ListN.{length, drop}
use lib.Seq.{drop_at}
use borrow.Author.Tests.{eqb-true}
use Rattle.laws.proofs.Bools.{bool_cases, clash, on_and, or_cases}
use Rattle.plan.specs.Lines.{Entry, begins, by_word, entry_by, entry_of, is_blank, list, list_word, move, move_word, name_of, passed, past_blanks, step, step_word, trimmed, unclear, word_of}
use Rattle.plan.specs.Promises.{Exactly, Says}
use Rattle.plan.specs.declared.Word.{Word}
use Rattle.plan.specs.declared.Word.TheVariants.{ClassList, Move, Passed, Step, Unclear}

-- ---- a word and a blank or a tab

blank-is : (b : ℕ) → is_blank false b ≡ true → (b ≡ 32) ⊎ (b ≡ 9)
blank-is b e =
    ⊎_elim (λ t. inl (eqb-true b 32 t)) (λ t. inr (eqb-true b 9 (tab (eqb b 9) t)))
    (or_cases (eqb b 32) (eqb b 9 || (false && eqb b 13)) e)
  where
    tab : (c : Bool) → (c || (false && eqb b 13)) ≡ true → c ≡ true
    tab true t = refl
    tab false t = t

begun : (w l : List ℕ) → begins w l ≡ true → (b : ℕ) × (s : List ℕ) × (l ≡ w ++ (b ∷ s)) × ((b ≡ 32) ⊎ (b ≡ 9))
unfolding begins
begun [] [] e = clash e refl
begun [] (b ∷ s) e = (b, s, refl, blank-is b e)
begun (w ∷ ws) [] e = clash e refl
begun (w ∷ ws) (c ∷ l) e =
    let p = on_and (eqb c w) (begins ws l) e in
    let r = begun ws l p.1 in
    let same = eqb-true c w p.0 in
    (r.0, r.1, ap₂ (λ (a : ℕ) (x : List ℕ). a ∷ x) same r.2, r.3)

-- ---- which word, and which entry

-- what the three tests of a word say of it
abbrev Chosen : Bool → Bool → Bool → Word → Type 0
Chosen a b c Passed = ⊥
Chosen a b c Move = a ≡ true
Chosen a b c Step = b ≡ true
Chosen a b c ClassList = c ≡ true
Chosen a b c Unclear = Unit {0}

chosen : (a b c : Bool) → Chosen a b c (cond a Move (cond b Step (cond c ClassList Unclear)))
chosen true b c = refl
chosen false true c = refl
chosen false false true = refl
chosen false false false = tt

-- what an entry says of the word and the name that it was made of
abbrev Made : Word → List ℕ → Entry → Type 0
Made w n passed = w ≡ Passed
Made w n (move x) = (w ≡ Move) × (n ≡ x)
Made w n (step x) = (w ≡ Step) × (n ≡ x)
Made w n (list x) = (w ≡ ClassList) × (n ≡ x)
Made w n unclear = Unit {0}

made : (w : Word) (n : List ℕ) → Made w n (entry_by w n)
made Passed n = refl
made Move n = (refl, refl)
made Step n = (refl, refl)
made ClassList n = (refl, refl)
made Unclear n = tt

made_of : (line : List ℕ) (e : Entry) → entry_of line ≡ e → Made (word_of (trimmed line)) (name_of (trimmed line)) e
made_of line e h = subst (Made (word_of (trimmed line)) (name_of (trimmed line))) h (made (word_of (trimmed line)) (name_of (trimmed line)))

-- a word that is not 'passed' comes from the tests
tested : (l : List ℕ) (w : Word) → (w ≡ Passed → ⊥) → word_of l ≡ w → Chosen (begins move_word l) (begins step_word l) (begins list_word l) w
unfolding word_of
tested [] w n e = absurd (n (sym e))
tested (b ∷ s) w n e =
    bool_cases (eqb b 35)
    (λ t. absurd (n (sym (rw t at e))))
    (λ t.
    let by : by_word (b ∷ s) ≡ w = rw t at e in
    subst (Chosen (begins move_word (b ∷ s)) (begins step_word (b ∷ s)) (begins list_word (b ∷ s))) by
    (chosen (begins move_word (b ∷ s)) (begins step_word (b ∷ s)) (begins list_word (b ∷ s))))

passed-line : (l : List ℕ) → word_of l ≡ Passed → (l ≡ []) ⊎ ((s : List ℕ) × (l ≡ 35 ∷ s))
unfolding word_of
passed-line [] e = inl refl
passed-line (b ∷ s) e =
    bool_cases (eqb b 35)
    (λ t. inr (s, ap (λ (c : ℕ). c ∷ s) (eqb-true b 35 t)))
    (λ t.
    let by : by_word (b ∷ s) ≡ Passed = rw t at e in
    absurd (subst (Chosen (begins move_word (b ∷ s)) (begins step_word (b ∷ s)) (begins list_word (b ∷ s))) by
    (chosen (begins move_word (b ∷ s)) (begins step_word (b ∷ s)) (begins list_word (b ∷ s)))))

line-passed : (line : List ℕ) → (trimmed line ≡ []) ⊎ ((s : List ℕ) × (trimmed line ≡ 35 ∷ s)) → entry_of line ≡ passed
unfolding word_of
line-passed line h =
    ⊎_elim (λ e. ap (λ (l : List ℕ). entry_by (word_of l) (name_of l)) e) (λ e. ap (λ (l : List ℕ). entry_by (word_of l) (name_of l)) e.1) h

-- ---- what it says

says : (word l x : List ℕ) → length word ≡ 4 → name_of l ≡ x → begins word l ≡ true → Says word l x
unfolding name_of
says word l x four e h =
    let b = begun word l h in
    let behind : drop 4 l ≡ b.0 ∷ b.1 = ap (drop 4) b.2 ∙ drop_at word (b.0 ∷ b.1) 4 four in
    record { apart = b.0; rest = b.1; line_is = b.2; apart_is = b.3; name_is = sym e ∙ ap (past_blanks false) behind }

module _ (line x : List ℕ) where
  pub move_says : entry_of line ≡ move x → Says move_word (trimmed line) x
  move_says e =
      let m = made_of line (move x) e in
      says move_word (trimmed line) x refl m.1 (tested (trimmed line) Move (λ h. let z : ◌≡◌ {A = ℕ} 0 1 = cc in absurd (omega arith)) m.0)

  pub step_says : entry_of line ≡ step x → Says step_word (trimmed line) x
  step_says e =
      let m = made_of line (step x) e in
      says step_word (trimmed line) x refl m.1 (tested (trimmed line) Step (λ h. let z : ◌≡◌ {A = ℕ} 0 1 = cc in absurd (omega arith)) m.0)

  pub list_says : entry_of line ≡ list x → Says list_word (trimmed line) x
  list_says e =
      let m = made_of line (list x) e in
      says list_word (trimmed line) x refl m.1 (tested (trimmed line) ClassList (λ h. let z : ◌≡◌ {A = ℕ} 0 1 = cc in absurd (omega arith)) m.0)

pub passed_when : (line : List ℕ) → Exactly (entry_of line ≡ passed) ((trimmed line ≡ []) ⊎ ((s : List ℕ) × (trimmed line ≡ 35 ∷ s)))
passed_when line = (λ e. passed-line (trimmed line) (made_of line passed e), line-passed line)
