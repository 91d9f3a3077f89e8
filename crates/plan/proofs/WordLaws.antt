-- What a line begins with, and the name behind it.
use mathlib.Core.Path.{◌≡◌, refl, sym, ap, ◌∙◌}
use mathlib.Core.Bool.{Bool, true, false}
use mathlib.Core.List.{List, [], ◌∷◌}
use Prim.Native.Nat.{ℕ, ◌-◌, min}
use native.Mathlib.Omega.{arith}
use lib.ListN.{length, get_or, take, drop, drop_of_length-le}
use borrow.Author.Tests.{eq-eqb, ne_eqb}
use Rattle.laws.proofs.Decisions.{lt-or}
use Rattle.plan.proofs.TextLaws.{drop-whole}
use Rattle.plan.specs.declared.Word.TheVariants.{Passed, Move, Step, ClassList, Unclear}
use Rattle.plan.specs.Lines.{past_blanks, move_word, step_word, list_word, begins, by_word, word_of, name_of}

pub word_none : (s : List ℕ) → length s ≡ 0 → Passed ≡ word_of s
unfolding word_of
word_none [] e = refl
word_none (b ∷ s) e = absurd (omega arith)

pub word-hash : (s : List ℕ) → (length s ≡ 0 → ⊥) → get_or s 0 0 ≡ 35 → Passed ≡ word_of s
unfolding word_of
word-hash [] n e = absurd (n refl)
word-hash (b ∷ s) n e = rw (eq-eqb b 35 e)

word-by : (s : List ℕ) → (length s ≡ 0 → ⊥) → (get_or s 0 0 ≡ 35 → ⊥) → by_word s ≡ word_of s
unfolding word_of
word-by [] n e = absurd (n refl)
word-by (b ∷ s) n e = rw (ne_eqb b 35 e)

module _ (s : List ℕ) (n : length s ≡ 0 → ⊥) (e : get_or s 0 0 ≡ 35 → ⊥) where
  pub word-move : {a : Bool} → a ≡ begins move_word s → a ≡ true → Move ≡ word_of s
  word-move p a = (rw (sym p ∙ a)) ∙ word-by s n e

  pub word-step : {a b : Bool} → a ≡ begins move_word s → a ≡ false → b ≡ begins step_word s → b ≡ true → Step ≡ word_of s
  word-step p a q b = (rw (sym p ∙ a, sym q ∙ b)) ∙ word-by s n e

  pub word-list : {a b c : Bool} → a ≡ begins move_word s → a ≡ false → b ≡ begins step_word s → b ≡ false → c ≡ begins list_word s → c ≡ true
      → ClassList ≡ word_of s
  word-list p a q b r c = (rw (sym p ∙ a, sym q ∙ b, sym r ∙ c)) ∙ word-by s n e

  pub word-unclear : {a b c : Bool} → a ≡ begins move_word s → a ≡ false → b ≡ begins step_word s → b ≡ false → c ≡ begins list_word s → c ≡ false
      → Unclear ≡ word_of s
  word-unclear p a q b r c = (rw (sym p ∙ a, sym q ∙ b, sym r ∙ c)) ∙ word-by s n e

-- ---- the name

pub past_word : (s : List ℕ) {n : ℕ} → n ≡ min (length s) 4 → take (length s - n) (drop n s) ≡ drop 4 s
past_word s {n} e =
    drop-whole s n
    ∙ lt-or (length s) 4
    (λ h. drop_of_length-le s {i = n} (omega arith) ∙ sym (drop_of_length-le s {i = 4} (omega arith)))
    (λ h. let four : n ≡ 4 = omega arith in ap (λ (k : ℕ). drop k s) four)

pub name_is : (s : List ℕ) {x y : List ℕ} → x ≡ past_blanks false y → y ≡ drop 4 s → x ≡ name_of s
unfolding name_of
name_is s p q = p ∙ ap (past_blanks false) q
