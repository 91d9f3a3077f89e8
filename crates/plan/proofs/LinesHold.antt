-- Lines of a text, blanks around a line, names behind their words: none is empty.
use mathlib.Core.Path.{◌≡◌, refl, sym, ap, ap₂, ◌∙◌}
use mathlib.Core.Bool.{Bool, true, false, ◌&&◌, ◌||◌, false≢true}
use mathlib.Core.Logic.{◌⊎◌, ⊎_elim}
use mathlib.Core.List.{List, [], ◌∷◌, ◌++◌, append-nil, append_assoc}
use Prim.Native.Nat.{ℕ, zero, suc, ◌<◌}
use native.Mathlib.Omega.{arith}
use lib.ListN.{length, get_or, take, drop, length-take, take-append-drop, length-append}
use lib.Dec.{eqb}
use borrow.Author.Tests.{ne_eqb}
use Rattle.laws.proofs.Bools.{bool_cases, on_and, is-not, clash}
use Rattle.laws.proofs.Decisions.{lt-or}
use Rattle.plan.specs.declared.Word.{Word}
use Rattle.plan.specs.declared.Word.TheVariants.{Passed, Move, Step, ClassList, Unclear}
use Rattle.plan.specs.Lines.{with_first, lines_of, move, step, list, entry_of, is_blank, past_blanks, blank_then, up_to_blanks, trimmed, move_word, step_word, list_word, begins, by_word, word_of, name_of, entry_by}
use Rattle.plan.specs.Promises.{Blank, NoFeed, Named, Lines}
use Rattle.plan.proofs.SaysLaws.{list_says, move_says, passed_when, step_says}
use Rattle.plan.proofs.TextLaws.{up-blank}
use Rattle.plan.proofs.EntryLaws.{past-le, up_le}

-- ---- around a line

-- each byte counts for nothing around a line
abbrev Blanks : List ℕ → Type 0
Blanks s = (i : ℕ) → i < length s → is_blank true (get_or s i 0) ≡ true

blank-is : (b : ℕ) → (b ≡ 32) ⊎ ((b ≡ 9) ⊎ (b ≡ 13)) → is_blank true b ≡ true
blank-is b h =
    ⊎_elim (λ e. ap (is_blank true) e) (λ r. ⊎_elim (λ e. ap (is_blank true) e) (λ e. ap (is_blank true) e) r) h

blanks-are : (s : List ℕ) → Blank s → Blanks s
blanks-are s h i l = blank-is (get_or s i 0) (h i l)

blank-rest : (b : ℕ) (s : List ℕ) → Blanks (b ∷ s) → Blanks s
blank-rest b s h i l = h (suc i) (omega arith)

past-blank : (a s : List ℕ) → Blanks a → past_blanks true (a ++ s) ≡ past_blanks true s
unfolding past_blanks
past-blank [] s h = refl
past-blank (b ∷ a) s h = rw (h 0 (omega arith)) (past-blank a s (blank-rest b a h))

trim-one : (line : List ℕ) (b : ℕ) → is_blank true b ≡ true → trimmed (line ++ (b ∷ [])) ≡ trimmed line
unfolding past_blanks
trim-one [] b e = rw e
trim-one (c ∷ line) b e =
    bool_cases (is_blank true c) (λ t. rw t (trim-one line b e)) (λ t. rw t (up-blank (c ∷ line) b e))

trim_end : (line z : List ℕ) → Blanks z → trimmed (line ++ z) ≡ trimmed line
trim_end line [] h = ap trimmed (append-nil line)
trim_end line (b ∷ z) h =
    ap trimmed (sym (append_assoc line (b ∷ []) z)) ∙ trim_end (line ++ (b ∷ [])) z (blank-rest b z h) ∙ trim-one line b (h 0 (omega arith))

trim-around : (a line z : List ℕ) → Blanks a → Blanks z → trimmed (a ++ (line ++ z)) ≡ trimmed line
trim-around a line z h k = ap up_to_blanks (past-blank a (line ++ z) h) ∙ trim_end line z k

-- ---- a name has a byte

up-all : (s z : List ℕ) → Blanks z → up_to_blanks (s ++ z) ≡ up_to_blanks s
up-all s [] h = ap up_to_blanks (append-nil s)
up-all s (b ∷ z) h =
    ap up_to_blanks (sym (append_assoc s (b ∷ []) z)) ∙ up-all (s ++ (b ∷ [])) z (blank-rest b z h) ∙ up-blank s b (h 0 (omega arith))

then-again : (b : ℕ) (u : List ℕ) → up_to_blanks u ≡ u → up_to_blanks (blank_then b u) ≡ blank_then b u
unfolding up_to_blanks
then-again b [] e = bool_cases (is_blank true b) (λ t. rw t) (λ t. rw t (rw t))
then-again b (c ∷ u) e = ap (blank_then b) e

-- nothing is left to take off
up-again : (s : List ℕ) → up_to_blanks (up_to_blanks s) ≡ up_to_blanks s
unfolding up_to_blanks
up-again [] = refl
up-again (b ∷ s) = then-again b (up_to_blanks s) (up-again s)

-- what is blank behind a word is blank around a line
more-blank : (x y z : Bool) → (x || (y || (false && z))) ≡ true → (x || (y || (true && z))) ≡ true
more-blank true y z e = refl
more-blank false true z e = refl
more-blank false false z e = absurd (false≢true e)

around-too : (b : ℕ) → is_blank false b ≡ true → is_blank true b ≡ true
around-too b e = more-blank (eqb b 32) (eqb b 9) (eqb b 13) e

past-none : (s : List ℕ) → length (past_blanks false s) ≡ 0 → Blanks s
unfolding past_blanks
past-none [] e i l = absurd (omega arith)
past-none (b ∷ s) e zero l = bool_cases (is_blank false b) (λ t. around-too b t) (λ t. let z : suc (length s) ≡ 0 = rw t at e in absurd (omega arith))
past-none (b ∷ s) e (suc i) l =
    bool_cases (is_blank false b) (λ t. past-none s (rw t at e) i (omega arith)) (λ t. let z : suc (length s) ≡ 0 = rw t at e in absurd (omega arith))

begins-long : (w s : List ℕ) → begins w s ≡ true → length w < length s
unfolding begins
begins-long [] [] e = absurd (false≢true e)
begins-long [] (b ∷ s) e = omega arith
begins-long (a ∷ w) [] e = absurd (false≢true e)
begins-long (a ∷ w) (b ∷ s) e = let r = begins-long w s (on_and (eqb b a) (begins w s) e).1 in omega arith

-- more than the word is left, so more than blanks is
name-some : (s : List ℕ) → 4 < length (up_to_blanks s) → 0 < length (name_of (up_to_blanks s))
unfolding name_of
name-some s h =
    lt-or 0 (length (past_blanks false (drop 4 (up_to_blanks s))))
    (λ l. l)
    (λ l.
    let t = up_to_blanks s in
    let e : up_to_blanks t ≡ up_to_blanks (take 4 t) = ap up_to_blanks (sym (take-append-drop 4 t)) ∙ up-all (take 4 t) (drop 4 t) (past-none (drop 4 t) (omega arith)) in
    absurd (omega (arith, ap length (sym (up-again s) ∙ e), up_le (take 4 t), length-take 4 t, h)))

-- a line that names something is longer than its word
abbrev Long : Word → List ℕ → Type 0
Long Passed s = Unit {0}
Long Move s = 4 < length s
Long Step s = 4 < length s
Long ClassList s = 4 < length s
Long Unclear s = Unit {0}

by-long : (s : List ℕ) → Long (by_word s) s
by-long s =
    bool_cases (begins move_word s)
    (λ t. rw t (begins-long move_word s t))
    (λ t.
    rw t
    (bool_cases (begins step_word s)
    (λ u. rw u (begins-long step_word s u))
    (λ u. rw u (bool_cases (begins list_word s) (λ v. rw v (begins-long list_word s v)) (λ v. rw v tt)))))

word-long : (s : List ℕ) → Long (word_of s) s
unfolding word_of
word-long [] = tt
word-long (b ∷ s) = bool_cases (eqb b 35) (λ t. rw t tt) (λ t. rw t (by-long (b ∷ s)))

entry_named : (w : Word) (s x : List ℕ) → Long w s → (4 < length s → 0 < length x) → Named (entry_by w x)
entry_named Passed s x l h = tt
entry_named Move s x l h = h l
entry_named Step s x l h = h l
entry_named ClassList s x l h = h l
entry_named Unclear s x l h = tt

-- ---- lines of a text

feed-off : (b : ℕ) (l : List ℕ) → NoFeed (b ∷ l) → eqb b 10 ≡ false
feed-off b l h = ne_eqb b 10 (h 0 (omega arith))

feed-rest : (b : ℕ) (l : List ℕ) → NoFeed (b ∷ l) → NoFeed l
feed-rest b l h i q = h (suc i) (omega arith)

line-fed : (line rest : List ℕ) → NoFeed line → lines_of (line ++ (10 ∷ rest)) ≡ line ∷ lines_of rest
unfolding lines_of
line-fed [] rest h = refl
line-fed (b ∷ l) rest h = rw (feed-off b l h) (ap (with_first b) (line-fed l rest (feed-rest b l h)))

line-last : (line : List ℕ) → NoFeed line → 0 < length line → lines_of line ≡ line ∷ []
unfolding lines_of
line-last [] h q = absurd (omega arith)
line-last (b ∷ []) h q = rw (feed-off b [] h)
line-last (b ∷ c ∷ l) h q = rw (feed-off b (c ∷ l) h) (ap (with_first b) (line-last (c ∷ l) (feed-rest b (c ∷ l) h) (omega arith)))

-- ---- a name behind its word

-- the first byte is no blank
front_kept : (x : List ℕ) → trimmed x ≡ x → (past_blanks true x ≡ x) × (past_blanks false x ≡ x)
unfolding past_blanks
front_kept [] e = (refl, refl)
front_kept (b ∷ s) e =
    bool_cases (is_blank true b)
    (λ t.
    let q : up_to_blanks (past_blanks true s) ≡ b ∷ s = rw t at e in
    absurd (omega (arith, ap length q, up_le (past_blanks true s), past-le true s)))
    (λ t. (rw t, rw (is-not (is_blank false b) (λ u. clash (around-too b u) t))))

-- nor the last, and what stands before it stays
up-cons : (b : ℕ) (s : List ℕ) → up_to_blanks s ≡ s → 0 < length s → up_to_blanks (b ∷ s) ≡ b ∷ s
unfolding up_to_blanks
up-cons b [] e h = absurd (omega arith)
up-cons b (c ∷ s) e h = ap (blank_then b) e

up_word : (w x : List ℕ) → up_to_blanks x ≡ x → 0 < length x → up_to_blanks (w ++ x) ≡ w ++ x
up_word [] x e h = e
up_word (b ∷ w) x e h = up-cons b (w ++ x) (up_word w x e h) (omega (arith, length-append w x))

module _ (x : List ℕ) (e : trimmed x ≡ x) (h : 0 < length x) where
  end_kept : up_to_blanks (32 ∷ x) ≡ 32 ∷ x
  end_kept = up-cons 32 x (ap up_to_blanks (sym (front_kept x e).0) ∙ e) h

  name-kept : (w : List ℕ) → drop 4 w ≡ 32 ∷ x → name_of w ≡ x
  unfolding name_of past_blanks
  name-kept w q = ap (past_blanks false) q ∙ (front_kept x e).1

  behind : (w : List ℕ) → past_blanks true (w ++ (32 ∷ x)) ≡ w ++ (32 ∷ x) → trimmed (w ++ (32 ∷ x)) ≡ w ++ (32 ∷ x)
  behind w q = ap up_to_blanks q ∙ up_word w (32 ∷ x) end_kept (omega arith)

  word-written : (word : Word) (w : List ℕ) → past_blanks true (w ++ (32 ∷ x)) ≡ w ++ (32 ∷ x) → word_of (w ++ (32 ∷ x)) ≡ word
      → drop 4 (w ++ (32 ∷ x)) ≡ 32 ∷ x → entry_of (w ++ (32 ∷ x)) ≡ entry_by word x
  word-written word w p q r =
      ap (λ (s : List ℕ). entry_by (word_of s) (name_of s)) (behind w p) ∙ ap₂ entry_by q (name-kept (w ++ (32 ∷ x)) r)

  words-written : (entry_of (move_word ++ (32 ∷ x)) ≡ move x) × (entry_of (step_word ++ (32 ∷ x)) ≡ step x) × (entry_of (list_word ++ (32 ∷ x)) ≡ list x)
  unfolding past_blanks begins word_of
  words-written =
      (word-written Move move_word refl refl refl, word-written Step step_word refl refl refl, word-written ClassList list_word refl refl refl)

pub lines-hold : Lines
lines-hold =
    record {
      fed = line-fed;
      last = line-last;
      written = words-written;
      move_says = move_says;
      step_says = step_says;
      list_says = list_says;
      passed_when = passed_when;
      around = λ a line z h k. ap (λ (s : List ℕ). entry_by (word_of s) (name_of s)) (trim-around a line z (blanks-are a h) (blanks-are z k));
      named =
          λ line.
          let s = trimmed line in
          entry_named (word_of s) s (name_of s) (word-long s) (name-some (past_blanks true line));
    }
