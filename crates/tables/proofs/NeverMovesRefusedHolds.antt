-- Tables that can never move are refused, exactly these, at the place of their dependency count, and after every other refusal of tables.
use Prim.Native.Nat.{ℕ, zero, suc, ◌+◌, ◌-◌, ◌*◌, ◌≤◌, min}
use native.Mathlib.Omega.{arith}
use native.Mathlib.Numerals.{add-one}
use mathlib.Core.Path.{◌≡◌, refl, sym, ap, ◌∙◌, subst⁻¹}
use mathlib.Core.Bool.{true, false, ◌&&◌, false≢true}
use mathlib.Core.Logic.{⊎_elim}
use mathlib.Core.List.{List}
use lib.Dec.{ltb}
use lib.ListN.{length}
use borrow.Author.Tests.{lt-ltb}
use Rattle.laws.proofs.Bools.{and_on, and-rest, bool_cases, clash, on_and}
use Rattle.laws.proofs.IndexLaws.{any-elim, any-intro}
use Rattle.terms.specs.Limits.{most_dependencies, most_objects, most_sagas, most_steps, most_transactions}
use Rattle.terms.specs.declared.Refusal.{Refusal}
use Rattle.terms.specs.declared.Refusal.TheVariants.{BadCount, BadEdition, NeverMoves}
use Rattle.sets.specs.Reach.{among, leads_to}
use Rattle.sets.proofs.ReachLaws.{among-on, computed-leads, leads-computed, leads-more}
use Rattle.number.specs.declared.Edition.{Edition}
use Rattle.number.specs.Number.{ceiling_of, edition_number, number_at, number_within, Field, fault}
use Rattle.number.proofs.Spelling.{no_value, number_same, fault-parts, value-parts}
use Rattle.number.proofs.EditionLaws.{ceiling-low, edition-low}
use Rattle.number.proofs.FieldLaws.{within-range, within-next}
use Rattle.tables.specs.Accepted.{CirclesRefused, GoesRound, NeverMovesRefused, Well, count_place, place_of_field}
use Rattle.tables.specs.Circles.{begin_link, has_circle}
use Rattle.tables.specs.Dependencies.{dependency_at}
use Rattle.tables.specs.Reading.{dependencies_from, empty_tables, is_read, refused, rest_from, sagas_from, tables_by, unless_circle, with_counts, with_entry, with_saga, edition_field, edition_ceiling, TablesAnswer}
use Rattle.tables.specs.declared.Circles.{Circles}
use Rattle.tables.specs.declared.Circles.TheVariants.{Forbidden, Permitted}
use Rattle.tables.specs.declared.SagasRead.{SagasRead}
use Rattle.tables.specs.declared.Tables.{Tables}
use Rattle.tables.specs.declared.TablesRead.{TablesRead}
use Rattle.tables.proofs.AcceptedWellHolds.{accepted-well}
use Rattle.tables.proofs.CircleLaws.{back-small, first_entry, linked-small}
use Rattle.tables.proofs.ReadingLaws.{sagas-none}
use Rattle.tables.proofs.RefusedLaws.{refused-number}
use Rattle.tables.proofs.WayLaws.{by-entry, by-saga, no_read}
use Rattle.std.specs.Prelude.{Err, Ok}

-- ---- what going round means, in tables that were accepted

-- a link of well formed tables is between transactions
module _ (t : Tables) (w : Well t) where
  pub round-stuck : GoesRound t → has_circle t ≡ true
  unfolding has_circle
  round-stuck g =
      let back = leads-computed most_transactions (begin_link t) g.0 g.0 (leads-more (λ a b h. inside a b h) g.1) in
      let q = back-small t g.0 back in
      let i = first_entry t g.0 q.1 q.2 in
      any-intro (min t.declared most_dependencies)
      (λ i. leads_to most_transactions (begin_link t) (dependency_at t i).dependent (dependency_at t i).dependent) i.0 i.1
      (ap (λ (x : ℕ). leads_to most_transactions (begin_link t) x x) i.2 ∙ back)
    where
      inside : (a b : ℕ) → begin_link t a b ≡ true → among most_transactions (begin_link t) a b ≡ true
      inside a b h =
          let l = linked-small t w a b h in
          and_on (ltb a most_transactions) (ltb b most_transactions && begin_link t a b) (lt-ltb a most_transactions l.0)
          (and_on (ltb b most_transactions) (begin_link t a b) (lt-ltb b most_transactions l.1) h)

  pub stuck-round : has_circle t ≡ true → GoesRound t
  unfolding has_circle
  stuck-round h =
      let r = any-elim (min t.declared most_dependencies)
      (λ i. leads_to most_transactions (begin_link t) (dependency_at t i).dependent (dependency_at t i).dependent) h in
      let d = (dependency_at t r.0).dependent in
      (d, leads-more (λ a b e. among-on most_transactions (begin_link t) a b e) (computed-leads most_transactions (begin_link t) d d r.2))

-- ---- the place of the dependency count

module _ (cap : ℕ) (s : List ℕ) where
  place-start : place_of_field cap s 0 ≡ 0
  unfolding place_of_field
  place-start = refl

  -- one field on
  place-on : (n at low high : ℕ) (r : Refusal) (v next : ℕ) → place_of_field cap s n ≡ at → number_within cap s at low high r ≡ Ok (v, next)
      → place_of_field cap s (n + 1) ≡ next
  unfolding place_of_field number_at
  place-on n at low high r v next e f = rw (add-one n, e, (within-range cap s at low high r v next f).2)

  -- past the sagas: k fields on, and k sagas more
  place-sagas : (k n at sum : ℕ) (t : Tables) (v p : ℕ) → at ≤ length s → place_of_field cap s n ≡ at → (sagas_from cap s k at sum t).answer ≡ Ok (v, p)
      → (place_of_field cap s (n + k) ≡ p) × ((sagas_from cap s k at sum t).tables.sagas ≡ t.sagas + k)
  unfolding sagas_from
  place-sagas zero n at sum t v p b e f = let q = (value-parts f).1 in let z : n + 0 ≡ n = omega arith in (ap (place_of_field cap s) z ∙ e ∙ q, omega arith)
  place-sagas (suc k) n at sum t v p b e f =
      by-saga cap s k at sum t
      (λ (r : SagasRead). r.answer ≡ Ok (v, p) → (place_of_field cap s (n + suc k) ≡ p) × (r.tables.sagas ≡ t.sagas + suc k)) b
      (λ r q g. no_value)
      (λ m next g l h.
      let i = place-sagas k (n + 1) next (sum + 2 * m) (with_saga t m) v p (within-next cap s at 1 most_steps BadCount m next g).1
      (place-on n at 1 most_steps BadCount m next e g) h in
      let there : n + suc k ≡ n + 1 + k = omega arith in
      (ap (place_of_field cap s) there ∙ i.0, omega (arith, i.1)))
      f

  -- the entries leave the sagas
  entries-sagas : (x n k at : ℕ) (t : Tables) → at ≤ length s → (dependencies_from cap s n k at t).answer ≡ Ok x
      → (dependencies_from cap s n k at t).tables.sagas ≡ t.sagas
  unfolding dependencies_from
  entries-sagas x n zero at t b = λ e. refl
  entries-sagas x n (suc k) at t b =
      by-entry cap s n k at t (λ (r : TablesRead). r.answer ≡ Ok x → r.tables.sagas ≡ t.sagas) b (λ r p f. no_read)
      (λ d b kind next f l h. entries-sagas x n k next (with_entry t d b kind) l)

-- ---- the tables are as with circles permitted, with one test more

answer-cases : {A : Type 0} (x : TablesAnswer) → ((at : ℕ) → x ≡ Ok at → A) → ((r : Refusal) (p : ℕ) → x ≡ fault r p → A) → A
answer-cases (Ok at) f g = f at refl
answer-cases (Err why) f g = g why.refusal why.place refl

read_of : (x : TablesAnswer) → is_read x ≡ true → (at : ℕ) × (x ≡ Ok at)
read_of (Ok at) h = (at, refl)
read_of (Err f) h = absurd (false≢true h)

counted-cases : {A : Type 0} (c : Field) → ((v next : ℕ) → c ≡ Ok (v, next) → A) → ((r : Refusal) (p : ℕ) → c ≡ fault r p → A) → A
counted-cases (Ok (v, next)) f g = f v next refl
counted-cases (Err why) f g = g why.refusal why.place refl

-- the first field is the edition
first_on : (ed : Edition) (s : List ℕ) (e x : ℕ) → edition_field ed s ≡ Ok (e, x) → place_of_field (ceiling_of ed) s 1 ≡ x
unfolding place_of_field
first_on ed s e x f =
    let first = within-range edition_ceiling s 0 (edition_number ed) (edition_number ed) BadEdition e x f in
    rw (number_same edition_ceiling (ceiling_of ed) s 0 e x first.2 (omega (arith, first.1, edition-low ed, ceiling-low ed)))

module _ (ed : Edition) (s : List ℕ) where
  abbrev Tested : TablesRead → TablesRead → Type 0
  Tested new permitted = new ≡ unless_circle Forbidden (count_place ed s permitted.tables) permitted

  -- what was refused is refused as before
  tested-no : (r : Refusal) (p : ℕ) → Tested (refused r p) (refused r p)
  unfolding unless_circle
  tested-no r p = refl

  -- what was read is tested at the place y, which is the count's
  tested-read : (y : ℕ) (read : TablesRead) → ((x : ℕ) → read.answer ≡ Ok x → y ≡ count_place ed s read.tables)
      → Tested (unless_circle Forbidden y read) (unless_circle Permitted y read)
  unfolding unless_circle
  tested-read y read h =
      answer-cases read.answer
      (λ x e. ap (λ (n : ℕ). unless_circle Forbidden n read) (h x e))
      (λ r p e. rw e)

  tested : Tested (tables_by Forbidden ed s) (tables_by Permitted ed s)
  unfolding tables_by rest_from
  tested =
      counted-cases (edition_field ed s)
      (λ e x f₁. rw f₁
      (counted-cases (number_within (ceiling_of ed) s x 0 most_sagas BadCount)
      (λ g y f₂. rw f₂
      (counted-cases (sagas_from (ceiling_of ed) s g y 0 empty_tables).answer
      (λ sum z f₃. rw f₃
      (counted-cases (number_within (ceiling_of ed) s z 0 (most_transactions - sum) BadCount)
      (λ p a f₄. rw f₄
      (counted-cases (number_within (ceiling_of ed) s a 0 most_objects BadCount)
      (λ m b f₅. rw f₅
      (counted-cases (number_within (ceiling_of ed) s b 0 most_dependencies BadCount)
      (λ k c f₆. rw f₆
      (tested-read b (dependencies_from (ceiling_of ed) s (sum + p) k c (with_counts (sagas_from (ceiling_of ed) s g y 0 empty_tables).tables p m))
      (λ w q.
      let t = with_counts (sagas_from (ceiling_of ed) s g y 0 empty_tables).tables p m in
      let first = first_on ed s e x f₁ in
      let second = place-on (ceiling_of ed) s 1 x 0 most_sagas BadCount g y first f₂ in
      let third = place-sagas (ceiling_of ed) s g 2 y 0 empty_tables sum z (within-next (ceiling_of ed) s x 0 most_sagas BadCount g y f₂).1 second f₃ in
      let fourth = place-on (ceiling_of ed) s (2 + g) z 0 (most_transactions - sum) BadCount p a third.0 f₄ in
      let fifth = place-on (ceiling_of ed) s (2 + g + 1) a 0 most_objects BadCount m b fourth f₅ in
      let kept = entries-sagas (ceiling_of ed) s w (sum + p) k c t (within-next (ceiling_of ed) s b 0 most_dependencies BadCount k c f₆).1 q in
      let there : 2 + g + 1 + 1 ≡ 4 + (dependencies_from (ceiling_of ed) s (sum + p) k c t).tables.sagas = omega (arith, kept, third.1, sagas-none) in
      sym fifth ∙ ap (place_of_field (ceiling_of ed) s) there)))
      (λ r q f. rw f (tested-no r q))))
      (λ r q f. rw f (tested-no r q))))
      (λ r q f. rw f (tested-no r q))))
      (λ r q f. rw f (tested-no r q))))
      (λ r q f. rw f (tested-no r q))))
      (λ r q f. rw f (tested-no r q))

  -- ---- the promise

  -- by the test: refused at the count, or as with circles permitted
  by-test : (Q : TablesRead → Type 0)
      → ((at : ℕ) → (tables_by Permitted ed s).answer ≡ Ok at → has_circle (tables_by Permitted ed s).tables ≡ true
      → Q (refused NeverMoves (count_place ed s (tables_by Permitted ed s).tables)))
      → (((at : ℕ) → (tables_by Permitted ed s).answer ≡ Ok at → has_circle (tables_by Permitted ed s).tables ≡ false) → Q (tables_by Permitted ed s))
      → Q (tables_by Forbidden ed s)
  unfolding unless_circle
  by-test Q yes-stuck no-stuck =
      let permitted = tables_by Permitted ed s in
      subst⁻¹ Q tested
      (bool_cases (is_read permitted.answer && has_circle permitted.tables)
      (λ h.
      let both = on_and (is_read permitted.answer) (has_circle permitted.tables) h in
      let r = read_of permitted.answer both.0 in
      rw h (yes-stuck r.0 r.1 both.1))
      (λ h. rw h (no-stuck (λ x f. and-rest (is_read permitted.answer) (has_circle permitted.tables) h (ap is_read f)))))

  same_place : (p q : ℕ) → fault {A = ℕ} NeverMoves p ≡ fault NeverMoves q → q ≡ p
  same_place p q e = sym (fault-parts e).1

  -- with circles permitted no tables are refused by 21
  permitted-not : {A : Type 0} (p : ℕ) → (tables_by Permitted ed s).answer ≡ fault NeverMoves p → A
  permitted-not p e =
      ⊎_elim
      (λ f. absurd (omega (arith, f.high)))
      (λ f. let z : ◌≡◌ {A = ℕ} 0 1 = ap tag f.0 in absurd (omega arith))
      (refused-number Permitted ed s NeverMoves p e)
    where
      tag : Circles → ℕ
      tag Forbidden = 1
      tag Permitted = 0

  circles-refused : CirclesRefused ed s
  circles-refused =
      record {
        refused = λ p. (
          by-test (λ (r : TablesRead). r.answer ≡ fault NeverMoves p → Round p)
              (λ at e h f. ((at, e), (stuck-round (tables_by Permitted ed s).tables (accepted-well Permitted ed s at e) h, same_place _ p f)))
              (λ h f. permitted-not p f),
          λ g.
              by-test (λ (r : TablesRead). r.answer ≡ fault NeverMoves p)
              (λ at e h. ap (λ (n : ℕ). fault NeverMoves n) (sym g.1.1))
              (λ h.
              clash (round-stuck (tables_by Permitted ed s).tables (accepted-well Permitted ed s g.0.0 g.0.1) g.1.0) (h g.0.0 g.0.1)),
        );
        others_first = λ r p e. by-test (λ (x : TablesRead). x ≡ tables_by Permitted ed s) (λ at f h. no_read (sym e ∙ f)) (λ h. refl);
        no_circle = λ at e no.
            by-test (λ (r : TablesRead). r ≡ tables_by Permitted ed s)
            (λ x f h. absurd (no (stuck-round (tables_by Permitted ed s).tables (accepted-well Permitted ed s at e) h))) (λ h. refl);
        accepted = λ at. by-test (λ (x : TablesRead). x.answer ≡ Ok at → tables_by Permitted ed s ≡ x) (λ x f h. no_read) (λ h f. refl);
      }
    where
      Round : ℕ → Type 0
      Round p = ((at : ℕ) × ((tables_by Permitted ed s).answer ≡ Ok at)) × (GoesRound (tables_by Permitted ed s).tables × (p ≡ count_place ed s (tables_by Permitted ed s).tables))

pub never-moves-refused : NeverMovesRefused
never-moves-refused ed s = circles-refused ed s
