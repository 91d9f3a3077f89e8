-- What each sort of transaction does (★4).
use Prim.Native.Nat.{ℕ, ◌<◌}
use native.Mathlib.Omega.{arith}
use mathlib.Core.Path.{◌≡◌, refl, sym, ap, subst, subst⁻¹, ◌∙◌}
use mathlib.Core.Bool.{Bool, true, false, ◌||◌}
use mathlib.Core.Logic.{⊎_elim}
use mathlib.Core.List.{List, [], ◌∷◌, ◌++◌, append_assoc}
use lib.Dec.{eqb}
use borrow.Author.Tests.{eqb-true}
use Rattle.laws.proofs.Bools.{clash, or_cases}
use Rattle.laws.proofs.Decisions.{lt-or}
use Rattle.terms.specs.declared.Event.{Event}
use Rattle.terms.specs.declared.Event.TheVariants.{Abort, AbortOne, Begin, Commit, CommitOne, Delegate, Operation as Invoke, Spawn}
use Rattle.terms.specs.declared.Mark.{Mark}
use Rattle.tables.specs.Accepted.{Well}
use Rattle.tables.specs.Sorts.{is_plain, is_saga, is_undo, sort_of}
use Rattle.tables.specs.declared.Sort.{Sort}
use Rattle.tables.specs.declared.Sort.TheVariants.{Plain, Saga, Step, Undo, Unknown}
use Rattle.tables.specs.declared.Tables.{Tables}
use Rattle.std.specs.Prelude.{Some}
use Rattle.histories.specs.Histories.{Account, history, reached, told}
use Rattle.histories.specs.May.{CouldDelegate}
use Rattle.histories.proofs.AcceptedWhenHolds.{accepted-when}
use Rattle.histories.proofs.Kin.{kin}
use Rattle.histories.proofs.Singles.{ended_alone}
use Rattle.acta.specs.Fundamental.{Sorts}
use Rattle.acta.specs.Words.{Happens, acts, ends, invoked, parent, responsible}
use Rattle.acta.proofs.Deeds.{made_up, nothing-told, told_more}
use Rattle.acta.proofs.Places.{along, told_at}
use Rattle.acta.proofs.Runs.{accepted-there}
use Rattle.acta.proofs.Whose.{Passes, as-was, fresh, given, handed, passes}

plain-no-saga : (x : Sort) → is_plain x ≡ true → is_saga x ≡ false
plain-no-saga (Saga f n) h = clash h refl
plain-no-saga (Step f n i) h = refl
plain-no-saga (Undo f n i) h = refl
plain-no-saga Plain h = refl
plain-no-saga Unknown h = refl

plain-no-undo : (x : Sort) → is_plain x ≡ true → is_undo x ≡ false
plain-no-undo (Saga f n) h = refl
plain-no-undo (Step f n i) h = refl
plain-no-undo (Undo f n i) h = clash h refl
plain-no-undo Plain h = refl
plain-no-undo Unknown h = refl

module _ (tables : Tables) (well : Well tables) (es : List Event) where
  abbrev h : List Event
  h = history tables es

  abbrev sort : ℕ → Sort
  sort = sort_of tables

  -- ---- the sorts of whoever acts

  delegates : (u : List Event) (t r q : ℕ) → Happens h u (Delegate t r q) → CouldDelegate tables (reached tables u) t r q
  delegates u t r q at = (((accepted-when tables u).delegate t r q).0 (accepted-there tables es u (Delegate t r q) at)).could

  keeps_one : (u : List Event) (t q : ℕ) → Happens h u (CommitOne t q) → is_plain (sort t) ≡ true
  keeps_one u t q at = ((ended_alone tables (reached tables u) t q).commit_accepted.0 (accepted-there tables es u (CommitOne t q) at)).may_end.plain

  drops_one : (u : List Event) (t q : ℕ) → Happens h u (AbortOne t q) → is_plain (sort t) ≡ true
  drops_one u t q at = ((ended_alone tables (reached tables u) t q).abort_accepted.0 (accepted-there tables es u (AbortOne t q) at)).plain

  families : (u : List Event) (m c : ℕ) → Happens h u (Spawn m c) → (is_plain (sort m) ≡ true) × (is_plain (sort c) ≡ true)
  families u m c at = let may = ((accepted-when tables u).spawn m c).0 (accepted-there tables es u (Spawn m c) at) in (may.parent, may.child)

  module _ (t : ℕ) (s : is_saga (sort t) ≡ true) where
    -- t is not one of those
    no : {A : Type 0} (x : ℕ) → eqb x t ≡ true → is_saga (sort x) ≡ false → A
    no x e n = clash s (subst (λ (y : ℕ). is_saga (sort y) ≡ false) (eqb-true x t e) n)

    saga : (u : List Event) (e : Event) → Happens h u e → acts t e ≡ true → ends t e ≡ true
    saga u (Begin x) at a = clash a refl
    saga u (Commit x) at a = rw a
    saga u (Abort x) at a = a
    saga u (Invoke x o m) at a = no x a (((accepted-when tables u).invoke x o m).0 (accepted-there tables es u (Invoke x o m) at)).could.no_saga
    saga u (Delegate x r q) at a =
        let d = delegates u x r q at in
        ⊎_elim (λ e. no x e d.giver.no_saga) (λ e. no r e d.receiver.no_saga) (or_cases (eqb x t) (eqb r t) a)
    saga u (CommitOne x q) at a = no x a (plain-no-saga (sort x) (keeps_one u x q at))
    saga u (AbortOne x q) at a = no x a (plain-no-saga (sort x) (drops_one u x q at))
    saga u (Spawn m c) at a = no m a (plain-no-saga (sort m) (families u m c at).0)

  -- ---- whose operations are

  -- a child and its parent are plain
  pub child_plain : (u : List Event) (e : Event) → Happens h u e → (c m : ℕ) → parent u c ≡ Some m → (is_plain (sort c) ≡ true) × (is_plain (sort m) ≡ true)
  child_plain u e at c m p = (kin tables u).plain c m ((told_at tables well es u e at).parents c ∙ p)

  given-at : (u : List Event) (e : Event) → Happens h u e → (t r q : ℕ) → e ≡ Delegate t r q → CouldDelegate tables (reached tables u) t r q
  given-at u e at t r q i = delegates u t r q (subst (Happens h u) i at)

  abbrev OwnsNone : List Event → Type 0
  OwnsNone u = (q : ℕ) → q < invoked u → is_saga (sort (responsible u q)) ≡ false

  owns-none-more : (u : List Event) (e : Event) → Happens h u e → OwnsNone u → OwnsNone (u ++ (e ∷ []))
  owns-none-more u e at none q l =
      lt-or q (invoked u)
      (λ b. by-pass (none q b) (passes u q e b))
      (λ b.
      let f = fresh u e q b l in
      subst⁻¹ (λ (x : ℕ). is_saga (sort x) ≡ false) f.whose
      (((accepted-when tables u).invoke f.t f.o f.m).0 (accepted-there tables es u (Invoke f.t f.o f.m) (subst (Happens h u) f.event at))).could.no_saga)
    where
      by-pass : {now : ℕ} → is_saga (sort (responsible u q)) ≡ false → Passes u e q now → is_saga (sort now) ≡ false
      by-pass none (as-was i) = subst⁻¹ (λ (x : ℕ). is_saga (sort x) ≡ false) i none
      by-pass none (given t r i j) = subst⁻¹ (λ (x : ℕ). is_saga (sort x) ≡ false) j (given-at u e at t r q i).receiver.no_saga
      by-pass none (handed m i p j) = subst⁻¹ (λ (x : ℕ). is_saga (sort x) ≡ false) j (plain-no-saga (sort m) (child_plain u e at (responsible u q) m p).1)

  owns_none : OwnsNone h
  owns_none = along h OwnsNone owns-none-more h [] refl (λ q l. absurd (none_yet q l))
    where
      none_yet : (q : ℕ) → q < invoked [] → ⊥
      none_yet q l = omega (arith, l, ap (λ (x : Account). x.made) nothing-told)

  -- ---- what an undo invokes

  module _ (t q : ℕ) where
    -- q is in u, and if t or whoever has it is an undo, it is t's
    abbrev Own : List Event → Type 0
    Own u = (q < invoked u) × ((is_undo (sort t) || is_undo (sort (responsible u q))) ≡ true → responsible u q ≡ t)

    own-more : (u : List Event) (e : Event) → Happens h u e → Own u → Own (u ++ (e ∷ []))
    own-more u e at own = (
      omega (arith, own.0, ap (λ (a : Account). a.made) (told_more u e), made_up e (told u)),
      λ some. by-pass some (passes u q e own.0),
    )
      where
        -- it moved from one who is no undo to another who is none
        moved : {now : ℕ} → (is_undo (sort t) || is_undo (sort now)) ≡ true → (x r : ℕ) → is_undo (sort x) ≡ false → is_undo (sort r) ≡ false → responsible u q ≡ x → now ≡ r → now ≡ t
        moved {now} some x r n k w i =
            let mine = or_swap (is_undo (sort t)) (is_undo (sort now)) some (ap (λ (y : ℕ). is_undo (sort y)) i ∙ k) in
            clash mine (subst (λ (y : ℕ). is_undo (sort y) ≡ false) (sym w ∙ own.1 (rw mine)) n)
          where
            or_swap : (a b : Bool) → (a || b) ≡ true → b ≡ false → a ≡ true
            or_swap true b h f = refl
            or_swap false b h f = clash h f

        by-pass : {now : ℕ} → (is_undo (sort t) || is_undo (sort now)) ≡ true → Passes u e q now → now ≡ t
        by-pass some (as-was i) = i ∙ own.1 (subst (λ (x : ℕ). (is_undo (sort t) || is_undo (sort x)) ≡ true) i some)
        by-pass some (given x r i j) = let d = given-at u e at x r q i in moved some x r d.giver.no_undo d.receiver.no_undo (mine d) j
          where
            mine : CouldDelegate tables (reached tables u) x r q → responsible u q ≡ x
            mine d = sym ((told_at tables well es u e at).responsibles q own.0) ∙ d.mine
        by-pass some (handed m i p j) =
            let c = responsible u q in
            let plain = child_plain u e at c m p in
            moved some c m (plain-no-undo (sort c) plain.0) (plain-no-undo (sort m) plain.1) refl j

  undo_keeps : (u : List Event) (t o : ℕ) (m : Mark) → Happens h u (Invoke t o m)
      → (is_undo (sort t) || is_undo (sort (responsible h (invoked u)))) ≡ true → responsible h (invoked u) ≡ t
  undo_keeps u t o m at =
      let q = invoked u in
      let more : q < invoked (u ++ (Invoke t o m ∷ [])) = omega (arith, ap (λ (a : Account). a.made) (told_more u (Invoke t o m))) in
      let new = fresh u (Invoke t o m) q (omega arith) more in
      (along h (Own t q) (own-more t q) at.0 (u ++ (Invoke t o m ∷ [])) (at.1 ∙ sym (append_assoc u (Invoke t o m ∷ []) at.0))
      (more, λ some. new.whose ∙ same-invoker t new.t o new.o m new.m new.event)).1
    where
      same-invoker : (t x o p : ℕ) (m n : Mark) → Invoke t o m ≡ Invoke x p n → x ≡ t
      same-invoker t x o p m n e = cc

  pub sorts : Sorts tables h
  sorts =
      record {
        saga = λ u e at t s a. saga t s u e at a;
        undo_ends = λ u t at. (((accepted-when tables u).abort t).0 (accepted-there tables es u (Abort t) at)).no_undo;
        parties = λ u t r q at. let d = delegates u t r q at in (d.giver.no_saga, d.giver.no_undo, d.receiver.no_saga, d.receiver.no_undo, d.differ);
        keeps_one = keeps_one;
        drops_one = drops_one;
        families = families;
        owns_none = owns_none;
        undo_keeps = undo_keeps;
      }
