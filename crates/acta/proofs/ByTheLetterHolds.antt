-- Complete histories meet the formulas by the letter (★14).
use Prim.Native.Nat.{ℕ, zero, suc, ◌+◌, ◌≤◌, ◌<◌}
use native.Mathlib.Omega.{arith}
use mathlib.Core.Path.{◌≡◌, refl, sym, ap, subst, subst⁻¹, ◌∙◌}
use mathlib.Core.Bool.{true, false, not}
use mathlib.Core.Logic.{◌⊎◌, inl, inr, ⊎_elim}
use mathlib.Core.List.{List, [], ◌∷◌, ◌++◌, append_assoc, append-nil}
use borrow.Author.Tests.{eq-eqb, eqb-true}
use Rattle.laws.proofs.Bools.{and-rest, bool_cases, clash, is-not, off-not, off-or, on_and, on-not, or_cases, or_left, or-rest, or_right}
use Rattle.terms.specs.Events.{is_write}
use Rattle.terms.specs.declared.Event.{Event}
use Rattle.terms.specs.declared.Event.TheVariants.{Abort as Aborts, AbortOne, Begin, Commit, CommitOne, Delegate, Operation as Invoke, Spawn}
use Rattle.ties.specs.Operations.{is_aborted as is_aborted_op, is_active as is_active_op, is_committed as is_committed_op}
use Rattle.ties.specs.declared.Fate.{Fate}
use Rattle.ties.specs.declared.Fate.TheVariants.{Aborted, Active, Committed}
use Rattle.tables.specs.Accepted.{Well}
use Rattle.tables.specs.Sorts.{first_of, steps_of}
use Rattle.tables.specs.declared.Kind.TheVariants.{Abort, Commit as CommitKind, WeakAbort}
use Rattle.tables.specs.declared.Tables.{Tables}
use Rattle.tables.proofs.SagaLaws.{well-steps}
use Rattle.std.specs.Prelude.{Some}
use Rattle.closing.proofs.Acts.{mine-on}
use Rattle.rules.specs.States.{is_aborted, is_committed, own, phase_of}
use Rattle.rules.specs.declared.Phase.{Phase}
use Rattle.rules.specs.declared.State.{State}
use Rattle.rules.proofs.PhaseLaws.{code, committed_is, of-aborted, of-active, of-committed, of-idle}
use Rattle.histories.specs.Histories.{history, reached}
use Rattle.acta.specs.ByTheLetter.{ByTheLetter}
use Rattle.acta.specs.Completing.{Complete}
use Rattle.acta.specs.Delegating.{works}
use Rattle.acta.specs.Depending.{Declared}
use Rattle.acta.specs.SagaLemmas.{SagaLemmas}
use Rattle.acta.specs.SagaWords.{Word, back, is_own, own_word, whole}
use Rattle.acta.specs.Told.{IsTold}
use Rattle.acta.specs.Words.{Follows, Happens, KeptConflict, Precedes, Tied, aborted, aborts, and_on as and-after, began, begins, committed, commits, conflicts, dropped, ended, fate, in_progress, invoked, kept, mark, object, occurs, once, parent, responsible}
use Rattle.acta.proofs.DelegatingHolds.{delegation, held_by}
use Rattle.acta.proofs.DependingHolds.{depending}
use Rattle.acta.proofs.EndingsHold.{aborted-now, one_end}
use Rattle.acta.proofs.FundamentalHolds.{fundamental}
use Rattle.acta.proofs.Invoking.{conflict-then, one_more}
use Rattle.acta.proofs.Losses.{KeptBy, by_itself, kept_by, same-mark, same-parent, tied-there, with_it}
use Rattle.acta.proofs.NestingHolds.{begun, nesting}
use Rattle.acta.proofs.ObjectsHold.{conflict-serializable, recoverable}
use Rattle.acta.proofs.Places.{cuts, further, heads, occurs-append, occurs-where}
use Rattle.acta.proofs.Runs.{is_history}
use Rattle.acta.proofs.SagaLemmasHold.{saga_lemmas}
use Rattle.acta.proofs.WordParts.{aborts-mine, commits-mine}
use Rattle.acta.proofs.SagaRunsHold.{staged}
use Rattle.acta.proofs.SagaStages.{Stage, at_rest, closed, failed, in_step, in-undo, not-begun, torn, undoing}
use Rattle.acta.proofs.ToldHolds.{is_told}

-- one relation followed, another that has all of it followed
pub follows-more : {R Q : ℕ → ℕ → Type 0} → ((a b : ℕ) → R a b → Q a b) → (a b : ℕ) → Follows R a b → Follows Q a b
follows-more go a b (once {a = x} {b = y} r) = once (go x y r)
follows-more go a b (and-after {a = x} {b = y} {c = z} r w) = and-after (go x y r) (follows-more go y z w)

-- the event that commits d
pub commit-of : (d : ℕ) (e : Event) → commits d e ≡ true → e ≡ Commit d
commit-of d (Begin x) h = clash h refl
commit-of d (Commit x) h = ap Commit (eqb-true x d h)
commit-of d (Aborts x) h = clash h refl
commit-of d (Invoke x o m) h = clash h refl
commit-of d (Delegate x r q) h = clash h refl
commit-of d (CommitOne x q) h = clash h refl
commit-of d (AbortOne x q) h = clash h refl
commit-of d (Spawn m c) h = clash h refl

-- the event that aborts d
pub abort-of : (d : ℕ) (e : Event) → aborts d e ≡ true → e ≡ Aborts d
abort-of d (Begin x) h = clash h refl
abort-of d (Commit x) h = clash h refl
abort-of d (Aborts x) h = ap Aborts (eqb-true x d h)
abort-of d (Invoke x o m) h = clash h refl
abort-of d (Delegate x r q) h = clash h refl
abort-of d (CommitOne x q) h = clash h refl
abort-of d (AbortOne x q) h = clash h refl
abort-of d (Spawn m c) h = clash h refl

no-back : (f n : ℕ) (W : List Event) → W ++ back f n 0 ≡ W
unfolding back
no-back f n W = append-nil W

no-commit : (b d : ℕ) → committed (Aborts b ∷ []) d ≡ false
unfolding occurs
no-commit b d = refl

module _ (tables : Tables) (well : Well tables) (es : List Event) (complete : Complete tables (history tables es)) where
  abbrev h : List Event
  h = history tables es

  abbrev P : ℕ → ℕ → Phase
  P i = own (reached tables es).transactions (first_of tables i)

  told : IsTold tables es h
  told = is_told tables es well

  -- whoever began has ended
  over : (t : ℕ) → began h t ≡ true → ended h t ≡ true
  over t b = off-not (ended h t) (and-rest (began h t) (not (ended h t)) (complete.all_ended t) b)

  began-later : (u : List Event) (e : Event) → Happens h u e → (t : ℕ) → began u t ≡ true → began h t ≡ true
  began-later u e at t b = ap (λ (l : List Event). began l t) at.1 ∙ occurs-append (begins t) u (e ∷ at.0) ∙ or_left (began u t) (began (e ∷ at.0) t) b

  -- one that has not committed has aborted
  or-aborted : (t : ℕ) → began h t ≡ true → (committed h t ≡ true → ⊥) → aborted h t ≡ true
  or-aborted t b n = or-rest (committed h t) (aborted h t) (over t b) (is-not (committed h t) n)

  -- ---- sagas

  going : (t : ℕ) → code (phase_of (reached tables es).transactions t) ≡ 1 → ⊥
  going t a = clash (sym (told.active t) ∙ rw (of-active (phase_of (reached tables es).transactions t) a)) (complete.all_ended t)

  module _ (i : ℕ) (l : i < tables.sagas) (b : began h (first_of tables i) ≡ true) where
    abbrev f : ℕ
    f = first_of tables i

    abbrev n : ℕ
    n = steps_of tables i

    first : f + 0 ≡ f
    first = omega arith

    word_of : Stage f n (P i) (own_word f n h) → Word f n (own_word f n h)
    word_of (not-begun F q) =
        clash (subst⁻¹ (λ (t : ℕ). began h t ≡ true) first b)
        (on-not (began h (f + 0)) (sym (told.idle (f + 0)) ∙ rw (of-idle (phase_of (reached tables es).transactions (f + 0)) F.saga)))
    word_of (at_rest j r F q) = absurd (going (f + 0) F.saga)
    word_of (in_step j r F q) = absurd (going (f + 0) F.saga)
    word_of (failed j r F q) = absurd (going (f + 0) F.saga)
    word_of (closed F q) = subst⁻¹ (Word f n) q whole
    word_of (torn j r F q) = absurd (going (f + suc j) (F.at r))
    word_of (undoing j zero x w kj jn nx ny F is q) = subst⁻¹ (Word f n) (sym (no-back f n (own_word f n h)) ∙ q) is
    word_of (undoing j (suc k) x w kj jn nx ny F is q) =
        let a = sym (ap (aborted h) first) ∙ sym (told.aborted_is (f + 0)) ∙ is-aborted (phase_of (reached tables es).transactions (f + 0)) F.saga in
        let c = sym (told.committed_is (f + suc k)) ∙ is-committed (phase_of (reached tables es).transactions (f + suc k)) (F.up (suc k) (omega arith) kj) in
        let u = complete.all_undone i l a (suc k) (omega arith) (omega arith) c in
        absurd (omega (arith, F.undo (omega arith) (omega arith), committed_is (phase_of (reached tables es).transactions (f + (n + suc k))) (told.committed_is (f + (n + suc k)) ∙ u.1)))
      where
        is-aborted : (p : Phase) → code p ≡ 3 → is_aborted p ≡ true
        is-aborted p e = rw (of-aborted p e)

        is-committed : (p : Phase) → code p ≡ 2 → is_committed p ≡ true
        is-committed p e = rw (of-committed p e)
    word_of (in-undo j k x w kj jn nx ny F is q) = absurd (going (f + (n + suc k)) (F.undo (omega arith) (omega arith)))

  -- ---- declared dependencies

  -- one that commits though it had not when b aborted, commits behind that abort
  after-abort : (u : List Event) (d b : ℕ) → Happens h u (Aborts b) → committed u d ≡ false → committed h d ≡ true → (x : List Event) × Happens h x (Commit d) × (aborted x b ≡ true)
  after-abort u d b at idle c =
      let x = u ++ (Aborts b ∷ []) in
      let split = at.1 ∙ sym (append_assoc u (Aborts b ∷ []) at.0) in
      let not_yet : committed x d ≡ false = occurs-append (commits d) u (Aborts b ∷ []) ∙ rw (idle, no-commit b d) in
      let later = or-rest (committed x d) (committed at.0 d) (sym (ap (λ (l : List Event). committed l d) split ∙ occurs-append (commits d) x at.0) ∙ c) not_yet in
      let w = occurs-where (commits d) at.0 later in (
        x ++ w.0,
        subst (Happens h (x ++ w.0)) (commit-of d w.1 w.4) (further h x at.0 split w.0 w.1 w.2 w.3),
        occurs-append (aborts b) x w.0 ∙ or_left (aborted x b) (aborted w.0 b) (aborted-now u b),
      )

  weak : (u : List Event) (d b : ℕ) → Declared tables d b WeakAbort → Happens h u (Aborts b) → committed u d ≡ false → began h d ≡ true → aborted h d ≡ true
  weak u d b is at idle began-d =
      or-aborted d began-d
      (λ c. let w = after-abort u d b at idle c in clash w.2 (on-not (aborted w.0 b) ((depending tables well es).commits w.0 d b WeakAbort is w.1)))

  strong : (d b : ℕ) → Declared tables d b Abort → aborted h b ≡ true → began h d ≡ true → aborted h d ≡ true
  strong d b is a began-d =
      or-aborted d began-d
      (λ c.
      let w = occurs-where (commits d) h c in
      let e = commit-of d w.1 w.4 in
      let there = subst (Happens h w.0) e (w.2, w.3) in
      one_end tables well es b
      (ap (λ (l : List Event). committed l b) there.1 ∙ occurs-append (commits b) w.0 (Commit d ∷ there.0)
      ∙ or_left (committed w.0 b) (committed (Commit d ∷ there.0) b) ((depending tables well es).commits w.0 d b Abort is there)) a)

  both-commit : (u : List Event) (d b : ℕ) → Declared tables d b CommitKind → Happens h u (Commit d) → committed h b ≡ true → committed u b ≡ true
  both-commit u d b is at c =
      ⊎_elim (λ x. x)
      (λ a.
      absurd
      (one_end tables well es b c
      (ap (λ (l : List Event). aborted l b) at.1 ∙ occurs-append (aborts b) u (Commit d ∷ at.0) ∙ or_left (aborted u b) (aborted (Commit d ∷ at.0) b) a)))
      (or_cases (committed u b) (aborted u b) ((depending tables well es).commits u d b CommitKind is at))

  -- ---- those of a saga's structure

  module _ (i : ℕ) (listed : i < tables.sagas) where
    abbrev f' : ℕ
    f' = first_of tables i

    abbrev n' : ℕ
    n' = steps_of tables i

    lemmas : SagaLemmas f' n' h
    lemmas = saga_lemmas tables well es i listed

    -- where one of its own ended, S began
    begun-by : (e : Event) (u : List Event) → Happens h u e → is_own f' n' e ≡ true → begins f' e ≡ false → began h f' ≡ true
    begun-by e u at o b = began-later u e at f' (lemmas.saga_first u e at o b)

    begun-abort : (j : ℕ) → 1 ≤ j → j ≤ n' → aborted h (f' + j) ≡ true → began h f' ≡ true
    begun-abort j l r a =
        let w = occurs-where (aborts (f' + j)) h a in
        begun-by w.1 w.0 (w.2, w.3) (aborts-mine f' n' (f' + j) (mine-on f' n' j (omega arith)) w.1 w.4) (ap (begins f') (abort-of (f' + j) w.1 w.4))

    begun-commit : (j : ℕ) → 1 ≤ j → j ≤ n' → committed h (f' + j) ≡ true → began h f' ≡ true
    begun-commit j l r a =
        let w = occurs-where (commits (f' + j)) h a in
        begun-by w.1 w.0 (w.2, w.3) (commits-mine f' n' (f' + j) (mine-on f' n' j (omega arith)) w.1 w.4) (ap (begins f') (commit-of (f' + j) w.1 w.4))

    with-step : (j : ℕ) → 1 ≤ j → j ≤ n' → aborted h (f' + j) ≡ true → aborted h f' ≡ true
    with-step j l r a = or-aborted f' (begun-abort j l r a) (λ c. clash c (lemmas.saga_ad j l r a))

    with-last : committed h (f' + n') ≡ true → committed h f' ≡ true
    with-last c =
        ⊎_elim (λ x. x) (λ x. clash x (lemmas.saga_scd c))
        (or_cases (committed h f') (aborted h f') (over f' (begun-commit n' (well-steps tables well i listed).0 (omega arith) c)))

    with-saga : (u : List Event) (j : ℕ) → 1 ≤ j → j ≤ n' → Happens h u (Aborts f') → committed u (f' + j) ≡ false → began h (f' + j) ≡ true → aborted h (f' + j) ≡ true
    with-saga u j l r at idle b =
        or-aborted (f' + j) b
        (λ c. let w = after-abort u (f' + j) f' at idle c in clash w.2 (lemmas.step_wd w.0 (Commit (f' + j)) j l r w.1 (eq-eqb (f' + j) (f' + j) refl)))

  -- ---- children

  -- where a child commits, its parent is in progress, and is its parent there already
  commits-under : (x : List Event) (m c : ℕ) → parent h c ≡ Some m → Happens h x (Commit c) → (parent x c ≡ Some m) × (in_progress x m ≡ true)
  commits-under x m c p at =
      let b = (on_and (began x c) (not (ended x c)) ((fundamental tables well es).in_between x (Commit c) at c (eq-eqb c c refl))).0 in
      let q = sym (same-parent h x (Commit c ∷ at.0) at.1 (fundamental tables well es).one_begin c b) ∙ p in
      (q, (nesting tables well es).parent_lasts x c m at q)

  child-weak : (u : List Event) (m c : ℕ) → parent h c ≡ Some m → Happens h u (Aborts m) → committed u c ≡ false → aborted h c ≡ true
  child-weak u m c p at idle =
      or-aborted c (begun tables well es h (is_history tables es).again c m p)
      (λ k.
      let w = after-abort u c m at idle k in
      let going = (on_and (began w.0 m) (not (ended w.0 m)) (commits-under w.0 m c p w.1).1).1 in
      clash w.2 (off-or (committed w.0 m) (aborted w.0 m) (on-not (ended w.0 m) going)).1)

  child-before : (u : List Event) (m c : ℕ) → parent h c ≡ Some m → Happens h u (Commit m) → committed h c ≡ true → committed u c ≡ true
  unfolding occurs
  child-before u m c p at k =
      let w = occurs-where (commits c) h k in
      by w.0 (subst (Happens h w.0) (commit-of c w.1 w.4) (w.2, w.3))
    where
      -- nobody is its own child
      apart : (x : List Event) → Happens h x (Commit c) → parent x c ≡ Some m → c ≡ m → ⊥
      apart x there q e =
          clash ((fundamental tables well es).in_between x (Commit c) there c (eq-eqb c c refl))
          ((nesting tables well es).children_first x c there c (subst⁻¹ (λ (z : ℕ). parent x c ≡ Some z) e q))

      same : (a b : ℕ) → Commit a ≡ Commit b → a ≡ b
      same a b e = eqb-true a b (ap (commits b) e ∙ eq-eqb b b refl)

      by : (x : List Event) → Happens h x (Commit c) → committed u c ≡ true
      by x there =
          let under = commits-under x m c p there in
          ⊎_elim
          (λ (z, e, d). first x there under z e d)
          (λ (z, e, d). second x there under z e d)
          (cuts x (Commit c ∷ there.0) u (Commit m ∷ at.0) (sym there.1 ∙ at.1))
        where
          first : (x : List Event) (there : Happens h x (Commit c)) → (parent x c ≡ Some m) × (in_progress x m ≡ true) → (z : List Event) → u ≡ x ++ z → Commit c ∷ there.0 ≡ z ++ (Commit m ∷ at.0) → committed u c ≡ true
          first x there under [] e d = absurd (apart x there under.0 (same c m (heads (Commit c) (Commit m) there.0 at.0 d).0))
          first x there under (y ∷ z) e d =
              ap (λ (l : List Event). committed l c) e ∙ occurs-append (commits c) x (y ∷ z)
              ∙ or_right (committed x c) (committed (y ∷ z) c) (or_left (commits c y) (committed z c) (ap (commits c) (sym (heads (Commit c) y there.0 (z ++ (Commit m ∷ at.0)) d).0) ∙ eq-eqb c c refl))

          second : (x : List Event) (there : Happens h x (Commit c)) → (parent x c ≡ Some m) × (in_progress x m ≡ true) → (z : List Event) → x ≡ u ++ z → Commit m ∷ at.0 ≡ z ++ (Commit c ∷ there.0) → committed u c ≡ true
          second x there under [] e d = absurd (apart x there under.0 (same c m (sym (heads (Commit m) (Commit c) at.0 there.0 d).0)))
          second x there under (y ∷ z) e d =
              clash
              (ap (λ (l : List Event). committed l m) e ∙ occurs-append (commits m) u (y ∷ z)
              ∙ or_right (committed u m) (committed (y ∷ z) m) (or_left (commits m y) (committed z m) (ap (commits m) (sym (heads (Commit m) y at.0 (z ++ (Commit c ∷ there.0)) d).0) ∙ eq-eqb m m refl)))
              (off-or (committed x m) (aborted x m) (on-not (ended x m) (on_and (began x m) (not (ended x m)) under.1).1)).0

  -- ---- rings

  -- nothing runs any more
  kept-now : (q : ℕ) → q < invoked h → dropped h q ≡ false → kept h q ≡ true
  kept-now q l d = by (fate h q) d (λ r. clash (held_by tables well es q l r) (complete.all_ended (responsible h q)))
    where
      by : (x : Fate) → is_aborted_op x ≡ false → (is_active_op x ≡ true → is_committed_op x ≡ true) → is_committed_op x ≡ true
      by Active e go = go refl
      by Committed e go = refl
      by Aborted e go = clash refl e

  all-kept : (a b : ℕ) → Precedes h a b → KeptConflict h a b
  all-kept a b x =
      let z = x.tie in
      let more : invoked z.u < invoked h = subst⁻¹ (λ (l : List Event). invoked z.u < invoked l) z.came.1 (one_more z.t z.o z.m z.u z.came.0) in
      let r : x.q < invoked h = omega (arith, more, z.number) in
      let l : x.p < invoked h = omega (arith, z.earlier, r) in
      record {
        p = x.p;
        q = x.q;
        earlier = z.earlier;
        there_are = r;
        conflicting =
            ap (λ (k : ℕ). conflicts h x.p (object h k) (mark h k)) (sym z.number)
            ∙ ap (λ (y : List Event). conflicts y x.p (object y (invoked z.u)) (mark y (invoked z.u))) z.came.1
            ∙ conflict-then z.t z.o z.m z.u z.came.0 x.p (omega (arith, z.earlier, z.number))
            ∙ z.conflicting;
        here = kept-now x.p l x.here;
        there = kept-now x.q r x.there;
        first = x.first;
        second = x.second;
        differ = x.differ;
      }

  -- ---- reads of dropped writes

  lost : (p q : ℕ) → Tied h p q → is_write (mark h p) ≡ true → is_write (mark h q) ≡ false → dropped h p ≡ true
      → (dropped h q ≡ true) ⊎ ((u : List Event) × (t : ℕ) × Happens h u (CommitOne t q) × (works u t p ≡ true))
  lost p q w a b d =
      bool_cases (dropped h q) (λ x. inl x) (λ x. of (kept_by h q here (kept-now q here x)))
    where
      here : q < invoked h
      here =
          let more = subst⁻¹ (λ (l : List Event). invoked w.u < invoked l) w.came.1 (one_more w.t w.o w.m w.u w.came.0) in
          omega (arith, more, w.number)

      both : (x : Fate) → is_committed_op x ≡ true → is_aborted_op x ≡ true → ⊥
      both Active y z = clash y refl
      both Committed y z = clash z refl
      both Aborted y z = clash y refl

      over-op : (x : Fate) → is_committed_op x ≡ true → is_active_op x ≡ false
      over-op Active y = clash y refl
      over-op Committed y = refl
      over-op Aborted y = refl

      not-dropped : (x : Fate) → is_active_op x ≡ true → is_aborted_op x ≡ false
      not-dropped Active y = refl
      not-dropped Committed y = clash y refl
      not-dropped Aborted y = clash y refl

      of : KeptBy h q → (dropped h q ≡ true) ⊎ ((u : List Event) × (t : ℕ) × Happens h u (CommitOne t q) × (works u t p ≡ true))
      of (with_it u at n l r) =
          let t = responsible u q in
          let v = Commit t ∷ at.0 in
          absurd
          (both (fate h p)
          ((recoverable tables well es).for_good u t at n p q (tied-there h u v at.1 p q w l)
          (ap is_write (sym (same-mark h u v at.1 p (omega (arith, l, w.earlier)))) ∙ a) (ap is_write (sym (same-mark h u v at.1 q l)) ∙ b) refl (not-dropped (fate u q) r))
          d)
      of (by_itself u t at) =
          let v = CommitOne t q ∷ at.0 in
          let l = ((delegation tables well es).keeps_one u t q at).0 in
          let pl : p < invoked u = omega (arith, l, w.earlier) in
          ⊎_elim
          (λ k. absurd (both (fate h p) (ap is_committed_op ((delegation tables well es).permanent u v at.1 p pl (over-op (fate u p) k)).0 ∙ k) d))
          (λ k. inr (u, t, at, k))
          ((recoverable tables well es).keeps_one u t q at p (tied-there h u v at.1 p q w l) (ap is_write (sym (same-mark h u v at.1 p pl)) ∙ a) (ap is_write (sym (same-mark h u v at.1 q l)) ∙ b))

  pub by_the_letter : ByTheLetter tables h
  by_the_letter =
      record {
        ends = λ u e at t a. over t (began-later u e at t (on_and (began u t) (not (ended u t)) ((fundamental tables well es).in_between u e at t a)).0);
        sagas = λ i l b. word_of i l b (stage-of i l);
        commit_dependent = both-commit;
        abort_dependent = strong;
        weak_abort_dependent = weak;
        saga_aborts = λ i j l. with-step i l j;
        saga_commits = λ i l. with-last i l;
        step_aborts = λ u i j l. with-saga i l u j;
        child_aborts = child-weak;
        child_first = child-before;
        reads_dropped = lost;
        no_rings = λ t w. (conflict-serializable tables well es).acyclic t (follows-more all-kept t t w);
      }
    where
      stage-of : (i : ℕ) → i < tables.sagas → Stage (first_of tables i) (steps_of tables i) (P i) (own_word (first_of tables i) (steps_of tables i) h)
      stage-of i l =
          subst (λ (s : State). Stage (first_of tables i) (steps_of tables i) (own s.transactions (first_of tables i)) (own_word (first_of tables i) (steps_of tables i) h)) (is_history tables es).state (staged tables well es i l)
