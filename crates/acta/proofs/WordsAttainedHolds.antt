-- Each of a saga's words is attained: event by event its precondition holds of those before it.
use Prim.Native.Nat.{ℕ, zero, suc, ◌+◌, ◌-◌, ◌≤◌, ◌<◌}
use native.Mathlib.Omega.{arith}
use mathlib.Core.Path.{◌≡◌, refl, sym, ap, subst, subst⁻¹, ◌∙◌}
use mathlib.Core.Bool.{Bool, true, false, not, ◌&&◌, ◌||◌, and-false}
use mathlib.Core.Logic.{◌≢◌, ◌⊎◌, inl, inr, ⊎_elim}
use mathlib.Core.List.{List, [], ◌∷◌, ◌++◌, append_assoc, append-nil}
use lib.Dec.{leb, ltb}
use borrow.Author.Tests.{eq-eqb, lt-ltb, ne_eqb}
use Rattle.laws.proofs.Bools.{and_on, clash, not_on, off-or, on_and, on-not, or_left, or_off, or_right}
use Rattle.laws.proofs.Decisions.{lt-or, same_or}
use Rattle.terms.specs.declared.Event.{Event}
use Rattle.terms.specs.declared.Event.TheVariants.{Abort, Begin, Commit}
use Rattle.tables.specs.Accepted.{IsSaga, Well}
use Rattle.tables.specs.Dependencies.{dependency_at, kind_number}
use Rattle.tables.specs.Sorts.{first_of, is_known, is_plain, is_saga, number_of_all, sort_of, steps_of}
use Rattle.tables.specs.declared.Dependency.{Dependency}
use Rattle.tables.specs.declared.Kind.{Kind}
use Rattle.tables.specs.declared.Sort.{Sort}
use Rattle.tables.specs.declared.Sort.TheVariants.{Plain, Saga, Step, Undo}
use Rattle.tables.specs.declared.Tables.{Tables}
use Rattle.tables.proofs.EntriesInWordsHold.{entries-in-words}
use Rattle.tables.proofs.SagaLaws.{sort-saga, sort-step, sort-undo, well-steps}
use Rattle.rules.specs.States.{is_aborted, is_child, is_committed, is_idle, phase_of}
use Rattle.rules.specs.States.{Parent}
use Rattle.std.specs.Prelude.{None, Some}
use Rattle.rules.specs.declared.Phase.{Phase}
use Rattle.rules.specs.declared.Phase.TheVariants.{Aborted, Active, Committed, Idle}
use Rattle.histories.specs.Histories.{Account, history, kept, moved, reached, taken, told}
use Rattle.acta.specs.Accepting.{Accepting, order_lets_abort, order_lets_begin, order_lets_commit}
use Rattle.acta.specs.Depending.{Declared}
use Rattle.acta.specs.SagaLemmas.{WordsAttained}
use Rattle.acta.specs.SagaWords.{Word, back, between, failing, forth, whole, within}
use Rattle.acta.specs.Told.{IsTold}
use Rattle.acta.specs.Words.{Follows, Precedes, aborted, aborts, and_on as and-after, began, begins, committed, commits, ended, in_progress, invoked, occurs, once, parent}
use Rattle.acta.proofs.AcceptingHolds.{accepting}
use Rattle.acta.proofs.Deeds.{nothing-told, told_more}
use Rattle.acta.proofs.Invoking.{one_more}
use Rattle.acta.proofs.Places.{occurs-append}
use Rattle.acta.proofs.ToldHolds.{is_told}

-- one event more
more : (g : Event → Bool) (u : List Event) (e : Event) → occurs g (u ++ (e ∷ [])) ≡ (occurs g u || g e)
unfolding occurs
more g u e = occurs-append g u (e ∷ []) ∙ ap (λ (b : Bool). occurs g u || b) (alone (g e))
  where
    alone : (b : Bool) → (b || false) ≡ b
    alone true = refl
    alone false = refl

-- what e has no part in is as before
same_more : (g : Event → Bool) (u : List Event) (e : Event) → g e ≡ false → occurs g (u ++ (e ∷ [])) ≡ occurs g u
same_more g u e n = more g u e ∙ rest (occurs g u) (g e) n
  where
    rest : (a b : Bool) → b ≡ false → (a || b) ≡ a
    rest true b q = refl
    rest false b q = q

now-more : (g : Event → Bool) (u : List Event) (e : Event) → g e ≡ true → occurs g (u ++ (e ∷ [])) ≡ true
now-more g u e n = more g u e ∙ or_right (occurs g u) (g e) n

still-more : (g : Event → Bool) (u : List Event) (e : Event) → occurs g u ≡ true → occurs g (u ++ (e ∷ [])) ≡ true
still-more g u e n = more g u e ∙ or_left (occurs g u) (g e) n

module _ (tables : Tables) (well : Well tables) where
  -- a history without operations and children
  record At (u : List Event) : Type 0 where
    all : history tables u ≡ u
    none : invoked u ≡ 0
    no_child : (c : ℕ) → parent u c ≡ None

  module _ (u : List Event) (at : At u) where
    takes-when : Accepting tables u
    takes-when = subst (Accepting tables) at.all (accepting tables well u)

    -- no operation: no order
    no-order : (a b : ℕ) → Follows (Precedes u) a b → ⊥
    no-order a b (once x) =
        let w = x.tie in
        omega (arith, at.none, ap (λ (l : List Event). invoked l) w.came.1, one_more w.t w.o w.m w.u w.came.0)
    no-order a b (and-after x r) =
        let w = x.tie in
        omega (arith, at.none, ap (λ (l : List Event). invoked l) w.came.1, one_more w.t w.o w.m w.u w.came.0)

    -- who has not begun has not ended
    not-ended : (t : ℕ) → began u t ≡ false → ended u t ≡ false
    not-ended t n =
        let now : IsTold tables u u = subst (IsTold tables u) at.all (is_told tables u well) in
        let p = phase_of (reached tables u).transactions t in
        or_off (committed u t) (aborted u t)
        (sym (now.committed_is t) ∙ (by-idle p (now.idle t ∙ not_on (began u t) n)).0)
        (sym (now.aborted_is t) ∙ (by-idle p (now.idle t ∙ not_on (began u t) n)).1)
      where
        by-idle : (p : Phase) → is_idle p ≡ true → (is_committed p ≡ false) × (is_aborted p ≡ false)
        by-idle Idle h = (refl, refl)
        by-idle Active h = clash h refl
        by-idle Committed h = clash h refl
        by-idle Aborted h = clash h refl

    begin-more : (t : ℕ) → is_known (sort_of tables t) ≡ true → began u t ≡ false → order_lets_begin u (sort_of tables t) ≡ true → ((b : ℕ) (k : Kind) → Declared tables t b k → ⊥)
        → At (u ++ (Begin t ∷ []))
    begin-more t known fresh order free =
        record {
          all = (takes-when.begin t).1 (record { known = known; fresh = fresh; order = order; declared = λ b k d. absurd (free b k d) });
          none = ap (λ (a : Account). a.made) (told_more u (Begin t)) ∙ at.none;
          no_child = λ c. ap (λ (a : Account). a.parent c) (told_more u (Begin t)) ∙ at.no_child c;
        }

    commit-more : (t : ℕ) → in_progress u t ≡ true → order_lets_commit u (sort_of tables t) ≡ true → ((b : ℕ) (k : Kind) → Declared tables t b k → ⊥) → At (u ++ (Commit t ∷ []))
    commit-more t going order free =
        record {
          all =
              (takes-when.commit t (at.no_child t)).1
              (record {
                going = going;
                order = order;
                declared = λ b k d. absurd (free b k d);
                children = λ c p. absurd (nobody c p);
                reads = λ q l. absurd (omega (arith, l, at.none));
                off_rings = no-order t t;
              });
          none = ap (λ (a : Account). a.made) (told_more u (Commit t)) ∙ ap (λ (p : Parent). (kept t p (moved Committed t (told u))).made) (at.no_child t) ∙ at.none;
          no_child = λ c. ap (λ (a : Account). a.parent c) (told_more u (Commit t)) ∙ ap (λ (p : Parent). (kept t p (moved Committed t (told u))).parent c) (at.no_child t) ∙ at.no_child c;
        }
      where
        nobody : (c : ℕ) → parent u c ≡ Some t → ⊥
        nobody c p = clash (ap is_child (sym (at.no_child c) ∙ p)) refl

    abort-more : (t : ℕ) → in_progress u t ≡ true → order_lets_abort u (sort_of tables t) ≡ true → At (u ++ (Abort t ∷ []))
    abort-more t going order =
        record {
          all = (takes-when.abort t).1 (record { going = going; order = order });
          none = ap (λ (a : Account). a.made) (told_more u (Abort t)) ∙ at.none;
          no_child = λ c. ap (λ (a : Account). a.parent c) (told_more u (Abort t)) ∙ at.no_child c;
        }

    -- who begins now is in progress
    opened : (t : ℕ) → began u t ≡ false → in_progress (u ++ (Begin t ∷ [])) t ≡ true
    opened t n =
        let o = off-or (committed u t) (aborted u t) (not-ended t n) in
        rw (now-more (begins t) u (Begin t) (eq-eqb t t refl), same_more (commits t) u (Begin t) refl ∙ o.0, same_more (aborts t) u (Begin t) refl ∙ o.1)

  -- what e has no part in goes on as it did
  goes_on : (u : List Event) (e : Event) (t : ℕ) → begins t e ≡ false → commits t e ≡ false → aborts t e ≡ false → in_progress (u ++ (e ∷ [])) t ≡ in_progress u t
  goes_on u e t b c a = rw (same_more (begins t) u e b, same_more (commits t) u e c, same_more (aborts t) u e a)

  -- who has ended is not in progress
  over : (u : List Event) (t : ℕ) → ended u t ≡ true → in_progress u t ≡ false
  over u t e = rw e (and-false (began u t))

  going-open : (u : List Event) (t : ℕ) → in_progress u t ≡ true → committed u t ≡ false
  going-open u t g = (off-or (committed u t) (aborted u t) (on-not (ended u t) (on_and (began u t) (not (ended u t)) g).1)).0

  -- whoever declares a dependency is plain or an S
  dependent_sort : (d b : ℕ) (k : Kind) → Declared tables d b k → (sort_of tables d ≡ Plain) ⊎ IsSaga (sort_of tables d)
  dependent_sort d b k (x, l, is) =
      let e = (entries-in-words.allowed_is tables (number_of_all tables) (dependency_at tables x).dependent (dependency_at tables x).base (kind_number (dependency_at tables x).kind)).0 (well.permitted x (omega arith)) in
      subst (λ (t : ℕ). (sort_of tables t ≡ Plain) ⊎ IsSaga (sort_of tables t)) (ap (λ (y : Dependency). y.dependent) is)
      (⊎_elim (λ p. inl p) (λ (l, p). inr p) e.dependent_sort)

  none-declared : (t : ℕ) (x : Sort) → sort_of tables t ≡ x → is_plain x ≡ false → is_saga x ≡ false → (b : ℕ) (k : Kind) → Declared tables t b k → ⊥
  none-declared t x q np ns b k d =
      ⊎_elim
      (λ p. clash (ap is_plain p) (ap is_plain q ∙ np))
      (λ (f, n, p). clash (ap is_saga p) (ap is_saga q ∙ ns))
      (dependent_sort t b k d)

  module _ (i : ℕ) (listed : i < tables.sagas) (free : (b : ℕ) (k : Kind) → Declared tables (first_of tables i) b k → ⊥) where
    abbrev f : ℕ
    f = first_of tables i

    abbrev n : ℕ
    n = steps_of tables i

    has-step : 1 ≤ n
    has-step = (well-steps tables well i listed).0

    is-saga : sort_of tables f ≡ Saga f n
    is-saga = sort-saga tables i has-step

    is-step : (j : ℕ) → 1 ≤ j → j ≤ n → sort_of tables (f + j) ≡ Step f n j
    is-step j l r = sort-step tables i j l r

    is-undo : (j : ℕ) → 1 ≤ j → j < n → sort_of tables (f + (n + j)) ≡ Undo f n j
    is-undo j l r = sort-undo tables i j l r

    -- ---- forth

    -- S is in progress, T1 to T(j) have committed, T(j+1) is in progress or has not begun, and none above it has, nor any undo
    record Forth (j : ℕ) (u : List Event) (going : Bool) : Type 0 where
      at : At u
      saga : in_progress u f ≡ true
      up : (k : ℕ) → 1 ≤ k → k ≤ j → committed u (f + k) ≡ true
      step : j < n → in_progress u (f + suc j) ≡ going
      begun : j < n → began u (f + suc j) ≡ going
      fresh : (k : ℕ) → suc j < k → k ≤ n → began u (f + k) ≡ false
      undos : (k : ℕ) → 1 ≤ k → k < n → began u (f + (n + k)) ≡ false

    empty : At []
    unfolding taken
    empty = record { all = refl; none = ap (λ (a : Account). a.made) nothing-told; no_child = λ c. ap (λ (a : Account). a.parent c) nothing-told }

    none_yet : (t : ℕ) → began [] t ≡ false
    unfolding occurs
    none_yet t = refl

    started : Forth 0 (Begin f ∷ []) false
    started =
        record {
          at = begin-more [] empty f (ap is_known is-saga) (none_yet f) (ap (order_lets_begin []) is-saga) free;
          saga = opened [] empty f (none_yet f);
          up = λ k l r. absurd (omega arith);
          step = λ l. rw (first (f + 1) (λ e. absurd (omega arith)));
          begun = λ l. first (f + 1) (λ e. absurd (omega arith));
          fresh = λ k l r. first (f + k) (λ e. absurd (omega arith));
          undos = λ k l r. first (f + (n + k)) (λ e. absurd (omega arith));
        }
      where
        first : (t : ℕ) → f ≢ t → began ([] ++ (Begin f ∷ [])) t ≡ false
        first t e = same_more (begins t) [] (Begin f) (ne_eqb f t e) ∙ none_yet t

    open_step : (j : ℕ) (u : List Event) → j < n → Forth j u false → Forth j (u ++ (Begin (f + suc j) ∷ [])) true
    open_step j u l F =
        let t = f + suc j in
        let e = Begin t in
        record {
          at =
              begin-more u F.at t (ap is_known (is-step (suc j) (omega arith) l)) (F.begun l)
              (subst⁻¹ (λ (x : Sort). order_lets_begin u x ≡ true) (is-step (suc j) (omega arith) l)
              (and_on (in_progress u f) (leb (suc j) 1 || committed u (f + (suc j - 1))) F.saga (before j F.up)))
              (none-declared t (Step f n (suc j)) (is-step (suc j) (omega arith) l) refl refl);
          saga = goes_on u e f (ne_eqb t f (λ q. absurd (omega arith))) refl refl ∙ F.saga;
          up = λ k a b. still-more (commits (f + k)) u e (F.up k a b);
          step = λ a. opened u F.at t (F.begun l);
          begun = λ a. now-more (begins t) u e (eq-eqb t t refl);
          fresh = λ k a b. same_more (begins (f + k)) u e (ne_eqb t (f + k) (λ q. absurd (omega arith))) ∙ F.fresh k a b;
          undos = λ k a b. same_more (begins (f + (n + k))) u e (ne_eqb t (f + (n + k)) (λ q. absurd (omega arith))) ∙ F.undos k a b;
        }
      where
        before : (j : ℕ) → ((k : ℕ) → 1 ≤ k → k ≤ j → committed u (f + k) ≡ true) → (leb (suc j) 1 || committed u (f + (suc j - 1))) ≡ true
        before zero up = refl
        before (suc k) up =
            let e : suc (suc k) - 1 ≡ suc k = omega arith in
            or_right (leb (suc (suc k)) 1) (committed u (f + (suc (suc k) - 1))) (subst⁻¹ (λ (z : ℕ). committed u (f + z) ≡ true) e (up (suc k) (omega arith) (omega arith)))

    shut-step : (j : ℕ) (u : List Event) → j < n → Forth j u true → Forth (suc j) (u ++ (Commit (f + suc j) ∷ [])) false
    shut-step j u l F =
        let t = f + suc j in
        let e = Commit t in
        let new : suc j < n → began (u ++ (e ∷ [])) (f + suc (suc j)) ≡ false = λ a. same_more (begins (f + suc (suc j))) u e refl ∙ F.fresh (suc (suc j)) (omega arith) a in
        record {
          at =
              commit-more u F.at t (F.step l) (subst⁻¹ (λ (x : Sort). order_lets_commit u x ≡ true) (is-step (suc j) (omega arith) l) F.saga)
              (none-declared t (Step f n (suc j)) (is-step (suc j) (omega arith) l) refl refl);
          saga = goes_on u e f refl (ne_eqb t f (λ q. absurd (omega arith))) refl ∙ F.saga;
          up = λ k a b. same_or k (suc j)
              (λ q. now-more (commits (f + k)) u e (eq-eqb t (f + k) (ap (λ (z : ℕ). f + z) (sym q))))
              (λ q. still-more (commits (f + k)) u e (F.up k a (omega (arith, b, q))));
          step = λ a. rw (new a);
          begun = new;
          fresh = λ k a b. same_more (begins (f + k)) u e refl ∙ F.fresh k (omega arith) b;
          undos = λ k a b. same_more (begins (f + (n + k))) u e refl ∙ F.undos k a b;
        }

    all-forth : (j : ℕ) → j ≤ n → Forth j (Begin f ∷ forth f j) false
    unfolding forth
    all-forth zero l = started
    all-forth (suc j) l =
        subst (λ (x : List Event). Forth (suc j) x false) (append_assoc (Begin f ∷ forth f j) (Begin (f + suc j) ∷ []) (Commit (f + suc j) ∷ []))
        (shut-step j ((Begin f ∷ forth f j) ++ (Begin (f + suc j) ∷ [])) (omega arith) (open_step j (Begin f ∷ forth f j) (omega arith) (all-forth j (omega arith))))

    -- the last step has not committed
    not_last : (j : ℕ) (u : List Event) (going : Bool) → j < n → Forth j u going → committed u (f + n) ≡ false
    not_last j u going l F =
        same_or n (suc j)
        (λ q. subst⁻¹ (λ (z : ℕ). committed u (f + z) ≡ false) q (by going refl))
        (λ q. (off-or (committed u (f + n)) (aborted u (f + n)) (not-ended u F.at (f + n) (F.fresh n (omega (arith, l, q)) (omega arith)))).0)
      where
        by : (b : Bool) → going ≡ b → committed u (f + suc j) ≡ false
        by true q = going-open u (f + suc j) (F.step l ∙ q)
        by false q = (off-or (committed u (f + suc j)) (aborted u (f + suc j)) (not-ended u F.at (f + suc j) (F.begun l ∙ q))).0

    -- ---- back

    -- S has aborted, T1 to T(j) have committed and no other step, none is in progress, C(j) to C(k+1) have committed, and those below have not begun
    record Back (j k : ℕ) (u : List Event) : Type 0 where
      at : At u
      saga : aborted u f ≡ true
      up : (m : ℕ) → 1 ≤ m → m ≤ j → committed u (f + m) ≡ true
      next : in_progress u (f + suc j) ≡ false
      none_more : committed u (f + suc j) ≡ false
      undone : (m : ℕ) → k < m → m ≤ j → committed u (f + (n + m)) ≡ true
      fresh : (m : ℕ) → 1 ≤ m → m ≤ k → began u (f + (n + m)) ≡ false

    undo_step : (j k : ℕ) (u : List Event) → suc k ≤ j → j < n → Back j (suc k) u → Back j k ((u ++ (Begin (f + (n + suc k)) ∷ [])) ++ (Commit (f + (n + suc k)) ∷ []))
    undo_step j k u kj jn B =
        let t = f + (n + suc k) in
        let v = u ++ (Begin t ∷ []) in
        let e = Commit t in
        let new = B.fresh (suc k) (omega arith) (omega arith) in
        let sort = is-undo (suc k) (omega arith) (omega arith) in
        let there =
        begin-more u B.at t (ap is_known sort) new (subst⁻¹ (λ (x : Sort). order_lets_begin u x ≡ true) sort order) (none-declared t (Undo f n (suc k)) sort refl refl) in
        record {
          at = commit-more v there t (opened u B.at t new) (ap (order_lets_commit v) sort) (none-declared t (Undo f n (suc k)) sort refl refl);
          saga = still-more (aborts f) v e (still-more (aborts f) u (Begin t) B.saga);
          up = λ m a b. still-more (commits (f + m)) v e (still-more (commits (f + m)) u (Begin t) (B.up m a b));
          next =
              goes_on v e (f + suc j) refl (ne_eqb t (f + suc j) (λ q. absurd (omega arith))) refl
              ∙ goes_on u (Begin t) (f + suc j) (ne_eqb t (f + suc j) (λ q. absurd (omega arith))) refl refl ∙ B.next;
          none_more = same_more (commits (f + suc j)) v e (ne_eqb t (f + suc j) (λ q. absurd (omega arith))) ∙ same_more (commits (f + suc j)) u (Begin t) refl ∙ B.none_more;
          undone = λ m a b. same_or m (suc k)
              (λ q. now-more (commits (f + (n + m))) v e (eq-eqb t (f + (n + m)) (ap (λ (z : ℕ). f + (n + z)) (sym q))))
              (λ q. still-more (commits (f + (n + m))) v e (still-more (commits (f + (n + m))) u (Begin t) (B.undone m (omega (arith, a, q)) b)));
          fresh = λ m a b.
              same_more (begins (f + (n + m))) v e refl ∙ same_more (begins (f + (n + m))) u (Begin t) (ne_eqb t (f + (n + m)) (λ q. absurd (omega arith))) ∙ B.fresh m a (omega arith);
        }
      where
        one_on : suc k + 1 ≡ suc (suc k)
        one_on = omega arith

        done : ℕ → Bool
        done z = committed u (f + z)

        undone-too : ℕ → Bool
        undone-too z = ltb z n && committed u (f + (n + z))

        -- the next step is not in progress, and if it committed, so has its undo
        after : (z : ℕ) → z ≡ suc (suc k) → (not (in_progress u (f + z)) && (not (done z) || undone-too z)) ≡ true
        after z e =
            lt-or (suc k) j
            (λ l.
            let c = B.up z (omega arith) (omega arith) in
            and_on (not (in_progress u (f + z))) (not (done z) || undone-too z)
            (not_on (in_progress u (f + z)) (over u (f + z) (or_left (committed u (f + z)) (aborted u (f + z)) c)))
            (or_right (not (done z)) (undone-too z) (and_on (ltb z n) (committed u (f + (n + z))) (lt-ltb z n (omega arith)) (B.undone z (omega arith) (omega arith)))))
            (λ l.
            let q : z ≡ suc j = omega arith in
            and_on (not (in_progress u (f + z))) (not (done z) || undone-too z)
            (not_on (in_progress u (f + z)) (subst⁻¹ (λ (y : ℕ). in_progress u (f + y) ≡ false) q B.next))
            (or_left (not (done z)) (undone-too z) (not_on (done z) (subst⁻¹ (λ (y : ℕ). committed u (f + y) ≡ false) q B.none_more))))

        order : order_lets_begin u (Undo f n (suc k)) ≡ true
        order =
            let z = suc k + 1 in
            let last = not (in_progress u (f + z)) && (not (done z) || undone-too z) in
            and_on (aborted u f) (committed u (f + suc k) && last) B.saga (and_on (committed u (f + suc k)) last (B.up (suc k) (omega arith) kj) (after z one_on))

    all_back : (j k : ℕ) (u : List Event) → k ≤ j → j < n → Back j k u → At (u ++ back f n k)
    unfolding back
    all_back j zero u kj jn B = subst⁻¹ At (append-nil u) B.at
    all_back j (suc k) u kj jn B =
        let t = f + (n + suc k) in
        subst At (append_assoc (u ++ (Begin t ∷ [])) (Commit t ∷ []) (back f n k) ∙ append_assoc u (Begin t ∷ []) (Commit t ∷ back f n k))
        (all_back j k ((u ++ (Begin t ∷ [])) ++ (Commit t ∷ [])) (omega arith) jn (undo_step j k u kj jn B))

    -- ---- the words

    module _ (j : ℕ) (l : j < n) where
      abbrev T : ℕ
      T = f + suc j

      abbrev u₀ : List Event
      u₀ = Begin f ∷ forth f j

      abbrev u₁ : List Event
      u₁ = u₀ ++ (Begin T ∷ [])

      first : Forth j u₀ false
      first = all-forth j (omega arith)

      second : Forth j u₁ true
      second = open_step j u₀ l first

      -- S aborts
      saga-stops : (u : List Event) → At u → in_progress u f ≡ true → committed u (f + n) ≡ false → At (u ++ (Abort f ∷ []))
      saga-stops u at going idle = abort-more u at f going (subst⁻¹ (λ (x : Sort). order_lets_abort u x ≡ true) is-saga (not_on (committed u (f + n)) idle))

      step-stops : (u : List Event) → At u → in_progress u T ≡ true → At (u ++ (Abort T ∷ []))
      step-stops u at going = abort-more u at T going (ap (order_lets_abort u) (is-step (suc j) (omega arith) l))

      apart : f ≢ T
      apart q = absurd (omega arith)

      -- between two steps
      stopped : Back j j (u₀ ++ (Abort f ∷ []))
      stopped =
          let e = Abort f in
          let idle = first.begun l in
          record {
            at = saga-stops u₀ first.at first.saga (not_last j u₀ false l first);
            saga = now-more (aborts f) u₀ e (eq-eqb f f refl);
            up = λ m a b. still-more (commits (f + m)) u₀ e (first.up m a b);
            next = goes_on u₀ e T refl refl (ne_eqb f T apart) ∙ first.step l;
            none_more = same_more (commits T) u₀ e refl ∙ (off-or (committed u₀ T) (aborted u₀ T) (not-ended u₀ first.at T idle)).0;
            undone = λ m a b. absurd (omega arith);
            fresh = λ m a b. same_more (begins (f + (n + m))) u₀ e refl ∙ first.undos m a (omega arith);
          }

      -- two aborts, that of S and that of T(j+1), in either order
      module _ (x y : Event) (stops : At ((u₁ ++ (x ∷ [])) ++ (y ∷ []))) (of-saga : aborted ((u₁ ++ (x ∷ [])) ++ (y ∷ [])) f ≡ true) (of-step : aborted ((u₁ ++ (x ∷ [])) ++ (y ∷ [])) T ≡ true)
          (quiet-x : (t : ℕ) → (begins t x ≡ false) × (commits t x ≡ false)) (quiet-y : (t : ℕ) → (begins t y ≡ false) × (commits t y ≡ false)) where
        abbrev v : List Event
        v = (u₁ ++ (x ∷ [])) ++ (y ∷ [])

        both : Back j j v
        both =
            record {
              at = stops;
              saga = of-saga;
              up = λ m a b. still-more (commits (f + m)) (u₁ ++ (x ∷ [])) y (still-more (commits (f + m)) u₁ x (second.up m a b));
              next = over v T (or_right (committed v T) (aborted v T) of-step);
              none_more = same_more (commits T) (u₁ ++ (x ∷ [])) y (quiet-y T).1 ∙ same_more (commits T) u₁ x (quiet-x T).1 ∙ going-open u₁ T (second.step l);
              undone = λ m a b. absurd (omega arith);
              fresh = λ m a b.
                  same_more (begins (f + (n + m))) (u₁ ++ (x ∷ [])) y (quiet-y (f + (n + m))).0 ∙ same_more (begins (f + (n + m))) u₁ x (quiet-x (f + (n + m))).0 ∙ second.undos m a (omega arith);
            }

      torn : Back j j ((u₁ ++ (Abort f ∷ [])) ++ (Abort T ∷ []))
      torn =
          let w = u₁ ++ (Abort f ∷ []) in
          both (Abort f) (Abort T)
          (step-stops w (saga-stops u₁ second.at second.saga (not_last j u₁ true l second)) (goes_on u₁ (Abort f) T refl refl (ne_eqb f T apart) ∙ second.step l))
          (still-more (aborts f) w (Abort T) (now-more (aborts f) u₁ (Abort f) (eq-eqb f f refl))) (now-more (aborts T) w (Abort T) (eq-eqb T T refl))
          (λ t. (refl, refl)) (λ t. (refl, refl))

      broken : Back j j ((u₁ ++ (Abort T ∷ [])) ++ (Abort f ∷ []))
      broken =
          let w = u₁ ++ (Abort T ∷ []) in
          both (Abort T) (Abort f)
          (saga-stops w (step-stops u₁ second.at (second.step l)) (goes_on u₁ (Abort T) f refl refl (ne_eqb T f (λ q. apart (sym q))) ∙ second.saga)
          (same_more (commits (f + n)) u₁ (Abort T) refl ∙ not_last j u₁ true l second))
          (now-more (aborts f) w (Abort f) (eq-eqb f f refl)) (still-more (aborts T) w (Abort f) (now-more (aborts T) u₁ (Abort T) (eq-eqb T T refl)))
          (λ t. (refl, refl)) (λ t. (refl, refl))

    attains : (w : List Event) → Word f n w → At w
    attains w whole =
        let F = all-forth n (omega arith) in
        let u = Begin f ∷ forth f n in
        commit-more u F.at f F.saga (subst⁻¹ (λ (x : Sort). order_lets_commit u x ≡ true) is-saga (F.up n has-step (omega arith))) free
    attains w (between j l) = subst At (append_assoc (u₀ j l) (Abort f ∷ []) (back f n j)) (all_back j j (u₀ j l ++ (Abort f ∷ [])) (omega arith) l (stopped j l))
    attains w (within j l) =
        let t = f + suc j in
        let b = back f n j in
        subst At
        (append_assoc (u₁ j l ++ (Abort f ∷ [])) (Abort t ∷ []) b ∙ append_assoc (u₁ j l) (Abort f ∷ []) (Abort t ∷ b) ∙ append_assoc (u₀ j l) (Begin t ∷ []) (Abort f ∷ Abort t ∷ b))
        (all_back j j ((u₁ j l ++ (Abort f ∷ [])) ++ (Abort t ∷ [])) (omega arith) l (torn j l))
    attains w (failing j l) =
        let t = f + suc j in
        let b = back f n j in
        subst At
        (append_assoc (u₁ j l ++ (Abort t ∷ [])) (Abort f ∷ []) b ∙ append_assoc (u₁ j l) (Abort t ∷ []) (Abort f ∷ b) ∙ append_assoc (u₀ j l) (Begin t ∷ []) (Abort t ∷ Abort f ∷ b))
        (all_back j j ((u₁ j l ++ (Abort t ∷ [])) ++ (Abort f ∷ [])) (omega arith) l (broken j l))

pub words_attained : (tables : Tables) → Well tables → (i : ℕ) → i < tables.sagas → WordsAttained tables i
words_attained tables well i l free w is = (attains tables well i l free w is).all
