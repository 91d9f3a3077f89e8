-- Operations: how they end (★7), and delegation (★8).
use Prim.Native.Nat.{ℕ, ◌<◌}
use native.Mathlib.Omega.{arith}
use mathlib.Core.Path.{◌≡◌, refl, sym, ap, subst, ◌∙◌}
use mathlib.Core.Bool.{Bool, true, false, cond, ◌&&◌}
use mathlib.Core.Logic.{◌≢◌}
use mathlib.Core.List.{List, [], ◌∷◌, ◌++◌}
use lib.Dec.{eqb}
use Rattle.laws.proofs.Bools.{bool_cases}
use Rattle.terms.specs.declared.Event.{Event}
use Rattle.terms.specs.declared.Event.TheVariants.{Abort, AbortOne, Commit, CommitOne, Delegate}
use Rattle.ties.specs.Operations.{is_active as is_active_op}
use Rattle.ties.specs.declared.Fate.{Fate}
use Rattle.ties.specs.declared.Fate.TheVariants.{Aborted as FateAborted, Committed as FateCommitted}
use Rattle.tables.specs.Accepted.{Well}
use Rattle.tables.specs.Sorts.{is_plain, sort_of}
use Rattle.tables.specs.declared.Tables.{Tables}
use Rattle.rules.specs.States.{is_active, phase_of}
use Rattle.rules.specs.States.{Parent}
use Rattle.std.specs.Prelude.{None, Some}
use Rattle.rules.specs.declared.Phase.TheVariants.{Aborted, Committed}
use Rattle.histories.specs.Histories.{Account, Deed, history, kept as kept_by, moved, of_the, only, reached, retell, to_fate, to_receiver, told}
use Rattle.histories.specs.Promises.{MayEndOne}
use Rattle.histories.proofs.AcceptedWhenHolds.{accepted-when}
use Rattle.histories.proofs.JudgePromisesHold.{judge-promises}
use Rattle.histories.proofs.Singles.{ended_alone}
use Rattle.acta.specs.Delegating.{Delegation, works}
use Rattle.acta.specs.Words.{Happens, fate, in_progress, invoked, parent, responsible, runs}
use Rattle.acta.proofs.Deeds.{told_more}
use Rattle.acta.proofs.Places.{told_at}
use Rattle.acta.proofs.Runs.{accepted-there}
use Rattle.acta.proofs.ToldHolds.{is_told}
use Rattle.acta.proofs.Whose.{ended-stays}

-- ---- an account retold

module _ (meant : ℕ → Deed → Bool) (how : Deed → Deed) (a : Account) (q : ℕ) {A : Type 0} (f : Deed → A) where
  retold : f ((retell meant how a).deed q) ≡ cond (is_active_op (a.deed q).fate && meant q (a.deed q)) (f (how (a.deed q))) (f (a.deed q))
  retold =
      bool_cases (meant q (a.deed q))
      (λ x. bool_cases (is_active_op (a.deed q).fate) (λ y. rw (x, y)) (λ y. rw (x, y)))
      (λ x. bool_cases (is_active_op (a.deed q).fate) (λ y. rw (x, y)) (λ y. rw (x, y)))

  -- what it leaves alone
  untold : f (how (a.deed q)) ≡ f (a.deed q) → f ((retell meant how a).deed q) ≡ f (a.deed q)
  untold e = bool_cases (meant q (a.deed q)) (λ x. bool_cases (is_active_op (a.deed q).fate) (λ y. rw (x, y) e) (λ y. rw (x, y))) (λ x. rw x)

abbrev fate_of : Deed → Fate
fate_of d = d.fate

abbrev whose_of : Deed → ℕ
whose_of d = d.whose

-- ---- one event more

module _ (u : List Event) (t q : ℕ) where
  pub commit-fate : parent u t ≡ None → fate (u ++ (Commit t ∷ [])) q ≡ cond (works u t q) FateCommitted (fate u q)
  commit-fate n =
      ap (λ (a : Account). (a.deed q).fate) (told_more u (Commit t))
      ∙ ap (λ (p : Parent). ((kept_by t p (moved Committed t (told u))).deed q).fate) n
      ∙ retold (of_the t) (to_fate FateCommitted) (moved Committed t (told u)) q fate_of

  pub abort-fate : fate (u ++ (Abort t ∷ [])) q ≡ cond (works u t q) FateAborted (fate u q)
  abort-fate = ap (λ (a : Account). (a.deed q).fate) (told_more u (Abort t)) ∙ retold (of_the t) (to_fate FateAborted) (moved Aborted t (told u)) q fate_of

  pub hand-over : (m : ℕ) → parent u t ≡ Some m → (responsible (u ++ (Commit t ∷ [])) q ≡ cond (works u t q) m (responsible u q)) × (fate (u ++ (Commit t ∷ [])) q ≡ fate u q)
  hand-over m n =
      let to = told_more u (Commit t) ∙ ap (λ (p : Parent). kept_by t p (moved Committed t (told u))) n in (
        ap (λ (a : Account). (a.deed q).whose) to ∙ retold (of_the t) (to_receiver m) (moved Committed t (told u)) q whose_of,
        ap (λ (a : Account). (a.deed q).fate) to ∙ untold (of_the t) (to_receiver m) (moved Committed t (told u)) q fate_of refl,
      )

given-over : (u : List Event) (t r q p : ℕ)
    → (responsible (u ++ (Delegate t r q ∷ [])) p ≡ cond (eqb p q && runs u p) r (responsible u p)) × (fate (u ++ (Delegate t r q ∷ [])) p ≡ fate u p)
given-over u t r q p = (
  ap (λ (a : Account). (a.deed p).whose) (told_more u (Delegate t r q)) ∙ retold (only q) (to_receiver r) (told u) p whose_of
      ∙ ap (λ (b : Bool). cond b r (responsible u p)) (both (runs u p) (eqb p q)),
  ap (λ (a : Account). (a.deed p).fate) (told_more u (Delegate t r q)) ∙ untold (only q) (to_receiver r) (told u) p fate_of refl,
)
  where
    both : (a b : Bool) → (a && b) ≡ (b && a)
    both true true = refl
    both true false = refl
    both false true = refl
    both false false = refl

-- ---- at a place of the history

module _ (tables : Tables) (well : Well tables) (es : List Event) where
  abbrev h : List Event
  h = history tables es

  abbrev plain : ℕ → Bool
  plain t = is_plain (sort_of tables t)

  -- ★8

  single : (u : List Event) (e : Event) → Happens h u e → (t q : ℕ) → MayEndOne tables (reached tables u) t q → (q < invoked u) × (responsible u q ≡ t) × (runs u q ≡ true)
  single u e at t q may =
      let told = told_at tables well es u e at in
      let l : q < invoked u = omega (arith, may.accepted, told.count) in
      (l, sym (told.responsibles q l) ∙ may.mine, ap is_active_op (sym (told.fates q l)) ∙ may.running)

  keeps_one : (u : List Event) (t q : ℕ) → Happens h u (CommitOne t q) → (q < invoked u) × (responsible u q ≡ t) × (runs u q ≡ true)
  keeps_one u t q at =
      single u (CommitOne t q) at t q ((ended_alone tables (reached tables u) t q).commit_accepted.0 (accepted-there tables es u (CommitOne t q) at)).may_end

  drops_one : (u : List Event) (t q : ℕ) → Happens h u (AbortOne t q) → (q < invoked u) × (responsible u q ≡ t) × (runs u q ≡ true)
  drops_one u t q at = single u (AbortOne t q) at t q ((ended_alone tables (reached tables u) t q).abort_accepted.0 (accepted-there tables es u (AbortOne t q) at))

  parties : (u : List Event) (t r q : ℕ) → Happens h u (Delegate t r q)
      → (q < invoked u) × (responsible u q ≡ t) × (t ≢ r) × (in_progress u t ≡ true) × (in_progress u r ≡ true)
  parties u t r q at =
      let told = told_at tables well es u (Delegate t r q) at in
      let d = (((accepted-when tables u).delegate t r q).0 (accepted-there tables es u (Delegate t r q) at)).could in
      let l : q < invoked u = omega (arith, d.accepted, told.count) in
      (l, sym (told.responsibles q l) ∙ d.mine, d.differ, sym (told.active t) ∙ d.giver.active, sym (told.active r) ∙ d.receiver.active)

  permanent : (u v : List Event) → h ≡ u ++ v → (q : ℕ) → q < invoked u → runs u q ≡ false → (fate h q ≡ fate u q) × (responsible h q ≡ responsible u q)
  permanent u v is q l over = let same = ap (λ (x : List Event). (told x).deed q) is ∙ ended-stays q v u l over in (ap fate_of same, ap whose_of same)

  pub held_by : (q : ℕ) → q < invoked h → runs h q ≡ true → in_progress h (responsible h q) ≡ true
  held_by q l r =
      let told = is_told tables es well in
      sym (told.active (responsible h q))
      ∙ subst (λ (t : ℕ). is_active (phase_of (reached tables es).transactions t) ≡ true) (told.responsibles q l)
      ((judge-promises.any_run tables es).active q (omega (arith, l, told.count)) (ap is_active_op (told.fates q l) ∙ r))

  pub delegation : Delegation tables h
  delegation =
      record {
        parties = parties;
        moves = λ u t r q at p. given-over u t r q p;
        keeps_one = keeps_one;
        drops_one = drops_one;
        permanent = permanent;
        held = held_by;
      }
