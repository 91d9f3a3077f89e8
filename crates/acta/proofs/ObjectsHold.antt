-- Rings, recoverability and serializability (★10, ★11, ★12).
use Prim.Native.Nat.{ℕ, ◌<◌}
use native.Mathlib.Omega.{arith}
use mathlib.Core.Path.{◌≡◌, refl, sym, ap, subst, ◌∙◌}
use mathlib.Core.Bool.{Bool, true, false, cond, not, ◌&&◌, ◌||◌}
use mathlib.Core.Logic.{◌≢◌, ◌⊎◌, ⊎_elim}
use mathlib.Core.List.{List, [], ◌∷◌, ◌++◌, append_assoc}
use lib.Dec.{eqb, ltb}
use borrow.Author.Tests.{ne_eqb}
use Rattle.laws.proofs.Bools.{and-off, and_on, bool_cases, clash, or_cases, or_left}
use Rattle.terms.specs.Events.{is_write}
use Rattle.terms.specs.declared.Event.{Event}
use Rattle.terms.specs.declared.Event.TheVariants.{Commit, CommitOne, Operation as Invoke}
use Rattle.ties.specs.Operations.{is_aborted as is_aborted_op, is_active as is_active_op, is_committed as is_committed_op, op_at}
use Rattle.ties.specs.Ties.{clean_for, conflict, stood, tied, tied_to}
use Rattle.ties.specs.declared.Fate.{Fate}
use Rattle.ties.specs.declared.Fate.TheVariants.{Aborted, Active, Committed}
use Rattle.ties.proofs.TieLaws.{tie-made, tie_parts}
use Rattle.tables.specs.Accepted.{Well}
use Rattle.tables.specs.declared.Tables.{Tables}
use Rattle.std.specs.Prelude.{None}
use Rattle.histories.specs.Histories.{Account, history, no_account, reached, told}
use Rattle.histories.specs.May.{MayCommit}
use Rattle.histories.specs.Promises.{MayCommitOne}
use Rattle.histories.proofs.AcceptedWhenHolds.{accepted-when}
use Rattle.histories.proofs.Singles.{ended_alone}
use Rattle.replay.specs.Promises.{Serializable, Tie}
use Rattle.replay.specs.Replay.{comes_before, order_of}
use Rattle.replay.proofs.SerializabilityHolds.{serializability-holds}
use Rattle.acta.specs.Delegating.{works}
use Rattle.acta.specs.Objects.{ConflictSerializable, OffRings, Recoverable}
use Rattle.acta.specs.Told.{IsTold}
use Rattle.acta.specs.Words.{Happens, KeptConflict, Tied, dropped, fate, invoked, kept, mark, parent, responsible, runs}
use Rattle.acta.proofs.Deeds.{account-append, made-on, made_up, told_more}
use Rattle.acta.proofs.DelegatingHolds.{delegation}
use Rattle.acta.proofs.EndingsHold.{endings}
use Rattle.acta.proofs.Places.{told_at}
use Rattle.acta.proofs.Runs.{accepted-there}
use Rattle.acta.proofs.ToldHolds.{follows-leads, is_told}

of-kept : (f : Fate) → is_committed_op f ≡ true → f ≡ Committed
of-kept Active h = clash h refl
of-kept Committed h = refl
of-kept Aborted h = clash h refl

module _ (tables : Tables) (well : Well tables) (es : List Event) where
  abbrev h : List Event
  h = history tables es

  -- ---- whoever commits and is nobody's child

  may-commit : (u : List Event) (t : ℕ) → Happens h u (Commit t) → parent u t ≡ None → MayCommit tables (reached tables u) t
  may-commit u t at n = ((accepted-when tables u).commit t ((told_at tables well es u (Commit t) at).parents t ∙ n)).0 (accepted-there tables es u (Commit t) at)

  may-keep : (u : List Event) (t q : ℕ) → Happens h u (CommitOne t q) → MayCommitOne tables (reached tables u) t q
  may-keep u t q at = (ended_alone tables (reached tables u) t q).commit_accepted.0 (accepted-there tables es u (CommitOne t q) at)

  pub off_rings : OffRings h
  off_rings =
      record {
        commit = λ u t at n w. clash (((told_at tables well es u (Commit t) at).rings t).1 w) (may-commit u t at n).off_rings;
        keeps_one = λ u t q at w. clash (((told_at tables well es u (CommitOne t q) at).rings t).1 w) (may-keep u t q at).off_rings;
      }

  -- ---- reads

  -- a clean write is kept, or runs and is t's
  clean-words : (u : List Event) (e : Event) → Happens h u e → (t p : ℕ) → p < invoked u → clean_for t (op_at (reached tables u).ops p) ≡ true → (kept u p ≡ true) ⊎ (works u t p ≡ true)
  clean-words u e at t p l c =
      let told = told_at tables well es u e at in
      or_cases (kept u p) (works u t p)
      (subst (λ (f : Fate). (is_committed_op f || (is_active_op f && eqb (responsible u p) t)) ≡ true) (told.fates p l)
      (subst (λ (x : ℕ). (is_committed_op (op_at (reached tables u).ops p).fate || (is_active_op (op_at (reached tables u).ops p).fate && eqb x t)) ≡ true) (told.responsibles p l) c))

  kept-reads : (u : List Event) (t : ℕ) → Happens h u (Commit t) → parent u t ≡ None → (p q : ℕ) → Tied u p q → is_write (mark u p) ≡ true → is_write (mark u q) ≡ false
      → responsible u q ≡ t → dropped u q ≡ false → kept (u ++ (Commit t ∷ [])) p ≡ true
  kept-reads u t at n p q w a b mine there =
      let told = told_at tables well es u (Commit t) at in
      let tie = (told.ties p q).1 w in
      let low = of-tie told tie in
      let clean = (may-commit u t at n).clean q (omega (arith, low.1, told.count)) (told.responsibles q low.1 ∙ mine) (ap is_write (told.marks q low.1) ∙ b)
      (ap is_aborted_op (told.fates q low.1) ∙ there) p (ap is_write (told.marks p low.0) ∙ a) tie in
      ap is_committed_op ((endings tables well es).commit u t at n p)
      ∙ ⊎_elim
      (λ k. bool_cases (works u t p) (λ x. rw x) (λ x. rw x k))
      (λ k. rw k)
      (clean-words u (Commit t) at t p low.0 clean)
    where
      of-tie : IsTold tables u u → tied (reached tables u).ops p q ≡ true → (p < invoked u) × (q < invoked u)
      of-tie told e = let parts = tie_parts (reached tables u).ops p q e in (omega (arith, parts.earlier, parts.accepted, told.count), omega (arith, parts.accepted, told.count))

  for_good : (u : List Event) (t : ℕ) → Happens h u (Commit t) → (p : ℕ) → p < invoked u → kept (u ++ (Commit t ∷ [])) p ≡ true → kept h p ≡ true
  for_good u t at p l k =
      ap is_committed_op ((delegation tables well es).permanent (u ++ (Commit t ∷ [])) at.0 (at.1 ∙ sym (append_assoc u (Commit t ∷ []) at.0)) p
      (omega (arith, l, ap (λ (a : Account). a.made) (told_more u (Commit t)), made_up (Commit t) (told u))) (ended (fate (u ++ (Commit t ∷ [])) p) k)).0 ∙ k
    where
      ended : (f : Fate) → is_committed_op f ≡ true → is_active_op f ≡ false
      ended Active c = clash c refl
      ended Committed c = refl
      ended Aborted c = refl

  pub recoverable : Recoverable h
  recoverable =
      record {
        commit = kept-reads;
        writer_first = λ u t at n p q w a b mine there other.
            sym (ap is_committed_op ((endings tables well es).commit u t at n p ∙ ap (λ (x : Bool). cond x Committed (fate u p)) (others u t p other))) ∙ kept-reads u t at n p q w a b mine there;
        for_good = λ u t at n p q w a b mine there. for_good u t at p (first-in u p q w) (kept-reads u t at n p q w a b mine there);
        keeps_one = λ u t q at p w a b.
            let told = told_at tables well es u (CommitOne t q) at in
            let l = first-in u p q w in
            let r = ((delegation tables well es).keeps_one u t q at).0 in
            clean-words u (CommitOne t q) at t p l
            ((may-keep u t q at).clean (ap is_write (told.marks q r) ∙ b) p (ap is_write (told.marks p l) ∙ a) ((told.ties p q).1 w));
      }
    where
      -- what another is responsible for is none of those that t is at work on
      others : (u : List Event) (t p : ℕ) → responsible u p ≢ t → works u t p ≡ false
      others u t p n = and-off (runs u p) (eqb (responsible u p) t) (λ r. ne_eqb (responsible u p) t n)

      -- the earlier of two that are tied is in the list
      first-in : (u : List Event) (p q : ℕ) → Tied u p q → p < invoked u
      first-in u p q w =
          omega (
            arith,
            w.earlier,
            w.number,
            ap (λ (l : List Event). invoked l) w.came.1,
            ap (λ (a : Account). a.made) (account-append w.u (Invoke w.t w.o w.m ∷ w.came.0) no_account),
            made-on (Invoke w.t w.o w.m ∷ w.came.0) (told w.u),
          )

  -- ---- serializability

  kept-tie : (a b : ℕ) → KeptConflict h a b → Tie (reached tables es).ops a b
  unfolding tied_to
  kept-tie a b w =
      let told = is_told tables es well in
      let p = w.p in
      let q = w.q in
      let l : p < invoked h = omega (arith, w.earlier, w.there_are) in
      let x = op_at (reached tables es).ops p in
      let y = op_at (reached tables es).ops q in
      let kept-p : x.fate ≡ Committed = told.fates p l ∙ of-kept (fate h p) w.here in
      record {
        p = p;
        q = q;
        tie =
            tie-made (reached tables es).ops p q
            (record {
              accepted = omega (arith, w.there_are, told.count);
              earlier = w.earlier;
              holds =
                  and_on (conflict x y.object y.mark) (stood x q)
                  (rw (told.objects p l, told.marks p l, told.objects q w.there_are, told.marks q w.there_are) w.conflicting)
                  (or_left (not (is_aborted_op x.fate)) (ltb q x.ended) (rw kept-p));
            });
        here = kept-p;
        there = told.fates q w.there_are ∙ of-kept (fate h q) w.there;
        first = told.responsibles p l ∙ w.first;
        second = told.responsibles q w.there_are ∙ w.second;
        differ = w.differ;
      }

  pub conflict-serializable : ConflictSerializable h
  conflict-serializable =
      record {
        acyclic = λ t w. by.no_ring t (follows-leads (comes_before (reached tables es).ops) (KeptConflict h) (λ a b c. (by.ties a b).1 (kept-tie a b c)) t t w);
        serial = order_of (reached tables es).ops;
        all = λ t. (
          λ l.
              let w = (by.order.all t).0 l in
              let q : w.q < invoked h = omega (arith, w.accepted, told.count) in
              (w.q, q, ap is_committed_op (sym (told.fates w.q q) ∙ w.committed), sym (told.responsibles w.q q) ∙ w.whose),
          λ (q, l, k, r). (by.order.all t).1
              (record { q = q; accepted = omega (arith, l, told.count); committed = told.fates q l ∙ of-kept (fate h q) k; whose = told.responsibles q l ∙ r }),
        );
        once = by.order.once;
        forward = λ xs ys b e a c. by.order.forward xs ys b e a (kept-tie a b c);
      }
    where
      by : Serializable tables es
      by = serializability-holds tables es

      told : IsTold tables es h
      told = is_told tables es well
