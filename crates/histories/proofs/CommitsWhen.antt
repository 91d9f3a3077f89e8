-- When a commit is accepted, that of a child and that of anyone else, and when a spawn is; when 15, 16 and 22 refuse a commit.
use Prim.Native.Nat.{ℕ, ◌≤◌}
use native.Mathlib.Omega.{arith}
use mathlib.Core.Path.{◌≡◌, refl, sym, ap, ◌∙◌, subst, subst⁻¹}
use mathlib.Core.Bool.{Bool, true, false, not, ◌||◌}
use mathlib.Core.Logic.{◌↔◌, ◌≢◌}
use mathlib.Core.List.{List, []}
use lib.ListN.{drop, length, take}
use borrow.Author.Tests.{eq-eqb}
use Rattle.laws.specs.Lines.{Line, Off}
use Rattle.laws.proofs.Bools.{and-off, and-rest, bool_cases, clash, is-not, not-off, off-not, off-or, or_off}
use Rattle.laws.proofs.Decisions.{lt-or}
use Rattle.laws.proofs.IndexLaws.{any-elim, any-off, off-any}
use Rattle.terms.specs.Limits.{most_transactions}
use Rattle.terms.specs.declared.Event.{Event}
use Rattle.terms.specs.declared.Event.TheVariants.{Commit, Spawn}
use Rattle.terms.specs.declared.Refusal.{Refusal}
use Rattle.terms.specs.declared.Refusal.TheVariants.{DirtyRead, OnRing, UndoOnRing}
use Rattle.terms.specs.declared.Verdict.TheVariants.{Accepted, Refused}
use Rattle.ties.specs.Operations.{op_at, size}
use Rattle.ties.specs.Ties.{before_handed, dirty, dirty_at, on_ring, ring_with}
use Rattle.ties.proofs.DirtyLaws.{clean-dirty, dirty-by, dirty-clean, read_on, read-parts}
use Rattle.tables.specs.Sorts.{is_known, is_plain, sort_of}
use Rattle.tables.specs.declared.Tables.{Tables}
use Rattle.rules.specs.Rules.{active_child, active_undo, child_active, declared_bars, inactive}
use Rattle.rules.specs.States.{has_ended, is_active, is_idle, is_under, parent_of, phase_of}
use Rattle.std.specs.Prelude.{None, Some}
use Rattle.rules.specs.declared.Phase.{Phase}
use Rattle.rules.specs.declared.Phase.TheVariants.{Aborted, Active, Committed, Idle}
use Rattle.rules.specs.declared.State.{State}
use Rattle.rules.proofs.PhaseLaws.{code}
use Rattle.rules.proofs.StateLaws.{past-free, under-is}
use Rattle.judge.specs.Judge.{awaits_child, commit_lines, commit_lines_under, hand_lines, judged, lines, unknown, verdict_by}
use Rattle.judge.proofs.ClerkLaws.{plain_known}
use Rattle.judge.proofs.EventLaws.{lines-off, never-given, off-lines, only-line, verdict-lines}
use Rattle.histories.specs.Histories.{reached}
use Rattle.histories.specs.May.{ChildrenDone, CouldCommit, CouldHand, MayCommit, MayHand, MaySpawn, ReadsDirty}
use Rattle.histories.specs.Promises.{UndoRinged}
use Rattle.histories.proofs.Invariants.{lasting}
use Rattle.histories.proofs.Kin.{Kin, clerk-is, kin, nobody-under}
use Rattle.histories.proofs.UndoRings.{rings_handed}

-- ---- a spawn

module _ (tables : Tables) (s : State) (m c : ℕ) where
  pub spawn-may : (judged tables s (Spawn m c)).verdict ≡ Accepted → MaySpawn tables s m c
  spawn-may v =
      let off = lines-off tables s (Spawn m c) v in
      let both = off-or (not (is_plain (sort_of tables m))) (not (is_plain (sort_of tables c))) off.1.0 in
      record {
        parent = off-not (is_plain (sort_of tables m)) both.0;
        child = off-not (is_plain (sort_of tables c)) both.1;
        idle = off-not (is_idle (phase_of s.transactions c)) off.1.1.0;
        active = off-not (is_active (phase_of s.transactions m)) off.1.1.1.0;
        declared = off.1.1.1.1.0;
      }

  pub may-spawn : MaySpawn tables s m c → (judged tables s (Spawn m c)).verdict ≡ Accepted
  may-spawn may =
      off-lines tables s (Spawn m c) (
        or_off (unknown tables m) (unknown tables c) (plain_known (sort_of tables m) may.parent) (plain_known (sort_of tables c) may.child),
        (
          or_off (not (is_plain (sort_of tables m))) (not (is_plain (sort_of tables c))) (not-off (is_plain (sort_of tables m)) may.parent) (not-off (is_plain (sort_of tables c)) may.child),
          (
            not-off (is_idle (phase_of s.transactions c)) may.idle,
            (not-off (is_active (phase_of s.transactions m)) may.active, (may.declared, tt)),
          ),
        ),
      )

-- ---- children

module _ (tables : Tables) (s : State) (h : Kin tables s) (full : length s.transactions ≡ most_transactions) (t : ℕ) where
  awaits-done : awaits_child tables s.transactions t ≡ false → ChildrenDone s t
  unfolding child_active
  awaits-done off c e =
      let none = and-rest (is_plain (sort_of tables t)) (child_active s.transactions t) off (h.plain c t e).1 in
      lt-or c most_transactions
      (λ l.
      and-rest (is_under t (parent_of s.transactions c)) (is_active (phase_of s.transactions c)) (off-any most_transactions (active_child s.transactions t) none c l)
      (rw (e, eq-eqb t t refl)))
      (λ l. absurd (nobody-under t (sym (past-free s.transactions c (omega (arith, full))) ∙ e)))

  done-awaits : ChildrenDone s t → awaits_child tables s.transactions t ≡ false
  unfolding child_active
  done-awaits done =
      and-off (is_plain (sort_of tables t)) (child_active s.transactions t)
      (λ plain.
      any-off most_transactions (active_child s.transactions t)
      (λ c l.
      and-off (is_under t (parent_of s.transactions c)) (is_active (phase_of s.transactions c)) (λ u. done c (under-is t (parent_of s.transactions c) u))))

-- ---- a dirty read, as a line and in words

module _ (tables : Tables) (s : State) (t : ℕ) where
  dirty-on : dirty s.ops t ≡ true → ReadsDirty s.ops t
  unfolding dirty
  dirty-on on =
      let w = any-elim (size s.ops) (dirty_at s.ops t) on in
      let d = dirty-by s.ops t w.0 w.1 w.2 in
      let x = read-parts t (op_at s.ops w.0) d.0 in
      record {
        q = w.0;
        accepted = w.1;
        own = x.0;
        read = x.1.0;
        there = x.1.1;
        p = d.1.0;
        write = d.1.1;
        tie = d.1.2;
        unclean = d.1.3;
      }

  on-dirty : ReadsDirty s.ops t → dirty s.ops t ≡ true
  unfolding dirty
  on-dirty d =
      bool_cases (dirty s.ops t) (λ on. on)
      (λ off.
      clash
      (dirty-clean s.ops t d.q (off-any (size s.ops) (dirty_at s.ops t) off d.q d.accepted) (read_on t (op_at s.ops d.q) d.own d.read d.there) d.p d.write d.tie)
      d.unclean)

-- ---- in a state that events lead to

-- whoever has begun is active, or has ended
begun-ended : (p : Phase) → 1 ≤ code p → not (is_active p) ≡ has_ended p
begun-ended Idle h = absurd (omega arith)
begun-ended Active h = refl
begun-ended Committed h = refl
begun-ended Aborted h = refl

module _ (tables : Tables) (es : List Event) where
  abbrev now : State
  now = reached tables es

  awaits : (t : ℕ) → awaits_child tables now.transactions t ≡ false → ChildrenDone now t
  awaits t = awaits-done tables now (kin tables es) (lasting tables es).full t

  done : (t : ℕ) → ChildrenDone now t → awaits_child tables now.transactions t ≡ false
  done t = done-awaits tables now (kin tables es) (lasting tables es).full t

  -- ---- a commit of one who is nobody's child

  module _ (t : ℕ) (own : parent_of now.transactions t ≡ None) where
    abbrev own_lines : List (Line Refusal)
    own_lines = commit_lines tables now.transactions now.ops t

    abbrev bars : Bool
    bars = declared_bars false tables now.transactions t || awaits_child tables now.transactions t

    lines-own : lines tables now (Commit t) ≡ own_lines
    lines-own = ap (commit_lines_under tables now.transactions now.ops t) (clerk-is tables now (kin tables es) t ∙ own)

    could : Off (take 4 own_lines) → CouldCommit tables now t
    could off =
        let both = off-or (declared_bars false tables now.transactions t) (awaits_child tables now.transactions t) off.1.1.1.0 in
        record {
          known = off-not (is_known (sort_of tables t)) off.0;
          active = off-not (is_active (phase_of now.transactions t)) off.1.0;
          saga = off.1.1.0;
          declared = both.0;
          children = awaits t both.1;
        }

    barred-off : declared_bars false tables now.transactions t ≡ false → ChildrenDone now t → bars ≡ false
    barred-off d c = or_off (declared_bars false tables now.transactions t) (awaits_child tables now.transactions t) d (done t c)

    can : CouldCommit tables now t → Off (take 4 own_lines)
    can c =
        (not-off (is_known (sort_of tables t)) c.known, (not-off (is_active (phase_of now.transactions t)) c.active, (c.saga, (barred-off c.declared c.children, tt))))

    commit-may : (judged tables now (Commit t)).verdict ≡ Accepted → MayCommit tables now t
    unfolding dirty
    commit-may v =
        let off = subst Off lines-own (lines-off tables now (Commit t) v) in
        let c = could (off.0, (off.1.0, (off.1.1.0, (off.1.1.1.0, tt)))) in
        record {
          known = c.known;
          active = c.active;
          saga = c.saga;
          declared = c.declared;
          children = c.children;
          clean = λ q l mine read there.
              dirty-clean now.ops t q (off-any (size now.ops) (dirty_at now.ops t) off.1.1.1.1.0 q l) (read_on t (op_at now.ops q) mine read there);
          off_rings = off.1.1.1.1.1.0;
        }

    may-commit : MayCommit tables now t → (judged tables now (Commit t)).verdict ≡ Accepted
    unfolding dirty
    may-commit may =
        off-lines tables now (Commit t)
        (subst⁻¹ Off lines-own (
          not-off (is_known (sort_of tables t)) may.known,
          (
            not-off (is_active (phase_of now.transactions t)) may.active,
            (
              may.saga,
              (
                barred-off may.declared may.children,
                (
                  any-off (size now.ops) (dirty_at now.ops t)
                      (λ q l. clean-dirty now.ops t q l (λ r. let x = read-parts t (op_at now.ops q) r in may.clean q l x.0 x.1.0 x.1.1)),
                  (may.off_rings, tt),
                ),
              ),
            ),
          ),
        ))

    pub commit-when : ((judged tables now (Commit t)).verdict ≡ Accepted) ↔ MayCommit tables now t
    commit-when = (commit-may, may-commit)

    pub commit_dirty : ((judged tables now (Commit t)).verdict ≡ Refused DirtyRead) ↔ (CouldCommit tables now t × ReadsDirty now.ops t)
    commit_dirty =
        let given = only-line tables now (Commit t) DirtyRead (take 4 own_lines) (drop 5 own_lines) (dirty now.ops t) lines-own refl refl in
        (λ v. let w = given.0 v in (could w.0, dirty-on tables now t w.1), λ w. given.1 (can w.0, on-dirty tables now t w.1))

    pub commit_rings : ((judged tables now (Commit t)).verdict ≡ Refused OnRing) ↔ (CouldCommit tables now t × (ReadsDirty now.ops t → ⊥) × (on_ring now.ops t ≡ true))
    commit_rings =
        let given = only-line tables now (Commit t) OnRing (take 5 own_lines) [] (on_ring now.ops t) lines-own refl refl in (
          λ v.
              let w = given.0 v in
              let off = w.0 in
              (could (off.0, (off.1.0, (off.1.1.0, (off.1.1.1.0, tt)))), λ d. clash (on-dirty tables now t d) off.1.1.1.1.0, w.1),
          λ w.
              let off = can w.0 in
              given.1 ((off.0, (off.1.0, (off.1.1.0, (off.1.1.1.0, (is-not (dirty now.ops t) (λ d. w.1 (dirty-on tables now t d)), tt))))), w.2),
        )

  -- ---- that of m's child

  module _ (t m : ℕ) (under : parent_of now.transactions t ≡ Some m) where
    abbrev handed : List (Line Refusal)
    handed = hand_lines tables now.transactions now.ops t m

    abbrev ring : Bool
    ring = ring_with (before_handed now.ops t m) (active_undo tables now.transactions) m

    lines-hand : lines tables now (Commit t) ≡ handed
    lines-hand = ap (commit_lines_under tables now.transactions now.ops t) (clerk-is tables now (kin tables es) t ∙ under)

    ended : inactive now.transactions m ≡ has_ended (phase_of now.transactions m)
    ended = begun-ended (phase_of now.transactions m) ((kin tables es).begun t m under).1

    could-hand : Off (take 3 handed) → CouldHand tables now t m
    could-hand off =
        let both = off-or (declared_bars false tables now.transactions t) (awaits_child tables now.transactions t || inactive now.transactions m) off.1.1.0 in
        let rest = off-or (awaits_child tables now.transactions t) (inactive now.transactions m) both.1 in
        record {
          active = off-not (is_active (phase_of now.transactions t)) off.1.0;
          declared = both.0;
          children = awaits t rest.0;
          parent = sym ended ∙ rest.1;
        }

    hand-could : CouldHand tables now t m → Off (take 3 handed)
    hand-could c = (
      plain_known (sort_of tables t) ((kin tables es).plain t m under).0,
      (
        not-off (is_active (phase_of now.transactions t)) c.active,
        (
          or_off (declared_bars false tables now.transactions t) (awaits_child tables now.transactions t || inactive now.transactions m) c.declared
              (or_off (awaits_child tables now.transactions t) (inactive now.transactions m) (done t c.children) (ended ∙ c.parent)),
          tt,
        ),
      ),
    )

    pub hand-when : ((judged tables now (Commit t)).verdict ≡ Accepted) ↔ MayHand tables now t m
    hand-when = (
      λ v.
          let off = subst Off lines-hand (lines-off tables now (Commit t) v) in
          record { could = could-hand (off.0, (off.1.0, (off.1.1.0, tt))); no_ring = λ u. clash ((rings_handed tables es t m).1 u) off.1.1.1.0 },
      λ may.
          let off = hand-could may.could in
          off-lines tables now (Commit t)
          (subst⁻¹ Off lines-hand (off.0, (off.1.0, (off.1.1.0, (is-not ring (λ r. may.no_ring ((rings_handed tables es t m).0 r)), tt))))),
    )

    pub hand_rings : ((judged tables now (Commit t)).verdict ≡ Refused UndoOnRing) ↔ (CouldHand tables now t m × UndoRinged tables now (before_handed now.ops t m))
    hand_rings =
        let given = only-line tables now (Commit t) UndoOnRing (take 3 handed) [] ring lines-hand refl refl in
        (λ v. let w = given.0 v in (could-hand w.0, (rings_handed tables es t m).0 w.1), λ w. given.1 (hand-could w.0, (rings_handed tables es t m).1 w.1))

    pub hand_clean : ((judged tables now (Commit t)).verdict ≢ Refused DirtyRead) × ((judged tables now (Commit t)).verdict ≢ Refused OnRing)
    hand_clean =
        let by_lines = verdict-lines tables now (Commit t) ∙ ap verdict_by lines-hand in
        (λ v. never-given DirtyRead handed refl (sym by_lines ∙ v), λ v. never-given OnRing handed refl (sym by_lines ∙ v))
