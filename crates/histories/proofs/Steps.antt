-- What an accepted event is: for each change, what held when it was accepted. The one place that takes lines by their order.
use Prim.Native.Nat.{ℕ, ◌<◌, ◌≤◌}
use native.Mathlib.Omega.{arith}
use mathlib.Core.Path.{◌≡◌, refl, sym, ap, subst}
use mathlib.Core.Bool.{Bool, true, false, not, ◌&&◌, ◌||◌}
use mathlib.Core.List.{List}
use lib.Dec.{eqb}
use borrow.Author.Tests.{eqb-true, leb-false}
use Rattle.laws.specs.Lines.{Off}
use Rattle.laws.proofs.Bools.{clash, off-not, off-or}
use Rattle.terms.specs.Limits.{most_objects}
use Rattle.terms.specs.declared.Verdict.TheVariants.{Accepted}
use Rattle.ties.specs.Operations.{is_active as is_active_op, is_committed as is_committed_op, most_operations, new_op, op_at, size}
use Rattle.ties.specs.Ties.{before_given, before_handed, before_made, must_wait, dirty, dirty_at, on_ring, ring_with}
use Rattle.ties.specs.declared.Fate.{Fate}
use Rattle.ties.specs.declared.Fate.TheVariants.{Aborted as FateAborted, Committed as FateCommitted}
use Rattle.terms.specs.declared.Mark.{Mark}
use Rattle.tables.specs.Sorts.{is_plain, is_saga, is_undo, sort_of}
use Rattle.tables.specs.declared.Tables.{Tables}
use Rattle.histories.specs.Histories.{next, run}
use Rattle.rules.specs.Rules.{active_undo, inactive}
use Rattle.judge.specs.Judge.{awaits_child, change_of, clerk_of, commit_lines_under, commit_one_lines, commit_under, judged, lines, no_party, single_lines, state_after, unknown}
use Rattle.histories.specs.Promises.{MayEndOne}
use Rattle.rules.specs.Rules.{abort_barred, begin_barred, commit_barred, declared_bars}
use Rattle.rules.specs.States.{entered, is_active, is_child, is_idle, phase_of}
use Rattle.judge.specs.declared.Change.{Change}
use Rattle.judge.specs.declared.Change.TheVariants.{Ends, EndsOne, Enters, Gives, Hands, Makes, Spawns}
use Rattle.terms.specs.declared.Event.{Event}
use Rattle.terms.specs.declared.Event.TheVariants.{Abort, AbortOne, Begin, Commit, CommitOne, Delegate, Operation as Invoke, Spawn}
use Rattle.rules.specs.States.{Parent}
use Rattle.std.specs.Prelude.{None, Some}
use Rattle.rules.specs.declared.Phase.{Phase}
use Rattle.rules.specs.declared.Phase.TheVariants.{Aborted, Active, Committed, Idle}
use Rattle.rules.specs.declared.State.{State}
use Rattle.rules.proofs.PhaseLaws.{active-is, code, idle-is}
use Rattle.judge.proofs.RuleLaws.{object-small, operation-known, single-known}
use Rattle.judge.proofs.ClerkLaws.{Helps, by-clerk}
use Rattle.judge.proofs.EventLaws.{by-verdict, lines-off, next-no, next-ok}
use Rattle.histories.proofs.RunLaws.{keeps}

module _ (tables : Tables) (s : State) where
  pub record Entering (t : ℕ) : Type 0 where
    pub idle : code (phase_of s.transactions t) ≡ 0
    pub rule : begin_barred s.transactions (sort_of tables t) ≡ false
    pub declared : declared_bars true tables s.transactions t ≡ false

  -- what a commit has to pass beyond what every end has, and what an abort
  abbrev pub EndRule : ℕ → Phase → Type 0
  EndRule t Idle = ⊥
  EndRule t Active = ⊥
  EndRule t Committed =
      (commit_barred s.transactions (sort_of tables t) ≡ false)
      × (declared_bars false tables s.transactions t ≡ false)
      × (dirty s.ops t ≡ false)
      × (on_ring s.ops t ≡ false)
      × (awaits_child tables s.transactions t ≡ false)
  EndRule t Aborted = (is_undo (sort_of tables t) ≡ false) × (abort_barred s.transactions (sort_of tables t) ≡ false)

  pub record Ending (t : ℕ) (p : Phase) (fate : Fate) : Type 0 where
    pub active : code (phase_of s.transactions t) ≡ 1
    pub ended : 2 ≤ code p
    pub gone : is_active_op fate ≡ false
    -- no child keeps anything
    pub keeps : is_committed_op fate ≡ true → is_child (clerk_of tables s.transactions t) ≡ false
    pub rule : EndRule t p

  pub record EndingOne (t q : ℕ) (fate : Fate) : Type 0 where
    pub may : MayEndOne tables s t q
    pub gone : is_active_op fate ≡ false
    pub keeps : is_committed_op fate ≡ true → is_child (clerk_of tables s.transactions t) ≡ false

  pub record Making (t o : ℕ) (m : Mark) : Type 0 where
    pub room : s.ops.count < most_operations
    pub active : code (phase_of s.transactions t) ≡ 1
    pub no_saga : is_saga (sort_of tables t) ≡ false
    pub object : o < most_objects
    pub waited : (is_undo (sort_of tables t) && must_wait s.ops t o m) ≡ false
    pub no_ring : ring_with (before_made s.ops (new_op t o m)) (active_undo tables s.transactions) t ≡ false

  pub record Giving (t r q : ℕ) : Type 0 where
    pub accepted : q < size s.ops
    pub giver : code (phase_of s.transactions t) ≡ 1
    pub receiver : code (phase_of s.transactions r) ≡ 1
    pub gives : no_party (sort_of tables t) ≡ false
    pub receives : no_party (sort_of tables r) ≡ false
    pub from : (op_at s.ops q).responsible ≡ t
    pub no_ring : (is_active_op (op_at s.ops q).fate && ring_with (before_given s.ops q r) (active_undo tables s.transactions) r) ≡ false

  -- m's child commits
  pub record Handing (t m : ℕ) : Type 0 where
    pub active : code (phase_of s.transactions t) ≡ 1
    pub helps : Helps tables s.transactions t m
    pub declared : declared_bars false tables s.transactions t ≡ false
    pub children : awaits_child tables s.transactions t ≡ false
    pub parent : code (phase_of s.transactions m) ≡ 1
    pub no_ring : ring_with (before_handed s.ops t m) (active_undo tables s.transactions) m ≡ false

  pub record Spawning (m c : ℕ) : Type 0 where
    pub parent : is_plain (sort_of tables m) ≡ true
    pub child : is_plain (sort_of tables c) ≡ true
    pub idle : code (phase_of s.transactions c) ≡ 0
    pub active : code (phase_of s.transactions m) ≡ 1
    pub declared : declared_bars true tables s.transactions c ≡ false

  pub data Step : Change → Type 0 where
    enters : (t : ℕ) → Entering t → Step (Enters t Active)
    ends : (t : ℕ) (p : Phase) (fate : Fate) → Ending t p fate → Step (Ends t p fate)
    ends-one : (t q : ℕ) (fate : Fate) → EndingOne t q fate → Step (EndsOne q fate)
    makes : (t o : ℕ) (m : Mark) → Making t o m → Step (Makes (new_op t o m))
    gives : (t r q : ℕ) → Giving t r q → Step (Gives q r)
    hands : (t m : ℕ) → Handing t m → Step (Hands t m)
    spawns : (m c : ℕ) → Spawning m c → Step (Spawns m c)

  -- a step of a known change
  pub entering : {t : ℕ} → Step (Enters t Active) → Entering t
  entering (enters t f) = f

  pub ending : {t : ℕ} {p : Phase} {fate : Fate} → Step (Ends t p fate) → Ending t p fate
  ending (ends t p fate f) = f

  pub handing : {t m : ℕ} → Step (Hands t m) → Handing t m
  handing (hands t m f) = f

  pub spawning : {m c : ℕ} → Step (Spawns m c) → Spawning m c
  spawning (spawns m c f) = f

  -- ---- the lines of an accepted event, each by a name

  running : (t : ℕ) → inactive s.transactions t ≡ false → code (phase_of s.transactions t) ≡ 1
  running t off = active-is (phase_of s.transactions t) (off-not (is_active (phase_of s.transactions t)) off)

  mine : (t q : ℕ) → not (eqb (op_at s.ops q).responsible t) ≡ false → (op_at s.ops q).responsible ≡ t
  mine t q off = eqb-true (op_at s.ops q).responsible t (off-not (eqb (op_at s.ops q).responsible t) off)

  pub single-may : (t q : ℕ) (never : Bool) → Off (single_lines tables s.transactions s.ops t q never) → MayEndOne tables s t q
  single-may t q never (known, (plain, (active, (own, (unended, u))))) =
      record {
        plain = off-not (is_plain (sort_of tables t)) (off-or (not (is_plain (sort_of tables t))) never plain).0;
        active = off-not (is_active (phase_of s.transactions t)) active;
        accepted = single-known tables s.ops t q known;
        mine = mine t q own;
        running = off-not (is_active_op (op_at s.ops q).fate) unended;
      }

  pub commit-one-may : (t q : ℕ) → Off (commit_one_lines tables s.transactions s.ops t q)
      → MayEndOne tables s t q × (dirty_at s.ops t q ≡ false) × (on_ring s.ops t ≡ false) × (is_child (clerk_of tables s.transactions t) ≡ false)
  commit-one-may t q (known, (plain, (active, (own, (unended, (clean, (no_ring, u))))))) =
      let child = is_child (clerk_of tables s.transactions t) in
      (single-may t q child (known, (plain, (active, (own, (unended, tt))))), clean, no_ring, (off-or (not (is_plain (sort_of tables t))) child plain).1)

  -- a commit, by whose child t is
  commit-off : (t : ℕ) → Off (lines tables s (Commit t)) → Step (change_of tables s.transactions (Commit t))
  commit-off t =
      by-clerk tables s.transactions t (λ (p : Parent). Off (commit_lines_under tables s.transactions s.ops t p) → Step (commit_under t p)) own-off handed-off
    where
      own-off : clerk_of tables s.transactions t ≡ None → Off (commit_lines_under tables s.transactions s.ops t None) → Step (commit_under t None)
      own-off own (known, (active, (rule, (bars, (clean, (no_ring, u)))))) =
          let both = off-or (declared_bars false tables s.transactions t) (awaits_child tables s.transactions t) bars in
          ends t Committed FateCommitted
          (record { active = running t active; ended = omega arith; gone = refl; keeps = λ k. ap is_child own; rule = (rule, both.0, clean, no_ring, both.1) })

      handed-off : (m : ℕ) → Helps tables s.transactions t m → Off (commit_lines_under tables s.transactions s.ops t (Some m)) → Step (commit_under t (Some m))
      handed-off m helps (known, (active, (bars, (no_ring, u)))) =
          let both = off-or (declared_bars false tables s.transactions t) (awaits_child tables s.transactions t || inactive s.transactions m) bars in
          let rest = off-or (awaits_child tables s.transactions t) (inactive s.transactions m) both.1 in
          hands t m
          (record { active = running t active; helps = helps; declared = both.0; children = rest.0; parent = running m rest.1; no_ring = no_ring })

  step-off : (e : Event) → Off (lines tables s e) → Step (change_of tables s.transactions e)
  step-off (Begin t) (known, (idle, (rule, (declared, u)))) =
      enters t (record { idle = idle-is (phase_of s.transactions t) (off-not (is_idle (phase_of s.transactions t)) idle); rule = rule; declared = declared })
  step-off (Commit t) off = commit-off t off
  step-off (Abort t) (known, (no_undo, (active, (rule, u)))) =
      ends t Aborted FateAborted (record { active = running t active; ended = omega arith; gone = refl; keeps = λ k. clash k refl; rule = (no_undo, rule) })
  step-off (Invoke t o m) (known, (no_saga, (active, (waited, (no_ring, (room, u)))))) =
      makes t o m
      (record {
        room = leb-false most_operations s.ops.count room;
        active = running t active;
        no_saga = no_saga;
        object = object-small tables t o known;
        waited = waited;
        no_ring = no_ring;
      })
  step-off (Delegate t r q) (known, (parties, (active, (own, (no_ring, u))))) =
      let both = off-or (no_party (sort_of tables t)) (no_party (sort_of tables r) || eqb t r) parties in
      let actives = off-or (inactive s.transactions t) (inactive s.transactions r) active in
      gives t r q
      (record {
        accepted = operation-known tables s.ops t r q known;
        giver = running t actives.0;
        receiver = running r actives.1;
        gives = both.0;
        receives = (off-or (no_party (sort_of tables r)) (eqb t r) both.1).0;
        from = mine t q own;
        no_ring = no_ring;
      })
  step-off (CommitOne t q) off = let may = commit-one-may t q off in ends-one t q FateCommitted (record { may = may.0; gone = refl; keeps = λ k. may.3 })
  step-off (AbortOne t q) off = ends-one t q FateAborted (record { may = single-may t q false off; gone = refl; keeps = λ k. clash k refl })
  step-off (Spawn m c) (known, (plain, (idle, (active, (declared, u))))) =
      let both = off-or (not (is_plain (sort_of tables m))) (not (is_plain (sort_of tables c))) plain in
      spawns m c
      (record {
        parent = off-not (is_plain (sort_of tables m)) both.0;
        child = off-not (is_plain (sort_of tables c)) both.1;
        idle = idle-is (phase_of s.transactions c) (off-not (is_idle (phase_of s.transactions c)) idle);
        active = running m active;
        declared = declared;
      })

pub step : (tables : Tables) (s : State) (e : Event) → (judged tables s e).verdict ≡ Accepted → Step tables s (change_of tables s.transactions e)
step tables s e v = step-off tables s e (lines-off tables s e v)

-- whosever child t is, an accepted commit is of one in the tables that is active
pub commit-passed : (tables : Tables) (s : State) (t : ℕ) → (judged tables s (Commit t)).verdict ≡ Accepted → (unknown tables t ≡ false) × (inactive s.transactions t ≡ false)
commit-passed tables s t v =
    by-clerk tables s.transactions t
    (λ (p : Parent). Off (commit_lines_under tables s.transactions s.ops t p) → (unknown tables t ≡ false) × (inactive s.transactions t ≡ false))
    (λ o off. (off.0, off.1.0)) (λ m f off. (off.0, off.1.0))
    (lines-off tables s (Commit t) v)

-- and commits it and nobody else
pub commit-enters : (tables : Tables) (s : State) (t : ℕ) → (state_after (change_of tables s.transactions (Commit t)) s).transactions ≡ entered Committed t s.transactions
unfolding state_after
commit-enters tables s t =
    by-clerk tables s.transactions t (λ (p : Parent). (state_after (commit_under t p) s).transactions ≡ entered Committed t s.transactions) (λ o. refl) (λ m h. refl)

-- whoever is not plain is nobody's child
pub nobodys : (tables : Tables) (s : State) (t : ℕ) → is_plain (sort_of tables t) ≡ false → clerk_of tables s.transactions t ≡ None
nobodys tables s t e = rw e

pub commit-ending : (tables : Tables) (s : State) (t : ℕ) → clerk_of tables s.transactions t ≡ None → (judged tables s (Commit t)).verdict ≡ Accepted
    → Ending tables s t Committed FateCommitted
commit-ending tables s t e v = ending tables s (subst (λ (p : Parent). Step tables s (commit_under t p)) e (step tables s (Commit t) v))

-- what every accepted event keeps holds after any events
pub keeps-by : (tables : Tables) (I : State → Type 0) → ((s : State) (c : Change) → I s → Step tables s c → I (state_after c s))
    → (es : List Event) (s : State) → I s → I (run tables s es)
keeps-by tables I h = keeps tables I (λ s e i v. h s (change_of tables s.transactions e) i (step tables s e v))

-- the state after one event: as it was, or after a step
pub by_next : (tables : Tables) (s : State) (e : Event) (I : State → Type 0) → I s → ((c : Change) → Step tables s c → I (state_after c s)) → I (next tables s e)
by_next tables s e I same after =
    by-verdict tables s e
    (λ v. subst I (sym (next-ok tables s e v)) (after (change_of tables s.transactions e) (step tables s e v)))
    (λ r v. subst I (sym (next-no tables s e r v)) same)
