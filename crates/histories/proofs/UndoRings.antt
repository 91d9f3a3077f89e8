-- No active undo is on a ring, whatever the events: an operation and a delegation add pairs at one transaction only, and are refused where that
-- would close a ring through an active undo; ends add no pair; and whoever begins is responsible for nothing.
use Prim.Native.Nat.{ℕ, ◌+◌, ◌<◌}
use native.Mathlib.Omega.{arith}
use mathlib.Core.Path.{◌≡◌, refl, sym, ap, ◌∙◌, subst, subst⁻¹}
use mathlib.Core.Bool.{Bool, true, false, ◌&&◌}
use mathlib.Core.Logic.{◌↔◌, ⊎_elim}
use mathlib.Core.List.{List}
use lib.Dec.{eqb}
use Rattle.laws.proofs.Bools.{and_on, and-rest, bool_cases, clash, is-not, on_and}
use Rattle.laws.proofs.Decisions.{same_or}
use Rattle.laws.proofs.IndexLaws.{any-elim, any-intro}
use Rattle.terms.specs.Limits.{most_transactions}
use Rattle.terms.specs.declared.Event.{Event}
use Rattle.terms.specs.declared.Mark.{Mark}
use Rattle.sets.specs.Reach.{Leads, leads_to}
use Rattle.sets.proofs.ReachLaws.{AddsAt, join, last_step, leads-more, ring-via}
use Rattle.ties.specs.Operations.{all_held_by, ended_as, given, handed, is_active as is_active_op, made, new_op, only_active, op_at, rewritten, size}
use Rattle.ties.specs.Ties.{before, before_given, before_handed, before_made, on_ring, op_with, ring_with, ties_of}
use Rattle.ties.specs.declared.Fate.{Fate}
use Rattle.ties.specs.declared.Operation.{Operation}
use Rattle.ties.specs.declared.Ops.{Ops}
use Rattle.ties.proofs.OrderLaws.{ended-order, given-adds, given-ended, handed-adds, made-adds, made-order}
use Rattle.ties.proofs.RingLaws.{leads-of, leads-ring, of-leads, ring-free, ring-leads}
use Rattle.ties.proofs.TieLaws.{between, ties-small}
use Rattle.tables.specs.Sorts.{is_plain, is_undo, sort_of}
use Rattle.tables.specs.declared.Sort.{Sort}
use Rattle.tables.specs.declared.Sort.TheVariants.{Saga, Step as StepSort, Undo, Plain, Unknown}
use Rattle.tables.specs.declared.Tables.{Tables}
use Rattle.rules.specs.Rules.{active_undo}
use Rattle.judge.specs.Judge.{state_after}
use Rattle.rules.specs.States.{empty_state, is_active, phase_of}
use Rattle.judge.specs.declared.Change.{Change}
use Rattle.rules.specs.declared.Phase.{Phase}
use Rattle.rules.specs.declared.Phase.TheVariants.{Committed}
use Rattle.rules.specs.declared.State.{State}
use Rattle.rules.proofs.PhaseLaws.{active-is, code}
use Rattle.rules.proofs.StateLaws.{entered-other}
use Rattle.histories.specs.Histories.{reached}
use Rattle.histories.specs.Promises.{UndoRinged}
use Rattle.histories.proofs.Endings.{Together, together-kept, together-start}
use Rattle.histories.proofs.Lasts.{size-count}
use Rattle.histories.proofs.Steps.{Giving, Handing, Making, Step, ends, ends-one, enters, gives, hands, keeps-by, makes, spawns}
use Rattle.histories.proofs.Touches.{Phased, as-was, ended-now, entered-now, phased}

-- an undo is not plain
undo-not-plain : (x : Sort) → is_undo x ≡ true → is_plain x ≡ false
undo-not-plain (Saga f n) h = refl
undo-not-plain (StepSort f n i) h = refl
undo-not-plain (Undo f n i) h = refl
undo-not-plain Plain h = clash h refl
undo-not-plain Unknown h = refl

-- the two parts of an active undo
undo-parts : (tables : Tables) (s : State) (u : ℕ) → active_undo tables s.transactions u ≡ true
    → (is_undo (sort_of tables u) ≡ true) × (code (phase_of s.transactions u) ≡ 1)
undo-parts tables s u h =
    let x = on_and (is_undo (sort_of tables u)) (is_active (phase_of s.transactions u)) h in
    (x.0, active-is (phase_of s.transactions u) x.1)

abbrev pub UndoFree : Tables → State → Type 0
UndoFree tables s = (u : ℕ) → active_undo tables s.transactions u ≡ true → on_ring s.ops u ≡ false

-- ---- a line of 22 that does not hold

-- the order after the event is that of some operations
module _ (tables : Tables) (s : State) (n : ℕ) (op : ℕ → Operation) (v : ℕ) where
  abbrev through : ℕ → Bool
  through u = active_undo tables s.transactions u && (leads_to most_transactions (ties_of n op) v u && leads_to most_transactions (ties_of n op) u v)

  first_small : {a b : ℕ} → Leads (ties_of n op) a b → a < most_transactions
  first_small {a} {b} (Leads.last h) = (ties-small n op a b h).0
  first_small {a} (Leads.step {b = b} h w) = (ties-small n op a b h).0

  ring-on : (u : ℕ) → active_undo tables s.transactions u ≡ true → Leads (ties_of n op) v u → Leads (ties_of n op) u v
      → ring_with (ties_of n op) (active_undo tables s.transactions) v ≡ true
  unfolding ring_with
  ring-on u a from to =
      any-intro most_transactions through u (first_small to)
      (and_on (active_undo tables s.transactions u) (leads_to most_transactions (ties_of n op) v u && leads_to most_transactions (ties_of n op) u v) a
      (and_on (leads_to most_transactions (ties_of n op) v u) (leads_to most_transactions (ties_of n op) u v) (of-leads n op v u from) (of-leads n op u v to)))

  ring-off : ring_with (ties_of n op) (active_undo tables s.transactions) v ≡ true → UndoRinged tables s (ties_of n op)
  unfolding ring_with
  ring-off h =
      let x = any-elim most_transactions through h in
      let u = x.0 in
      let y = on_and (active_undo tables s.transactions u) (leads_to most_transactions (ties_of n op) v u && leads_to most_transactions (ties_of n op) u v) x.2 in
      let z = on_and (leads_to most_transactions (ties_of n op) v u) (leads_to most_transactions (ties_of n op) u v) y.1 in
      (u, y.0, join (leads-of n op u v z.1) (leads-of n op v u z.0))

  module _ (free : UndoFree tables s) (adds : AddsAt (before s.ops) (ties_of n op) v) where
    -- an active undo on a ring leads to v, and v to it
    met : UndoRinged tables s (ties_of n op) → ring_with (ties_of n op) (active_undo tables s.transactions) v ≡ true
    met (u, a, w) =
        ⊎_elim
        (λ r. clash (leads-ring s.ops u r) (free u a))
        (λ both. ring-on u a both.0 both.1)
        (ring-via adds w)

    pub exact : (ring_with (ties_of n op) (active_undo tables s.transactions) v ≡ true) ↔ UndoRinged tables s (ties_of n op)
    exact = (ring-off, met)

    -- so where the line does not hold, no active undo is on a ring
    still-free : ring_with (ties_of n op) (active_undo tables s.transactions) v ≡ false → (u : ℕ) → active_undo tables s.transactions u ≡ true
        → Leads (ties_of n op) u u → ⊥
    still-free off u a w = clash (met (u, a, w)) off

-- ---- every event

module _ (tables : Tables) (s : State) (h : Together tables s) (free : UndoFree tables s) where
  -- whoever is idle and not plain is responsible for nothing that stands
  idle-alone : (u a : ℕ) → is_plain (sort_of tables u) ≡ false → code (phase_of s.transactions u) ≡ 0 → before s.ops a u ≡ false
  idle-alone u a sort idle =
      is-not (before s.ops a u)
      (λ b.
      let w = between (size s.ops) (op_at s.ops) a u b in
      bool_cases (is_active_op (op_at s.ops w.q).fate)
      (λ r. absurd (omega (arith, h.lasts.active w.q r, idle, ap (λ (x : ℕ). code (phase_of s.transactions x)) w.second)))
      (λ r.
      absurd
      (omega (
        arith,
        h.over w.q (omega (arith, w.below, size-count s h.lasts)) r (ap (λ (x : ℕ). is_plain (sort_of tables x)) w.second ∙ sort),
        idle,
        ap (λ (x : ℕ). code (phase_of s.transactions x)) w.second,
      ))))

  -- ---- active operations that end

  abbrev ended_of : (ℕ → Operation → Bool) → Fate → Ops
  ended_of which fate = rewritten which (ended_as fate (size s.ops)) s.ops

  module _ (which : ℕ → Operation → Bool) (running : (p : ℕ) (op : Operation) → which p op ≡ true → is_active_op op.fate ≡ true) (fate : Fate) (u : ℕ) where
    -- rings after it were rings before it
    ends-free : active_undo tables s.transactions u ≡ true → on_ring (ended_of which fate) u ≡ false
    ends-free a =
        is-not (on_ring (ended_of which fate) u)
        (λ r.
        clash
        (leads-ring s.ops u (leads-more (λ x y e. ended-order which running fate (size s.ops) s.ops x y e) (ring-leads (ended_of which fate) u r)))
        (free u a))

    -- whoever was idle has nothing before it
    ends-idle : is_plain (sort_of tables u) ≡ false → code (phase_of s.transactions u) ≡ 0 → on_ring (ended_of which fate) u ≡ false
    ends-idle sort idle =
        is-not (on_ring (ended_of which fate) u)
        (λ r.
        let l = last_step (ring-leads (ended_of which fate) u r) in
        clash (ended-order which running fate (size s.ops) s.ops l.0 u l.1) (idle-alone u l.0 sort idle))

  held-active : (t p : ℕ) (op : Operation) → all_held_by t p op ≡ true → is_active_op op.fate ≡ true
  held-active t p op x = (on_and (is_active_op op.fate) (eqb op.responsible t) x).0

  chosen-active : (q p : ℕ) (op : Operation) → only_active q p op ≡ true → is_active_op op.fate ≡ true
  chosen-active q p op x = (on_and (is_active_op op.fate) (eqb p q) x).0

  -- ---- an operation made, and one given

  made-free : (t o : ℕ) (m : Mark) → Making tables s t o m → (u : ℕ) → active_undo tables s.transactions u ≡ true → on_ring (made (new_op t o m) s.ops) u ≡ false
  made-free t o m f u a =
      let x = new_op t o m in
      is-not (on_ring (made x s.ops) u)
      (λ r.
      still-free tables s (size s.ops + 1) (op_with s.ops (size s.ops) x) t free (made-adds s.ops x) f.no_ring u a
      (subst⁻¹ (λ (R : ℕ → ℕ → Bool). Leads R u u) (made-order s.ops x h.lasts.room f.room) (ring-leads (made x s.ops) u r)))

  given-free : (t r q : ℕ) → Giving tables s t r q → (u : ℕ) → active_undo tables s.transactions u ≡ true → on_ring (given q r s.ops) u ≡ false
  given-free t r q f u a =
      is-not (on_ring (given q r s.ops) u)
      (λ x.
      bool_cases (is_active_op (op_at s.ops q).fate)
      (λ z.
      still-free tables s (size (given q r s.ops)) (op_at (given q r s.ops)) r free (given-adds s.ops q r)
      (and-rest (is_active_op (op_at s.ops q).fate) (ring_with (before_given s.ops q r) (active_undo tables s.transactions) r) f.no_ring z) u a
      (ring-leads (given q r s.ops) u x))
      (λ z.
      clash (leads-ring s.ops u (subst (λ (R : ℕ → ℕ → Bool). Leads R u u) (given-ended s.ops q r z) (ring-leads (given q r s.ops) u x))) (free u a)))

  -- ---- what a child is at work on handed over

  handed-free : (t m : ℕ) → Handing tables s t m → (u : ℕ) → active_undo tables s.transactions u ≡ true → on_ring (handed t m s.ops) u ≡ false
  handed-free t m f u a =
      is-not (on_ring (handed t m s.ops) u)
      (λ x.
      still-free tables s (size (handed t m s.ops)) (op_at (handed t m s.ops)) m free (handed-adds s.ops t m) f.no_ring u a
      (ring-leads (handed t m s.ops) u x))

  -- ---- all together

  -- u is active after the event: it was, or has just begun
  module _ (c : Change) (u : ℕ) (a : active_undo tables (state_after c s).transactions u ≡ true) where
    by-phase : {A : Type 0} → Phased tables s c u → (active_undo tables s.transactions u ≡ true → A)
        → (is_plain (sort_of tables u) ≡ false → code (phase_of s.transactions u) ≡ 0 → A) → A
    by-phase (as-was e) was begun = was (rw (← e) a)
    by-phase (entered-now f e) was begun = begun (undo-not-plain (sort_of tables u) (undo-parts tables (state_after c s) u a).0) f.idle
    by-phase (ended-now p x d e) was begun = absurd (omega (arith, (undo-parts tables (state_after c s) u a).1, ap code e))

  free-after : (c : Change) → Step tables s c → UndoFree tables (state_after c s)
  unfolding state_after
  free-after c (enters t f) u a =
      by-phase c u a (phased tables s c (enters t f) u) (free u) (λ sort idle. ring-free s.ops u (λ x. idle-alone u x sort idle))
  free-after c (ends t p fate f) u a =
      by-phase c u a (phased tables s c (ends t p fate f) u) (ends-free (all_held_by t) (held-active t) fate u) (ends-idle (all_held_by t) (held-active t) fate u)
  free-after c (ends-one t q fate f) u a = ends-free (only_active q) (chosen-active q) fate u a
  free-after c (makes t o m f) u a = made-free t o m f u a
  free-after c (gives t r q f) u a = given-free t r q f u a
  free-after c (hands t m f) u a =
      same_or u t
      (λ e. clash (ap (λ (x : ℕ). is_plain (sort_of tables x)) e ∙ f.helps.helper) (undo-not-plain (sort_of tables u) (undo-parts tables (state_after c s) u a).0))
      (λ e. handed-free t m f u (ap (λ (p : Phase). is_undo (sort_of tables u) && is_active p) (sym (entered-other s.transactions t u Committed e)) ∙ a))
  free-after c (spawns m t f) u a =
      by-phase c u a (phased tables s c (spawns m t f) u) (free u) (λ sort idle. ring-free s.ops u (λ x. idle-alone u x sort idle))

-- ---- after any run of events

pub record Freed (tables : Tables) (s : State) : Type 0 where
  pub ends : Together tables s
  pub free : UndoFree tables s

pub freed-kept : (tables : Tables) (s : State) (c : Change) → Freed tables s → Step tables s c → Freed tables (state_after c s)
freed-kept tables s c h w = record { ends = together-kept tables s c h.ends w; free = free-after tables s h.ends h.free c w }

pub freed-start : (tables : Tables) → Freed tables empty_state
freed-start tables =
    record {
      ends = together-start tables;
      free = λ u a. ring-free empty_state.ops u (λ x. is-not (before empty_state.ops x u) (λ h. absurd (omega (arith, (between 0 (op_at empty_state.ops) x u h).below))));
    }

pub freed : (tables : Tables) (es : List Event) → Freed tables (reached tables es)
freed tables es = keeps-by tables (Freed tables) (freed-kept tables) es empty_state (freed-start tables)

module _ (tables : Tables) (es : List Event) where
  pub rings_made : (t o : ℕ) (m : Mark)
      → (ring_with (before_made (reached tables es).ops (new_op t o m)) (active_undo tables (reached tables es).transactions) t ≡ true)
      ↔ UndoRinged tables (reached tables es) (before_made (reached tables es).ops (new_op t o m))
  rings_made t o m =
      let ops = (reached tables es).ops in
      exact tables (reached tables es) (size ops + 1) (op_with ops (size ops) (new_op t o m)) t (freed tables es).free (made-adds ops (new_op t o m))

  pub rings_given : (q r : ℕ) → (ring_with (before_given (reached tables es).ops q r) (active_undo tables (reached tables es).transactions) r ≡ true)
      ↔ UndoRinged tables (reached tables es) (before_given (reached tables es).ops q r)
  rings_given q r =
      let ops = (reached tables es).ops in
      exact tables (reached tables es) (size (given q r ops)) (op_at (given q r ops)) r (freed tables es).free (given-adds ops q r)

  pub rings_handed : (t m : ℕ) → (ring_with (before_handed (reached tables es).ops t m) (active_undo tables (reached tables es).transactions) m ≡ true)
      ↔ UndoRinged tables (reached tables es) (before_handed (reached tables es).ops t m)
  rings_handed t m =
      let ops = (reached tables es).ops in
      exact tables (reached tables es) (size (handed t m ops)) (op_at (handed t m ops)) m (freed tables es).free (handed-adds ops t m)
