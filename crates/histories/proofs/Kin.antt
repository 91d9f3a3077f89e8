-- Children and parents: who is one, that both have begun, and that a child holds nothing that is committed. Every accepted event keeps it.
use Prim.Native.Nat.{ℕ, ◌<◌, ◌≤◌}
use native.Mathlib.Omega.{arith}
use mathlib.Core.Path.{◌≡◌, refl, sym, ap, ◌∙◌, subst⁻¹}
use mathlib.Core.Bool.{true, false}
use mathlib.Core.List.{List}
use lib.ListN.{get_or, length}
use Rattle.laws.proofs.Bools.{bool_cases, clash}
use Rattle.laws.proofs.Decisions.{lt-or, same_or}
use Rattle.terms.specs.declared.Event.{Event}
use Rattle.ties.specs.Operations.{is_committed as is_committed_op, op_at}
use Rattle.ties.specs.declared.Operation.{Operation}
use Rattle.ties.proofs.OrderLaws.{active-uncommitted}
use Rattle.tables.specs.Sorts.{is_plain, sort_of}
use Rattle.tables.specs.declared.Tables.{Tables}
use Rattle.rules.specs.States.{empty_state, idle, is_child, parent_of, phase_of, spawned}
use Rattle.rules.specs.States.{Parent}
use Rattle.std.specs.Prelude.{None, Some}
use Rattle.rules.specs.declared.Phase.TheVariants.{Active}
use Rattle.rules.specs.declared.State.{State}
use Rattle.rules.specs.declared.Transaction.{Transaction}
use Rattle.rules.proofs.PhaseLaws.{code}
use Rattle.rules.proofs.StateLaws.{all-free, entered-parent, length-spawned, past-free, spawned-other, spawned-same}
use Rattle.judge.specs.Judge.{clerk_of, state_after}
use Rattle.judge.specs.declared.Change.{Change}
use Rattle.histories.specs.Histories.{reached}
use Rattle.histories.proofs.Steps.{Spawning, Step, ends, ends-one, enters, gives, hands, keeps-by, makes, spawns}
use Rattle.histories.proofs.Lasts.{Lasting}
use Rattle.histories.proofs.Touches.{every, phased, rises}
use Rattle.histories.proofs.Invariants.{lasting-kept, lasting-start}

-- ---- what an event does to whose child u is

pub data Parented (tables : Tables) (s : State) (c : Change) (u : ℕ) : Type 0 where
  same-parent : parent_of (state_after c s).transactions u ≡ parent_of s.transactions u → Parented tables s c u
  adopted-now : (m : ℕ) → Spawning tables s m u → phase_of (state_after c s).transactions u ≡ Active → parent_of (state_after c s).transactions u ≡ Some m → Parented tables s c u

pub parented : (tables : Tables) (s : State) (c : Change) → Step tables s c → (u : ℕ) → Parented tables s c u
unfolding state_after
parented tables s c (enters t f) u = same-parent (entered-parent s.transactions t u Active)
parented tables s c (ends t p fate f) u = same-parent (entered-parent s.transactions t u p)
parented tables s c (ends-one t q fate f) u = same-parent refl
parented tables s c (makes t o m f) u = same-parent refl
parented tables s c (gives t r q f) u = same-parent refl
parented tables s c (hands t m f) u = same-parent (entered-parent s.transactions t u _)
parented tables s c (spawns m t f) u =
    same_or u t
    (λ e.
    lt-or t (length s.transactions)
    (λ l.
    let there = ap (λ (x : ℕ). get_or (spawned m t s.transactions) x idle) e ∙ spawned-same s.transactions m t l in
    adopted-now m (subst⁻¹ (Spawning tables s m) e f) (ap (λ (x : Transaction). x.phase) there) (ap (λ (x : Transaction). x.parent) there))
    (λ l.
    same-parent
    (ap (parent_of (spawned m t s.transactions)) e
    ∙ past-free (spawned m t s.transactions) t (omega (arith, length-spawned s.transactions m t))
    ∙ sym (past-free s.transactions t l)
    ∙ ap (parent_of s.transactions) (sym e))))
    (λ e. same-parent (ap (λ (x : Transaction). x.parent) (spawned-other s.transactions m t u e)))

-- ---- who is a child

pub record Kin (tables : Tables) (s : State) : Type 0 where
  pub plain : (t m : ℕ) → parent_of s.transactions t ≡ Some m → (is_plain (sort_of tables t) ≡ true) × (is_plain (sort_of tables m) ≡ true)
  pub begun : (t m : ℕ) → parent_of s.transactions t ≡ Some m → (1 ≤ code (phase_of s.transactions t)) × (1 ≤ code (phase_of s.transactions m))

-- nobody is not a parent
pub nobody-under : (m : ℕ) → None ≡ Some m → ⊥
nobody-under m e = let z : ◌≡◌ {A = ℕ} 0 1 = cc in omega arith

same-clerk : (m n : ℕ) → Some m ≡ Some n → m ≡ n
same-clerk m n e = cc

module _ (tables : Tables) (s : State) (c : Change) (h : Kin tables s) (w : Step tables s c) where
  up : (u : ℕ) → code (phase_of s.transactions u) ≤ code (phase_of (state_after c s).transactions u)
  up u = rises tables s c (phased tables s c w u)

  pub kin-after : Kin tables (state_after c s)
  kin-after = record { plain = λ t m e. plain t m e (parented tables s c w t); begun = λ t m e. begun t m e (parented tables s c w t) }
    where
      plain : (t m : ℕ) → parent_of (state_after c s).transactions t ≡ Some m → Parented tables s c t → (is_plain (sort_of tables t) ≡ true) × (is_plain (sort_of tables m) ≡ true)
      plain t m e (same-parent q) = h.plain t m (sym q ∙ e)
      plain t m e (adopted-now n f a q) =
          (f.child, ap (λ (x : ℕ). is_plain (sort_of tables x)) (same-clerk m n (sym e ∙ q)) ∙ f.parent)

      begun : (t m : ℕ) → parent_of (state_after c s).transactions t ≡ Some m → Parented tables s c t
          → (1 ≤ code (phase_of (state_after c s).transactions t)) × (1 ≤ code (phase_of (state_after c s).transactions m))
      begun t m e (same-parent q) = let b = h.begun t m (sym q ∙ e) in (omega (arith, b.0, up t), omega (arith, b.1, up m))
      begun t m e (adopted-now n f a q) =
          (omega (arith, ap code a), omega (arith, f.active, up m, ap (λ (x : ℕ). code (phase_of s.transactions x)) (same-clerk m n (sym e ∙ q))))

pub kin-kept : (tables : Tables) (s : State) (c : Change) → Kin tables s → Step tables s c → Kin tables (state_after c s)
kin-kept tables s c h w = kin-after tables s c h w

pub kin-start : (tables : Tables) → Kin tables empty_state
kin-start tables = record { plain = λ t m e. absurd (none t m e); begun = λ t m e. absurd (none t m e) }
  where
    none : (t m : ℕ) → parent_of empty_state.transactions t ≡ Some m → ⊥
    none t m e = nobody-under m (sym (all-free t) ∙ e)

pub kin : (tables : Tables) (es : List Event) → Kin tables (reached tables es)
kin tables es = keeps-by tables (Kin tables) (kin-kept tables) es empty_state (kin-start tables)

-- so whose helper t is, the state says
pub clerk-is : (tables : Tables) (s : State) → Kin tables s → (t : ℕ) → clerk_of tables s.transactions t ≡ parent_of s.transactions t
clerk-is tables s h t = go (parent_of s.transactions t) refl
  where
    go : (p : Parent) → parent_of s.transactions t ≡ p → clerk_of tables s.transactions t ≡ parent_of s.transactions t
    go None e = rw e (bool_cases (is_plain (sort_of tables t)) (λ b. rw b) (λ b. rw b))
    go (Some m) e = let both = h.plain t m e in rw (both.0, e, both.1)

-- ---- what a child holds

pub record Unkept (tables : Tables) (s : State) : Type 0 where
  pub lasts : Lasting s
  pub kin : Kin tables s
  -- whoever is responsible for an operation has begun
  pub owned : (q : ℕ) → q < s.ops.count → 1 ≤ code (phase_of s.transactions (op_at s.ops q).responsible)
  pub free : (q : ℕ) → q < s.ops.count → is_committed_op (op_at s.ops q).fate ≡ true → is_child (parent_of s.transactions (op_at s.ops q).responsible) ≡ false

module _ (tables : Tables) (s : State) (c : Change) (h : Unkept tables s) (w : Step tables s c) where
  rise : (u : ℕ) → code (phase_of s.transactions u) ≤ code (phase_of (state_after c s).transactions u)
  rise u = rises tables s c (phased tables s c w u)

  owned-after : (q : ℕ) → q < (state_after c s).ops.count → 1 ≤ code (phase_of (state_after c s).transactions (op_at (state_after c s).ops q).responsible)
  owned-after q l =
      every tables s c w h.lasts (λ (op : Operation). 1 ≤ code (phase_of (state_after c s).transactions op.responsible)) q
      (λ f. omega (arith, h.owned q f.low, rise (op_at s.ops q).responsible))
      (λ fate f. omega (arith, h.lasts.active q f.active, rise (op_at s.ops q).responsible))
      (λ r f. omega (arith, f.runs))
      (λ n. omega (arith, n.runs))
      (λ u. absurd (omega arith))

  -- whoever has begun is nobody's new child
  stays-own : (u : ℕ) → 1 ≤ code (phase_of s.transactions u) → is_child (parent_of s.transactions u) ≡ false → is_child (parent_of (state_after c s).transactions u) ≡ false
  stays-own u b e = go (parented tables s c w u)
    where
      go : Parented tables s c u → is_child (parent_of (state_after c s).transactions u) ≡ false
      go (same-parent q) = ap is_child q ∙ e
      go (adopted-now m f a q) = absurd (omega (arith, f.idle))

  free-after : (q : ℕ) → q < (state_after c s).ops.count → is_committed_op (op_at (state_after c s).ops q).fate ≡ true
      → is_child (parent_of (state_after c s).transactions (op_at (state_after c s).ops q).responsible) ≡ false
  free-after q l =
      every tables s c w h.lasts (λ (op : Operation). is_committed_op op.fate ≡ true → is_child (parent_of (state_after c s).transactions op.responsible) ≡ false) q
      (λ f k. stays-own (op_at s.ops q).responsible (h.owned q f.low) (h.free q f.low k))
      (λ fate f k.
      stays-own (op_at s.ops q).responsible (omega (arith, h.lasts.active q f.active))
      (ap is_child (sym (clerk-is tables s h.kin (op_at s.ops q).responsible)) ∙ f.keeps k))
      (λ r f k. clash k (active-uncommitted (op_at s.ops q).fate f.active))
      (λ n k. clash k refl)
      (λ u k. absurd (omega arith))

  pub unkept-after : Unkept tables (state_after c s)
  unkept-after = record { lasts = lasting-kept tables s c h.lasts w; kin = kin-kept tables s c h.kin w; owned = owned-after; free = free-after }

pub unkept : (tables : Tables) (es : List Event) → Unkept tables (reached tables es)
unkept tables es =
    keeps-by tables (Unkept tables) (λ s c h w. unkept-after tables s c h w) es empty_state
    (record { lasts = lasting-start; kin = kin-start tables; owned = λ q l. absurd (omega arith); free = λ q l. absurd (omega arith) })
