-- Phases after a transaction entered one, and where an active transaction stands.
use Prim.Native.Nat.{ℕ, ◌<◌, ◌≤◌}
use native.Mathlib.Omega.{arith}
use mathlib.Core.Path.{◌≡◌, sym, ap, ◌∙◌}
use mathlib.Core.Bool.{true, false, not, false≢true}
use borrow.Author.Tests.{eqb-true}
use mathlib.Core.Logic.{◌≢◌}
use mathlib.Core.List.{List}
use lib.ListN.{get_or, length, length-set, replicate, length-replicate, get_or-replicate, get_or-eq_default}
use lib.Seq.{get_or-set_same, get_or-set_other, set_out}
use Rattle.laws.proofs.Decisions.{lt-or, same_or}
use Rattle.terms.specs.Limits.{most_transactions}
use Rattle.rules.specs.Rules.{inactive}
use Rattle.rules.specs.States.{empty_state, entered, idle, in_phase, is_active, is_under, parent_of, phase_of, spawned}
use Rattle.rules.specs.declared.Phase.{Phase}
use Rattle.rules.specs.States.{Parent}
use Rattle.std.specs.Prelude.{None, Some}
use Rattle.rules.specs.declared.Phase.TheVariants.{Active, Idle}
use Rattle.rules.specs.declared.Transaction.{Transaction}

pub entered-same : (ts : List Transaction) (t : ℕ) (p : Phase) → t < length ts → phase_of (entered p t ts) t ≡ p
unfolding entered
entered-same ts t p h = ap (λ (x : Transaction). x.phase) (get_or-set_same ts t (in_phase p (get_or ts t idle)) idle h)

pub entered-other : (ts : List Transaction) (t u : ℕ) (p : Phase) → u ≢ t → phase_of (entered p t ts) u ≡ phase_of ts u
unfolding entered
entered-other ts t u p h = ap (λ (x : Transaction). x.phase) (get_or-set_other ts t u (in_phase p (get_or ts t idle)) idle h)

pub length-entered : (ts : List Transaction) (t : ℕ) (p : Phase) → length (entered p t ts) ≡ length ts
unfolding entered
length-entered ts t p = length-set ts t (in_phase p (get_or ts t idle))

-- nobody's parent changes
pub entered-parent : (ts : List Transaction) (t u : ℕ) (p : Phase) → parent_of (entered p t ts) u ≡ parent_of ts u
unfolding entered
entered-parent ts t u p =
    same_or u t
    (λ e.
    rw e
    (lt-or t (length ts)
    (λ h. ap (λ (x : Transaction). x.parent) (get_or-set_same ts t (in_phase p (get_or ts t idle)) idle h))
    (λ h. ap (λ (l : List Transaction). parent_of l t) (set_out ts t (in_phase p (get_or ts t idle)) h))))
    (λ e. ap (λ (x : Transaction). x.parent) (get_or-set_other ts t u (in_phase p (get_or ts t idle)) idle e))

-- ---- a child

module _ (ts : List Transaction) (m t : ℕ) where
  pub spawned-same : t < length ts → get_or (spawned m t ts) t idle ≡ record { phase = Active; parent = Some m }
  unfolding spawned
  spawned-same h = get_or-set_same ts t (record { phase = Active; parent = Some m }) idle h

  pub spawned-other : (u : ℕ) → u ≢ t → get_or (spawned m t ts) u idle ≡ get_or ts u idle
  unfolding spawned
  spawned-other u h = get_or-set_other ts t u (record { phase = Active; parent = Some m }) idle h

  pub length-spawned : length (spawned m t ts) ≡ length ts
  unfolding spawned
  length-spawned = length-set ts t (record { phase = Active; parent = Some m })

-- past the end every transaction is idle
pub past-idle : (ts : List Transaction) (t : ℕ) → length ts ≤ t → phase_of ts t ≡ Idle
past-idle ts t h = ap (λ (x : Transaction). x.phase) (get_or-eq_default ts idle {n = t} h)

-- and nobody's child
pub past-free : (ts : List Transaction) (t : ℕ) → length ts ≤ t → parent_of ts t ≡ None
past-free ts t h = ap (λ (x : Transaction). x.parent) (get_or-eq_default ts idle {n = t} h)

-- an active transaction is one of the 64
pub active-small : (ts : List Transaction) (t : ℕ) → length ts ≡ most_transactions → inactive ts t ≡ false → t < most_transactions
active-small ts t l h =
    lt-or t most_transactions (λ b. b)
    (λ b. absurd (false≢true (sym h ∙ ap (λ (p : Phase). not (is_active p)) (past-idle ts t (omega (arith, l))))))

-- in the empty state all are idle, and nobody is a child
pub all-idle : (t : ℕ) → phase_of empty_state.transactions t ≡ Idle
all-idle t =
    lt-or t most_transactions
    (λ h. ap (λ (x : Transaction). x.phase) (get_or-replicate most_transactions t idle idle h))
    (λ h. past-idle (replicate most_transactions idle) t (omega (arith, length-replicate most_transactions idle)))

pub all-free : (t : ℕ) → parent_of empty_state.transactions t ≡ None
all-free t =
    lt-or t most_transactions
    (λ h. ap (λ (x : Transaction). x.parent) (get_or-replicate most_transactions t idle idle h))
    (λ h. past-free (replicate most_transactions idle) t (omega (arith, length-replicate most_transactions idle)))

-- whoever counts as m's child is
pub under-is : (m : ℕ) (p : Parent) → is_under m p ≡ true → p ≡ Some m
under-is m None h = absurd (false≢true h)
under-is m (Some q) h = ap Some (eqb-true q m h)
