-- Every accepted event keeps it, so it holds after any run of events.
use Prim.Native.Nat.{ℕ, ◌≤◌}
use native.Mathlib.Omega.{arith}
use mathlib.Core.Path.{◌≡◌, refl, ◌∙◌}
use mathlib.Core.Bool.{true, false}
use lib.ListN.{replicate, length-replicate, get_or-replicate, get_or-eq_default}
use mathlib.Core.List.{List}
use Rattle.laws.proofs.Bools.{clash}
use Rattle.laws.proofs.Decisions.{lt-or}
use Rattle.terms.specs.Limits.{most_transactions}
use Rattle.ties.specs.Operations.{no_operation, is_active as is_active_op, most_operations, no_ops, op_at}
use Rattle.ties.specs.declared.Operation.{Operation}
use Rattle.tables.specs.declared.Tables.{Tables}
use Rattle.judge.specs.Judge.{state_after}
use Rattle.rules.specs.States.{empty_state, idle, phase_of}
use Rattle.judge.specs.declared.Change.{Change}
use Rattle.terms.specs.declared.Event.{Event}
use Rattle.rules.specs.declared.State.{State}
use Rattle.rules.proofs.PhaseLaws.{code}
use Rattle.histories.specs.Histories.{reached}
use Rattle.histories.proofs.Lasts.{Lasting}
use Rattle.histories.proofs.Steps.{Step, keeps-by}
use Rattle.judge.proofs.ChangeLaws.{lengths-after}
use Rattle.histories.proofs.Touches.{by-made, count-up, every, rest}

module _ (tables : Tables) (s : State) (c : Change) (h : Lasting s) (w : Step tables s c) where
  abbrev later : State
  later = state_after c s

  past-kept : (p : ℕ) → is_active_op (op_at later.ops p).fate ≡ false → (op_at later.ops p).ended ≤ later.ops.count
  past-kept p =
      every tables s c w h (λ (op : Operation). is_active_op op.fate ≡ false → op.ended ≤ later.ops.count) p
      (λ f a. omega (arith, h.past p a, up))
      (λ fate f a. omega (arith, up))
      (λ r f a. clash f.active a)
      (λ n a. clash refl a)
      (λ l a. omega (arith, h.past p a, up))
    where
      up : s.ops.count ≤ later.ops.count
      up = count-up tables s c w

  active-kept : (p : ℕ) → is_active_op (op_at later.ops p).fate ≡ true → code (phase_of later.transactions (op_at later.ops p).responsible) ≡ 1
  active-kept p =
      every tables s c w h (λ (op : Operation). is_active_op op.fate ≡ true → code (phase_of later.transactions op.responsible) ≡ 1) p
      (λ f a. f.still a)
      (λ fate f a. clash a f.gone)
      (λ r f a. f.runs)
      (λ n a. n.runs)
      (λ l a. clash a (h.blanks p (omega (arith, count-up tables s c w))))

  pub lasting-after : Lasting later
  lasting-after =
      record {
        full = (lengths-after c s).0 ∙ h.full;
        room = (lengths-after c s).1 ∙ h.room;
        few =
            by-made tables s (λ (x : Change). (state_after x s).ops.count ≤ most_operations) c w
            (λ x e. omega (arith, e, h.few))
            (λ t o m f e. omega (arith, e, f.room));
        past = past-kept;
        blanks = λ p l. rw (rest tables s c w h p l) (h.blanks p (omega (arith, count-up tables s c w)));
        active = active-kept;
      }

pub lasting-kept : (tables : Tables) (s : State) (c : Change) → Lasting s → Step tables s c → Lasting (state_after c s)
lasting-kept tables s c h w = lasting-after tables s c h w

all-blank : (q : ℕ) → op_at no_ops q ≡ no_operation
all-blank q =
    lt-or q most_operations
    (λ h. get_or-replicate most_operations q no_operation no_operation h)
    (λ h. get_or-eq_default (replicate most_operations no_operation) no_operation {n = q} (omega (arith, length-replicate most_operations no_operation)))

pub lasting-start : Lasting empty_state
lasting-start =
    record {
      full = length-replicate most_transactions idle;
      room = length-replicate most_operations no_operation;
      few = omega arith;
      past = λ p. rw (all-blank p) (λ a. omega arith);
      blanks = λ p l. rw (all-blank p);
      active = λ p. rw (all-blank p) (λ a. clash a refl);
    }

pub lasting : (tables : Tables) (es : List Event) → Lasting (reached tables es)
lasting tables es = keeps-by tables Lasting (lasting-kept tables) es empty_state lasting-start
