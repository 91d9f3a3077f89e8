-- What the order of transactions means after any run of events: the numbers of operations are within the limits, so nothing but an abort takes
-- an operation out of it.
use Prim.Native.Nat.{ℕ, ◌<◌}
use native.Mathlib.Omega.{arith}
use mathlib.Core.Path.{◌≡◌, sym, ap, ◌∙◌}
use mathlib.Core.Bool.{true, false, not, ◌||◌}
use mathlib.Core.Logic.{◌↔◌}
use mathlib.Core.List.{List}
use lib.Dec.{leb, ltb}
use borrow.Author.Tests.{lt-leb}
use Rattle.laws.proofs.Bools.{and_on, clash, not_on, off-or, on_and, or_left, or_off}
use Rattle.laws.proofs.Decisions.{lt-or}
use Rattle.terms.specs.Limits.{most_objects, most_transactions}
use Rattle.ties.specs.Operations.{is_aborted as is_aborted_op, is_active as is_active_op, op_at, size}
use Rattle.ties.specs.Ties.{before, conflict, is_gone, stood, tied_to}
use Rattle.ties.specs.declared.Operation.{Operation}
use Rattle.ties.proofs.TieLaws.{between, tie-made, tie_parts, ties-on}
use Rattle.tables.specs.declared.Tables.{Tables}
use Rattle.judge.specs.Judge.{state_after}
use Rattle.rules.specs.States.{empty_state, phase_of}
use Rattle.judge.specs.declared.Change.{Change}
use Rattle.rules.specs.declared.State.{State}
use Rattle.rules.proofs.PhaseLaws.{code}
use Rattle.rules.proofs.StateLaws.{past-idle}
use Rattle.terms.specs.declared.Event.{Event}
use Rattle.histories.specs.Histories.{reached}
use Rattle.histories.specs.Promises.{Stands}
use Rattle.histories.proofs.Invariants.{lasting-kept, lasting-start}
use Rattle.histories.proofs.Lasts.{Lasting, size-count}
use Rattle.histories.proofs.Steps.{Step, keeps-by}
use Rattle.histories.proofs.Touches.{every}

-- every operation's numbers are within the limits
abbrev Within : Operation → Type 0
Within op = (op.responsible < most_transactions) × (op.object < most_objects)

pub record Bounded (s : State) : Type 0 where
  pub lasts : Lasting s
  pub within : (p : ℕ) → p < s.ops.count → Within (op_at s.ops p)

-- whoever is active is one of the transactions
running-small : (s : State) → Lasting s → (t : ℕ) → code (phase_of s.transactions t) ≡ 1 → t < most_transactions
running-small s h t a =
    lt-or t most_transactions (λ l. l) (λ l. absurd (omega (arith, a, ap code (past-idle s.transactions t (omega (arith, h.full))))))

bounded-kept : (tables : Tables) (s : State) (c : Change) → Bounded s → Step tables s c → Bounded (state_after c s)
bounded-kept tables s c h w = record { lasts = lasts; within = within }
  where
    lasts : Lasting (state_after c s)
    lasts = lasting-kept tables s c h.lasts w

    -- what is active is one of those accepted
    old : (p : ℕ) → is_active_op (op_at s.ops p).fate ≡ true → Within (op_at s.ops p)
    old p a = lt-or p s.ops.count (λ l. h.within p l) (λ l. clash a (h.lasts.blanks p l))

    within : (p : ℕ) → p < (state_after c s).ops.count → Within (op_at (state_after c s).ops p)
    within p l =
        every tables s c w h.lasts Within p
        (λ f. h.within p f.low)
        (λ fate f. old p f.active)
        (λ r f. (running-small (state_after c s) lasts r f.runs, (old p f.active).1))
        (λ n. (running-small (state_after c s) lasts n.t n.runs, n.making.object))
        (λ u. absurd (omega arith))

pub bounded : (tables : Tables) (es : List Event) → Bounded (reached tables es)
bounded tables es =
    keeps-by tables Bounded (bounded-kept tables) es empty_state (record { lasts = lasting-start; within = λ p l. absurd (omega arith) })

-- so whatever is not aborted counts for the order
pub stays-in : (s : State) → Bounded s → (p : ℕ) → p < s.ops.count → is_aborted_op (op_at s.ops p).fate ≡ false → is_gone (op_at s.ops p) ≡ false
stays-in s h p l a =
    let op = op_at s.ops p in
    let w = h.within p l in
    or_off (is_aborted_op op.fate) (leb most_transactions op.responsible || leb most_objects op.object) a
    (or_off (leb most_transactions op.responsible) (leb most_objects op.object) (lt-leb most_transactions op.responsible w.0) (lt-leb most_objects op.object w.1))

pub order-means : (tables : Tables) (es : List Event) (a b : ℕ) → (before (reached tables es).ops a b ≡ true) ↔ Stands (reached tables es).ops a b
unfolding tied_to
order-means tables es a b = (to, from)
  where
    s : State
    s = reached tables es

    here : (p : ℕ) → is_gone (op_at s.ops p) ≡ false → is_aborted_op (op_at s.ops p).fate ≡ false
    here p g =
        (off-or (is_aborted_op (op_at s.ops p).fate) (leb most_transactions (op_at s.ops p).responsible || leb most_objects (op_at s.ops p).object) g).0

    to : before s.ops a b ≡ true → Stands s.ops a b
    to h =
        let w = between (size s.ops) (op_at s.ops) a b h in
        let p = op_at s.ops w.p in
        let q = op_at s.ops w.q in
        let stands = here w.p w.tie.here in
        record {
          p = w.p;
          q = w.q;
          tie =
              tie-made s.ops w.p w.q
              (record {
                accepted = w.below;
                earlier = w.earlier;
                holds =
                    and_on (conflict p q.object q.mark) (stood p w.q) w.tie.conflicts
                    (or_left (not (is_aborted_op p.fate)) (ltb w.q p.ended) (not_on (is_aborted_op p.fate) stands));
              });
          here = stands;
          there = here w.q w.tie.there;
          first = w.first;
          second = w.second;
          differ = λ e. w.tie.other (w.first ∙ e ∙ sym w.second);
        }

    from : Stands s.ops a b → before s.ops a b ≡ true
    from w =
        let h = bounded tables es in
        let n = size-count s h.lasts in
        let parts = tie_parts s.ops w.p w.q w.tie in
        let p = op_at s.ops w.p in
        let q = op_at s.ops w.q in
        ties-on (size s.ops) (op_at s.ops) a b
        (record {
          p = w.p;
          q = w.q;
          earlier = parts.earlier;
          below = parts.accepted;
          tie =
              record {
                conflicts = (on_and (conflict p q.object q.mark) (stood p w.q) parts.holds).0;
                here = stays-in s h w.p (omega (arith, n, parts.earlier, parts.accepted)) w.here;
                there = stays-in s h w.q (omega (arith, n, parts.accepted)) w.there;
                other = λ e. w.differ (sym w.first ∙ e ∙ w.second);
              };
          first = w.first;
          second = w.second;
        })
