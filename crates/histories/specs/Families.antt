-- Helpers under a clerk, after any run of events: who is a child, what a child's commit does, and who ends before whom.
use Rattle.std.specs.Prelude.{ℕ, ◌<◌, ◌≡◌, Bool, true, false, cond, ◌||◌, ◌≢◌, List, [], ◌∷◌, ◌++◌, eqb, Some}
use Rattle.terms.specs.Limits.{most_transactions}
use Rattle.terms.specs.declared.Event.{Event}
use Rattle.terms.specs.declared.Event.TheVariants.{Abort, AbortOne, Begin, Commit, CommitOne, Delegate, Operation as Invoke, Spawn}
use Rattle.terms.specs.declared.Verdict.TheVariants.{Accepted}
use Rattle.ties.specs.Operations.{held_by, is_committed, op_at, passed_to, size}
use Rattle.tables.specs.Sorts.{is_plain, sort_of}
use Rattle.tables.specs.declared.Tables.{Tables}
use Rattle.rules.specs.States.{parent_of, phase_of}
use Rattle.rules.specs.declared.Phase.TheVariants.{Committed, Idle}
use Rattle.rules.specs.declared.State.{State}
use Rattle.judge.specs.Judge.{clerk_of, judged}
use Rattle.histories.specs.Histories.{history, reached, told}

-- "Its commit hands its active operations to the parent instead of ending them": they are m's, and nothing else moved
pub record OnlyHands (before after : State) (t m : ℕ) : Type 0 where
  pub committed : phase_of after.transactions t ≡ Committed
  pub phases : (u : ℕ) → u ≢ t → phase_of after.transactions u ≡ phase_of before.transactions u
  pub parents : (u : ℕ) → parent_of after.transactions u ≡ parent_of before.transactions u
  pub count : after.ops.count ≡ before.ops.count
  pub operations : (q : ℕ) → q < size before.ops
      → op_at after.ops q ≡ cond (held_by t (op_at before.ops q)) (passed_to m (op_at before.ops q)) (op_at before.ops q)

-- t commits or aborts by this event, and by one of these
abbrev pub ends : ℕ → Event → Bool
ends t (Begin u) = false
ends t (Commit u) = eqb u t
ends t (Abort u) = eqb u t
ends t (Invoke u o m) = false
ends t (Delegate u r q) = false
ends t (CommitOne u q) = false
ends t (AbortOne u q) = false
ends t (Spawn m c) = false

unfoldable pub ends_in : ℕ → List Event → Bool
ends_in t [] = false
ends_in t (e ∷ es) = ends t e || ends_in t es

pub record Families (tables : Tables) (es : List Event) : Type 0 where
  -- whose child a transaction is, the history tells
  pub parents : (t : ℕ) → t < most_transactions → parent_of (reached tables es).transactions t ≡ (told (history tables es)).parent t
  -- "sagas can't be parents or children"
  pub plain : (t m : ℕ) → parent_of (reached tables es).transactions t ≡ Some m → (is_plain (sort_of tables t) ≡ true) × (is_plain (sort_of tables m) ≡ true)
  -- and so whose helper the judge takes it for is whose child it is
  pub clerk : (t : ℕ) → clerk_of tables (reached tables es).transactions t ≡ parent_of (reached tables es).transactions t
  -- a child and its parent have both begun
  pub begun : (t m : ℕ) → parent_of (reached tables es).transactions t ≡ Some m
      → (phase_of (reached tables es).transactions t ≢ Idle) × (phase_of (reached tables es).transactions m ≢ Idle)
  pub hands : (t m : ℕ) → parent_of (reached tables es).transactions t ≡ Some m → (judged tables (reached tables es) (Commit t)).verdict ≡ Accepted
      → OnlyHands (reached tables es) (judged tables (reached tables es) (Commit t)).state t m
  -- no operation is ever committed under a child
  pub none_kept : (q m : ℕ) → q < size (reached tables es).ops → parent_of (reached tables es).transactions (op_at (reached tables es).ops q).responsible ≡ Some m
      → is_committed (op_at (reached tables es).ops q).fate ≡ false
  -- "A parent can't commit while a child is active": between the spawn and its commit the child has ended, by the accepted events alone
  pub children_first : (xs ys zs : List Event) (m c : ℕ) → c < most_transactions → history tables es ≡ xs ++ (Spawn m c ∷ (ys ++ (Commit m ∷ zs))) → ends_in c ys ≡ true
  -- "a child can't commit once its parent has ended"
  pub parent_lasts : (xs ys zs : List Event) (m c : ℕ) → c < most_transactions → history tables es ≡ xs ++ (Spawn m c ∷ (ys ++ (Commit c ∷ zs))) → ends_in m ys ≡ false
