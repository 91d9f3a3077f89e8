-- The words of the papers: functions of the list of accepted events alone, none of the state. `told` goes through the list from its first event to its last (crates/histories/specs/Histories.antt);
-- what one event more changes in it, `Endings` and `Delegation` say.
use Rattle.std.specs.Prelude.{ℕ, ◌<◌, ◌≡◌, Bool, true, false, not, ◌&&◌, ◌||◌, ◌≢◌, List, [], ◌∷◌, ◌++◌, eqb}
use Rattle.terms.specs.Events.{is_write}
use Rattle.terms.specs.declared.Event.{Event}
use Rattle.terms.specs.declared.Event.TheVariants.{Abort, AbortOne, Begin, Commit, CommitOne, Delegate, Operation as Invoke, Spawn}
use Rattle.terms.specs.declared.Mark.{Mark}
use Rattle.ties.specs.Operations.{is_aborted, is_active, is_committed}
use Rattle.ties.specs.declared.Fate.{Fate}
use Rattle.rules.specs.States.{Parent}
use Rattle.histories.specs.Histories.{told}

-- ---- what stands where

-- e stands in h, and u is what stands before it
abbrev pub Happens : List Event → List Event → Event → Type 0
Happens h u e = (v : List Event) × (h ≡ u ++ (e ∷ v))

-- some event of h is one of those
unfoldable pub occurs : (Event → Bool) → List Event → Bool
occurs f [] = false
occurs f (e ∷ es) = f e || occurs f es

-- ---- transactions: the significant events of t (000, 10.2.1). A spawn begins the child.

abbrev pub begins : ℕ → Event → Bool
begins t (Begin u) = eqb u t
begins t (Commit u) = false
begins t (Abort u) = false
begins t (Invoke u o m) = false
begins t (Delegate u r q) = false
begins t (CommitOne u q) = false
begins t (AbortOne u q) = false
begins t (Spawn m c) = eqb c t

abbrev pub commits : ℕ → Event → Bool
commits t (Begin u) = false
commits t (Commit u) = eqb u t
commits t (Abort u) = false
commits t (Invoke u o m) = false
commits t (Delegate u r q) = false
commits t (CommitOne u q) = false
commits t (AbortOne u q) = false
commits t (Spawn m c) = false

abbrev pub aborts : ℕ → Event → Bool
aborts t (Begin u) = false
aborts t (Commit u) = false
aborts t (Abort u) = eqb u t
aborts t (Invoke u o m) = false
aborts t (Delegate u r q) = false
aborts t (CommitOne u q) = false
aborts t (AbortOne u q) = false
aborts t (Spawn m c) = false

-- t has a part in e other than to begin: it commits, aborts, operates, gives, receives, ends an operation alone, or spawns
abbrev pub acts : ℕ → Event → Bool
acts t (Begin u) = false
acts t (Commit u) = eqb u t
acts t (Abort u) = eqb u t
acts t (Invoke u o m) = eqb u t
acts t (Delegate u r q) = eqb u t || eqb r t
acts t (CommitOne u q) = eqb u t
acts t (AbortOne u q) = eqb u t
acts t (Spawn m c) = eqb m t

abbrev pub ends : ℕ → Event → Bool
ends t e = commits t e || aborts t e

abbrev pub began : List Event → ℕ → Bool
began h t = occurs (begins t) h

abbrev pub committed : List Event → ℕ → Bool
committed h t = occurs (commits t) h

abbrev pub aborted : List Event → ℕ → Bool
aborted h t = occurs (aborts t) h

abbrev pub ended : List Event → ℕ → Bool
ended h t = committed h t || aborted h t

-- in progress: it began and has not ended
abbrev pub in_progress : List Event → ℕ → Bool
in_progress h t = began h t && not (ended h t)

-- whose child t is: that of the one who spawned it
abbrev pub parent : List Event → ℕ → Parent
parent h t = (told h).parent t

-- ---- operations: 0, 1, 2 and so on in the order in which they were invoked

-- how many there are
abbrev pub invoked : List Event → ℕ
invoked h = (told h).made

abbrev pub object : List Event → ℕ → ℕ
object h q = ((told h).deed q).object

abbrev pub mark : List Event → ℕ → Mark
mark h q = ((told h).deed q).mark

-- ResponsibleTr (000, 10.2.3): the invoker, or the last who received q while it ran, by a delegation or as the parent of a child that committed
abbrev pub responsible : List Event → ℕ → ℕ
responsible h q = ((told h).deed q).whose

abbrev pub fate : List Event → ℕ → Fate
fate h q = ((told h).deed q).fate

-- in progress
abbrev pub runs : List Event → ℕ → Bool
runs h q = is_active (fate h q)

-- committed, alone or with the one responsible for it
abbrev pub kept : List Event → ℕ → Bool
kept h q = is_committed (fate h q)

-- aborted, alone or with the one responsible for it
abbrev pub dropped : List Event → ℕ → Bool
dropped h q = is_aborted (fate h q)

-- ---- conflicts and ties

-- p and a further operation are on the same object, and one of the two is a write
abbrev pub conflicts : List Event → ℕ → ℕ → Mark → Bool
conflicts h p o m = eqb (object h p) o && (is_write (mark h p) || is_write m)

-- p is tied before q: they conflict, and p was not dropped when q came (004, over the whole history)
pub record Tied (h : List Event) (p q : ℕ) : Type 0 where
  -- who invoked q, on what and how; what stood before that
  pub t : ℕ
  pub o : ℕ
  pub m : Mark
  pub u : List Event
  pub came : Happens h u (Invoke t o m)
  pub number : invoked u ≡ q
  pub earlier : p < q
  pub conflicting : conflicts u p o m ≡ true
  pub stood : dropped u p ≡ false

-- ---- the order C of transactions (000, 10.3; 004, section 2)

-- a < b: operations of theirs are tied, the one of a before that of b, and neither is dropped
pub record Precedes (h : List Event) (a b : ℕ) : Type 0 where
  pub p : ℕ
  pub q : ℕ
  pub tie : Tied h p q
  pub here : dropped h p ≡ false
  pub there : dropped h q ≡ false
  pub first : responsible h p ≡ a
  pub second : responsible h q ≡ b
  pub differ : a ≢ b

-- kept operations of a and of b conflict, and that of a came first; no matter what ran when
pub record KeptConflict (h : List Event) (a b : ℕ) : Type 0 where
  pub p : ℕ
  pub q : ℕ
  pub earlier : p < q
  pub there_are : q < invoked h
  pub conflicting : conflicts h p (object h q) (mark h q) ≡ true
  pub here : kept h p ≡ true
  pub there : kept h q ≡ true
  pub first : responsible h p ≡ a
  pub second : responsible h q ≡ b
  pub differ : a ≢ b

-- a relation followed in one step or more: C* of C
pub data Follows (R : ℕ → ℕ → Type 0) : ℕ → ℕ → Type 0 where
  once : {a b : ℕ} → R a b → Follows R a b
  and_on : {a b c : ℕ} → R a b → Follows R b c → Follows R a c

abbrev pub OnRing : List Event → ℕ → Type 0
OnRing h t = Follows (Precedes h) t t
