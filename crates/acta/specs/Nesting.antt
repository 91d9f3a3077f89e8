-- Children (000, 10.2.3, Spawn; 003, 3.2, rules 1, 2, 6 and 8; 004, sections 2 and 3). h is a history.
use Rattle.std.specs.Prelude.{ℕ, ◌<◌, ◌≡◌, true, false, List, ◌++◌, None, Some}
use Rattle.terms.specs.declared.Event.{Event}
use Rattle.terms.specs.declared.Event.TheVariants.{Commit, CommitOne, Spawn}
use Rattle.acta.specs.Words.{Happens, began, in_progress, invoked, kept, parent, responsible}

pub record Nesting (h : List Event) : Type 0 where
  -- 000, Spawn: the parent is in progress when the child begins, and nobody becomes its own child
  pub spawns : (u : List Event) (m c : ℕ) → Happens h u (Spawn m c) → (in_progress u m ≡ true) × (began u c ≡ false)
  -- each has one parent at most, for good
  pub one_parent : (u v : List Event) → h ≡ u ++ v → (c m : ℕ) → parent u c ≡ Some m → parent h c ≡ Some m
  -- 003, 3.2, parent CD child: when a parent commits, none of its children is in progress
  pub children_first : (u : List Event) (t : ℕ) → Happens h u (Commit t) → (c : ℕ) → parent u c ≡ Some t → in_progress u c ≡ false
  -- 003, 3.2, child WD parent: a child commits only while its parent is in progress. What its commit does is `Endings.hand`
  pub parent_lasts : (u : List Event) (c m : ℕ) → Happens h u (Commit c) → parent u c ≡ Some m → in_progress u m ≡ true
  -- 004, section 3: what a child does is kept under its parent, never under itself
  pub keeps_none : (u : List Event) (c q : ℕ) → Happens h u (CommitOne c q) → parent u c ≡ None
  pub none_kept : (q m : ℕ) → q < invoked h → parent h (responsible h q) ≡ Some m → kept h q ≡ false
