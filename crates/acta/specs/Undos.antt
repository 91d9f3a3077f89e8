-- Undos get through (001, section 4; 000, saga 20): what they do is strict, and they are never on a ring. h is a history.
use Rattle.std.specs.Prelude.{ℕ, ◌<◌, ◌≡◌, true, ◌⊎◌, List}
use Rattle.terms.specs.declared.Event.{Event}
use Rattle.terms.specs.declared.Event.TheVariants.{Operation as Invoke}
use Rattle.terms.specs.declared.Mark.{Mark}
use Rattle.tables.specs.Sorts.{is_undo, sort_of}
use Rattle.tables.specs.declared.Tables.{Tables}
use Rattle.acta.specs.Words.{Happens, OnRing, Tied, conflicts, in_progress, invoked, kept, responsible, runs}

pub record UndosPass (tables : Tables) (h : List Event) : Type 0 where
  -- when an undo operates, every conflicting operation that runs is its own
  pub waits : (u : List Event) (t o : ℕ) (m : Mark) → Happens h u (Invoke t o m) → is_undo (sort_of tables t) ≡ true
      → (p : ℕ) → p < invoked u → runs u p ≡ true → conflicts u p o m ≡ true → responsible u p ≡ t
  -- so what is tied before an operation of an undo is kept, for good, or is the undo's own
  pub strict : (p q : ℕ) → Tied h p q → is_undo (sort_of tables (responsible h q)) ≡ true → (kept h p ≡ true) ⊎ (responsible h p ≡ responsible h q)
  -- and no undo in progress is on a ring
  pub off_rings : (t : ℕ) → is_undo (sort_of tables t) ≡ true → in_progress h t ≡ true → OnRing h t → ⊥
