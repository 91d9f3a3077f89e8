-- What the documents say in numbers, once more as numbers: the table of refusals, and the limits.
use Rattle.std.specs.Prelude.{◌≡◌, List, [], ◌∷◌, map, Ok}
use Rattle.terms.specs.Limits.{limits}
use Rattle.terms.specs.Refusals.{number_of, refusal_in}
use Rattle.terms.specs.declared.Refusal.{Refusal}
use Rattle.terms.specs.declared.Refusal.TheVariants.{TooLong, Torn, BadNumber, BadEdition, BadCount, BadDependency, BadCode, NotInTables, NeverDoes, NotIdle, NotActive, NotResponsible, SagaRule, DependencyRule, DirtyRead, OnRing, MustWait, Full, NoRoom, AlreadyEnded, NeverMoves, UndoOnRing}

-- the refusals in the order of the table: the book and its tables, the events, and those that document 02 adds
abbrev pub refusal_table : List Refusal
refusal_table =
    TooLong ∷ Torn ∷ BadNumber ∷ BadEdition ∷ BadCount ∷ BadDependency ∷ BadCode ∷ NotInTables ∷ NeverDoes ∷ NotIdle ∷ NotActive ∷ NotResponsible
    ∷ SagaRule ∷ DependencyRule ∷ DirtyRead ∷ OnRing ∷ MustWait ∷ Full ∷ NoRoom ∷ AlreadyEnded ∷ NeverMoves ∷ UndoOnRing ∷ []

pub record Documented : Type 0 where
  -- each refusal has the number of its place in the table
  pub refusals : map number_of refusal_table ≡ 1 ∷ 2 ∷ 3 ∷ 4 ∷ 5 ∷ 6 ∷ 7 ∷ 8 ∷ 9 ∷ 10 ∷ 11 ∷ 12 ∷ 13 ∷ 14 ∷ 15 ∷ 16 ∷ 17 ∷ 18 ∷ 19 ∷ 20 ∷ 21 ∷ 22 ∷ []
  -- and that number names it
  pub named : (r : Refusal) → refusal_in (number_of r) ≡ Ok r
  -- "at most 65,536 bytes", 16 sagas of 16 steps, 64 transactions, 32 objects, 128 dependencies
  pub limits : limits ≡ record { bytes = 65536; sagas = 16; steps = 16; transactions = 64; objects = 32; dependencies = 128 }
