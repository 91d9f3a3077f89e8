-- Tables as they stand in a book (docs/RULES.md, 1 The book): the edition, the sagas with their steps, the plain transactions, the objects, and the
-- dependencies, each as dependent, base and kind.
use Rattle.std.specs.Prelude.{ℕ, List, [], ◌∷◌, ◌++◌, take}
use Rattle.number.specs.Number.{edition_number}
use Rattle.number.specs.declared.Edition.{Edition}
use Rattle.tables.specs.Dependencies.{kind_number}
use Rattle.tables.specs.Sorts.{sagas_of}
use Rattle.tables.specs.declared.Dependency.{Dependency}
use Rattle.tables.specs.declared.Tables.{Tables}

abbrev pub entry_fields : Dependency → List ℕ
entry_fields x = x.dependent ∷ x.base ∷ kind_number x.kind ∷ []

unfoldable pub entries_fields : List Dependency → List ℕ
entries_fields [] = []
entries_fields (x ∷ xs) = entry_fields x ++ entries_fields xs

abbrev pub declared_of : Tables → List Dependency
declared_of tables = take tables.declared tables.dependencies

abbrev pub table_fields : Edition → Tables → List ℕ
table_fields ed tables =
    (edition_number ed ∷ tables.sagas ∷ []) ++ (sagas_of tables ++ ((tables.plain ∷ tables.objects ∷ tables.declared ∷ []) ++ entries_fields (declared_of tables)))
