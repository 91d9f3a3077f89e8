-- How many there are of each kind; no more than there may be, whatever the tables say.
use Rattle.std.specs.Prelude.{ℕ, min}
use Rattle.terms.specs.Limits.{most_sagas, most_transactions, most_objects, most_dependencies}
use Rattle.tables.specs.Sorts.{number_of_all}
use Rattle.tables.specs.declared.Tables.{Tables}

abbrev pub saga_count : Tables → ℕ
saga_count tables = min tables.sagas most_sagas

abbrev pub transaction_count : Tables → ℕ
transaction_count tables = min (number_of_all tables) most_transactions

abbrev pub object_count : Tables → ℕ
object_count tables = min tables.objects most_objects

abbrev pub dependency_count : Tables → ℕ
dependency_count tables = min tables.declared most_dependencies
