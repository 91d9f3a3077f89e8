-- Each limit (docs/RULES.md, 1 The book), written once.
use Rattle.std.specs.Prelude.{ℕ}
use Rattle.terms.specs.declared.Limits.{Limits}

-- a book has at most so many bytes
abbrev pub most_bytes : ℕ
most_bytes = 65536

-- sagas in a book
abbrev pub most_sagas : ℕ
most_sagas = 16

-- steps of a saga
abbrev pub most_steps : ℕ
most_steps = 16

-- transactions of all sorts together
abbrev pub most_transactions : ℕ
most_transactions = 64

abbrev pub most_objects : ℕ
most_objects = 32

-- declared dependencies
abbrev pub most_dependencies : ℕ
most_dependencies = 128

abbrev pub limits : Limits
limits =
    record {
      bytes = most_bytes;
      sagas = most_sagas;
      steps = most_steps;
      transactions = most_transactions;
      objects = most_objects;
      dependencies = most_dependencies;
    }
