-- The numbers of transactions (docs/RULES.md, 1 The book): "A saga whose first number is f owns 2n of them: f is the saga S, f+1 to f+n are
-- steps T1 to Tn, f+n+1 to f+2n-1 are undos C1 to C(n-1). Tn has no undo. Plain ones come last."
use Rattle.std.specs.Prelude.{ℕ, ◌+◌, ◌*◌, ◌-◌, Bool, true, false, cond, List, [], ◌∷◌, get_or, take, ltb, leb, eqb}
use Rattle.terms.specs.declared.Saga.{Saga}
use Rattle.tables.specs.declared.Tables.{Tables}
use Rattle.tables.specs.declared.Sort.{Sort}
use Rattle.tables.specs.declared.Sort.TheVariants.{Saga as SagaItself, Step, Undo, Plain, Unknown}

-- the steps of each saga
abbrev pub sagas_of : Tables → List ℕ
sagas_of tables = take tables.sagas tables.steps

-- ---- sorts

-- the sort of f + k, k below 2n, in a saga of n steps whose first number is f
unfoldable pub place_of : ℕ → ℕ → ℕ → Sort
place_of f n k = cond (eqb k 0) (SagaItself f n) (cond (leb k n) (Step f n k) (Undo f n (k - n)))

-- with sagas of these numbers of steps from f on, and p plain ones after them
unfoldable pub sort_from : List ℕ → ℕ → ℕ → ℕ → Sort
sort_from [] f p t = cond (ltb t (f + p)) Plain Unknown
sort_from (n ∷ ns) f p t = cond (ltb t (f + 2 * n)) (place_of f n (t - f)) (sort_from ns (f + 2 * n) p t)

unfoldable pub sort_of : Tables → ℕ → Sort
sort_of tables t = sort_from (sagas_of tables) 0 tables.plain t

abbrev pub is_known : Sort → Bool
is_known (SagaItself f n) = true
is_known (Step f n i) = true
is_known (Undo f n i) = true
is_known Plain = true
is_known Unknown = false

abbrev pub is_saga : Sort → Bool
is_saga (SagaItself f n) = true
is_saga (Step f n i) = false
is_saga (Undo f n i) = false
is_saga Plain = false
is_saga Unknown = false

abbrev pub is_undo : Sort → Bool
is_undo (SagaItself f n) = false
is_undo (Step f n i) = false
is_undo (Undo f n i) = true
is_undo Plain = false
is_undo Unknown = false

abbrev pub is_plain : Sort → Bool
is_plain (SagaItself f n) = false
is_plain (Step f n i) = false
is_plain (Undo f n i) = false
is_plain Plain = true
is_plain Unknown = false

-- ---- sagas by their index

-- how many transactions sagas of these numbers of steps own
unfoldable pub owned_by : List ℕ → ℕ
owned_by [] = 0
owned_by (n ∷ ns) = 2 * n + owned_by ns

-- N, "all transactions together"
abbrev pub number_of_all : Tables → ℕ
number_of_all tables = owned_by (sagas_of tables) + tables.plain

-- the first number of saga i; past the last saga, the first number that no saga owns
abbrev pub first_of : Tables → ℕ → ℕ
first_of tables i = owned_by (take i (sagas_of tables))

-- the steps of saga i; past the last saga, none
abbrev pub steps_of : Tables → ℕ → ℕ
steps_of tables i = get_or (sagas_of tables) i 0

abbrev pub saga_of : Tables → ℕ → Saga
saga_of tables i = record { first = first_of tables i; steps = steps_of tables i }
