-- Reading the tables (docs/RULES.md, 1 The book and 4 Refusals): "Fields are judged as they are read: 2 and 3 first, then 4 to 7;
-- a dependency's three fields are read before 6." The place of 2 to 5 is the first byte of the field, that of 6 the entry's. Document 02, request 3:
-- 21 is "judged after the last dependency entry and before the first event, place at the dependency count".
use Rattle.std.specs.Prelude.{ℕ, zero, suc, ◌+◌, ◌*◌, ◌-◌, Bool, true, false, cond, ◌&&◌, List, get_or, set, replicate, ltb, Result, Ok, Err}
use Rattle.terms.specs.Limits.{most_sagas, most_steps, most_transactions, most_objects, most_dependencies}
use Rattle.terms.specs.declared.Refusal.{Refusal}
use Rattle.terms.specs.declared.Refusal.TheVariants.{BadEdition, BadCount, BadDependency, NeverMoves}
use Rattle.number.specs.Number.{ceiling_of, edition_named, edition_number, number_at, number_within, and_then, row_at, Field, fault}
use Rattle.number.specs.declared.Edition.{Edition}
use Rattle.number.specs.declared.Edition.TheVariants.{First}
use Rattle.number.specs.declared.Row.{Row}
use Rattle.tables.specs.Dependencies.{kind_of, no_dependency, entry_holds}
use Rattle.tables.specs.Circles.{has_circle}
use Rattle.tables.specs.declared.Circles.{Circles}
use Rattle.tables.specs.declared.Circles.TheVariants.{Forbidden, Permitted}
use Rattle.tables.specs.declared.Tables.{Tables}
use Rattle.tables.specs.declared.SagasRead.{SagasRead}
use Rattle.tables.specs.declared.TablesRead.{TablesRead}
use Rattle.number.specs.declared.Fault.{Fault}
use Rattle.tables.specs.declared.Entry.{Entry}

unfoldable pub empty_tables : Tables
empty_tables =
    record {
      sagas = 0;
      steps = replicate most_sagas 0;
      plain = 0;
      objects = 0;
      dependencies = replicate most_dependencies no_dependency;
      declared = 0;
    }

-- ---- "for each its steps n, 1 to 16", with the running sum of what the sagas own

abbrev pub with_saga : Tables → ℕ → Tables
with_saga tables n =
    record {
      sagas = tables.sagas + 1;
      steps = set tables.steps tables.sagas n;
      plain = tables.plain;
      objects = tables.objects;
      dependencies = tables.dependencies;
      declared = tables.declared;
    }

abbrev pub sagas_stopped : Refusal → ℕ → SagasRead
sagas_stopped r p = record { answer = fault r p; tables = empty_tables }

-- the steps of k more sagas; "N above 64 at the field that takes it there"
unfoldable pub sagas_from : ℕ → List ℕ → ℕ → ℕ → ℕ → Tables → SagasRead
sagas_from cap s zero at sum tables = record { answer = Ok (sum, at); tables = tables }
sagas_from cap s (suc k) at sum tables =
    and_then (number_within cap s at 1 most_steps BadCount) sagas_stopped
    (λ n next. cond (ltb most_transactions (sum + 2 * n)) (sagas_stopped BadCount at) (sagas_from cap s k next (sum + 2 * n) (with_saga tables n)))

-- ---- the dependencies

abbrev pub refused : Refusal → ℕ → TablesRead
refused r at = record { answer = fault r at; tables = empty_tables }

-- the place after the tables, or why they are refused
abbrev pub TablesAnswer : Type 0
TablesAnswer = Result ℕ Fault

-- they were accepted
abbrev pub is_read : TablesAnswer → Bool
is_read (Ok at) = true
is_read (Err f) = false

-- an entry with the place after it, or why there is none
abbrev pub EntryRead : Type 0
EntryRead = Result (Entry × ℕ) Fault

abbrev pub declares : ℕ → ℕ → ℕ → ℕ → EntryRead
declares d b kind next = Ok (record { dependent = d; base = b; kind = kind }, next)

-- "each as dependent, base, kind"
abbrev pub entry_by : Row → EntryRead
entry_by row = and_then row.end fault (λ n next. declares (get_or row.fields 0 0) (get_or row.fields 1 0) (get_or row.fields 2 0) next)

unfoldable pub entry_at : ℕ → List ℕ → ℕ → EntryRead
entry_at cap s at = entry_by (row_at cap s 3 at)

abbrev pub with_entry : Tables → ℕ → ℕ → ℕ → Tables
with_entry tables d b kind =
    record {
      sagas = tables.sagas;
      steps = tables.steps;
      plain = tables.plain;
      objects = tables.objects;
      dependencies = set tables.dependencies tables.declared (record { dependent = d; base = b; kind = kind_of kind });
      declared = tables.declared + 1;
    }

-- all three fields are read, then the entry is judged, at its own place
abbrev pub then_entry : EntryRead → ℕ → ℕ → Tables → (ℕ → ℕ → ℕ → ℕ → TablesRead) → TablesRead
then_entry (Ok (e, next)) at n tables go = cond (entry_holds tables n e.dependent e.base e.kind) (go e.dependent e.base e.kind next) (refused BadDependency at)
then_entry (Err f) at n tables go = refused f.refusal f.place

-- k more entries; n is N
unfoldable pub dependencies_from : ℕ → List ℕ → ℕ → ℕ → ℕ → Tables → TablesRead
dependencies_from cap s n zero at tables = record { answer = Ok at; tables = tables }
dependencies_from cap s n (suc k) at tables =
    then_entry (entry_at cap s at) at n tables (λ d b kind next. dependencies_from cap s n k next (with_entry tables d b kind))

-- ---- the whole

abbrev pub with_counts : Tables → ℕ → ℕ → Tables
with_counts tables p m =
    record {
      sagas = tables.sagas;
      steps = tables.steps;
      plain = p;
      objects = m;
      dependencies = tables.dependencies;
      declared = tables.declared;
    }

-- tables whose entries were all accepted are refused if their begins go round in a circle, at the place of the dependency count, unless circles
-- are permitted
unfoldable pub unless_circle : Circles → ℕ → TablesRead → TablesRead
unless_circle Permitted at read = read
unless_circle Forbidden at read = cond (is_read read.answer && has_circle read.tables) (refused NeverMoves at) read

-- plain transactions, at most 64 and no more than leaves N at most 64; objects; dependencies
unfoldable pub rest_from : Circles → ℕ → List ℕ → ℕ → ℕ → Tables → TablesRead
rest_from circles cap s at sum tables =
    and_then (number_within cap s at 0 (most_transactions - sum) BadCount) refused
    (λ p x. and_then (number_within cap s x 0 most_objects BadCount) refused
    (λ m y. and_then (number_within cap s y 0 most_dependencies BadCount) refused
    (λ k z. unless_circle circles y (dependencies_from cap s (sum + p) k z (with_counts tables p m)))))

-- "The edition field itself is always judged under edition 1's ceiling."
abbrev pub edition_ceiling : ℕ
edition_ceiling = ceiling_of First

-- the edition that a book names there; one that names none of them is read as one of edition 1
unfoldable pub edition_of : List ℕ → Edition
edition_of s = and_then (number_at edition_ceiling s 0) (λ r p. First) (λ n next. edition_named n)

-- the edition field of a book of this edition
abbrev pub edition_field : Edition → List ℕ → Field
edition_field ed s = number_within edition_ceiling s 0 (edition_number ed) (edition_number ed) BadEdition

-- edition, sagas, and the rest under the edition's own ceiling, with circles forbidden or permitted: the tables with the place after them, or a refusal with its place
-- and the empty tables
unfoldable pub tables_by : Circles → Edition → List ℕ → TablesRead
tables_by circles ed s =
    and_then (edition_field ed s) refused
    (λ e x. and_then (number_within (ceiling_of ed) s x 0 most_sagas BadCount) refused
    (λ g y. and_then (sagas_from (ceiling_of ed) s g y 0 empty_tables).answer refused
    (λ sum z. rest_from circles (ceiling_of ed) s z sum (sagas_from (ceiling_of ed) s g y 0 empty_tables).tables)))
