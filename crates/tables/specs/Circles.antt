-- Tables that can never move (docs/RULES.md, 2 States and who may act): "Refuse tables exactly when begin kinds 4 to 7 lead from a transaction back to itself."
use Rattle.std.specs.Prelude.{ℕ, Bool, ◌&&◌, leb, eqb}
use Rattle.laws.specs.Index.{any_below}
use Rattle.terms.specs.Limits.{most_transactions}
use Rattle.sets.specs.Reach.{leads_to}
use Rattle.tables.specs.Counts.{dependency_count}
use Rattle.tables.specs.Dependencies.{kind_number, dependency_at}
use Rattle.tables.specs.declared.Kind.{Kind}
use Rattle.tables.specs.declared.Dependency.{Dependency}
use Rattle.tables.specs.declared.Tables.{Tables}

-- "begin kinds 4 to 7"
abbrev pub is_begin_kind : Kind → Bool
is_begin_kind k = leb 4 (kind_number k)

-- by this entry the begin of d waits for b
abbrev pub waits_by : Dependency → ℕ → ℕ → Bool
waits_by x d b = is_begin_kind x.kind && (eqb x.dependent d && eqb x.base b)

-- by some declared entry it does; no more are declared than there is room for
unfoldable pub begin_link : Tables → ℕ → ℕ → Bool
begin_link tables d b = any_below (dependency_count tables) (λ i. waits_by (dependency_at tables i) d b)

-- such entries "lead from a transaction back to itself": from the dependent of some entry, since no other has a way out
unfoldable pub has_circle : Tables → Bool
has_circle tables =
    any_below (dependency_count tables)
    (λ i. leads_to most_transactions (begin_link tables) (dependency_at tables i).dependent (dependency_at tables i).dependent)
