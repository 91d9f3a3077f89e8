-- What declared dependencies bar, in words.
use Prim.Native.Nat.{ℕ}
use mathlib.Core.Path.{◌≡◌}
use mathlib.Core.Bool.{Bool, false, true}
use mathlib.Core.Logic.{◌↔◌}
use mathlib.Core.List.{List}
use lib.Dec.{eqb}
use borrow.Author.Tests.{eq-eqb, eqb-true}
use Rattle.laws.proofs.Bools.{on_and}
use Rattle.laws.proofs.IndexLaws.{any-elim, any-intro}
use Rattle.tables.specs.Counts.{dependency_count}
use Rattle.tables.specs.Dependencies.{dependency_at}
use Rattle.tables.specs.declared.Tables.{Tables}
use Rattle.rules.specs.Promises.{Barred, DeclaredBars}
use Rattle.rules.specs.Rules.{barred_by, declared_bars, kind_bars}
use Rattle.rules.specs.States.{phase_of}
use Rattle.rules.specs.declared.Transaction.{Transaction}

bars-both : (begins : Bool) (tables : Tables) (ts : List Transaction) (t : ℕ) → (declared_bars begins tables ts t ≡ true) ↔ Barred (kind_bars begins) tables ts t
unfolding declared_bars
bars-both begins tables ts t = (
  λ h.
      let w = any-elim (dependency_count tables) (λ i. barred_by begins ts t (dependency_at tables i)) h in
      let d = dependency_at tables w.0 in
      let both = on_and (eqb d.dependent t) (kind_bars begins d.kind (phase_of ts d.base)) w.2 in
      record { entry = w.0; declared = w.1; dependent = eqb-true d.dependent t both.0; bars_it = both.1 },
  λ w.
      any-intro (dependency_count tables) (λ i. barred_by begins ts t (dependency_at tables i)) w.entry w.declared
      (rw (eq-eqb (dependency_at tables w.entry).dependent t w.dependent) w.bars_it),
)

pub declared-bars : DeclaredBars
declared-bars = record { begins = bars-both true; commits = bars-both false }
