use native.Mathlib.Omega.{arith}
use Prim.Native.Nat.{ℕ, ◌+◌, ◌<◌}
use mathlib.Core.Path.{◌≡◌, refl, sym, ap, ◌∙◌, subst⁻¹}
use mathlib.Core.List.{List}
use lib.Dec.{ltb}
use mathlib.Core.Bool.{Bool, ◌&&◌}
use Rattle.laws.proofs.Decisions.{lt-or}
use Rattle.tables.specs.Circles.{is_begin_kind}
use Rattle.tables.specs.Dependencies.{dependency_at, no_dependency}
use Rattle.tables.specs.declared.Tables.{Tables}
use lib.ListN.{length, length-set, get_or, set, replicate, get_or-replicate, length-replicate, get_or-eq_default}
use Rattle.terms.specs.Limits.{most_transactions}
use Rattle.sets.proofs.RowLaws.{Holds}
use Rattle.tables.proofs.CircleLaws.{linked_by, links-none, links-all, links-in, links-out}
use Rattle.tables.proofs.begin_links.Goals as goal
use Rattle.tables.proofs.begin_links.Goals.{then-is_begin_kind-d, else-is_begin_kind-d}
use Rattle.std.proofs.lemmas.List.{get_or-take}
use Rattle.sets.specs.Sets.{inserted}
use Rattle.tables.specs.declared.Dependency.{Dependency}
use lib.ListN.{take, length-take}

zeros : (d : ℕ) → ◌≡◌ {A = ℕ} (get_or (replicate most_transactions 0) d 0) 0
zeros d =
    lt-or d most_transactions (λ l. get_or-replicate most_transactions d 0 0 l)
    (λ l. get_or-eq_default (replicate most_transactions 0) 0 {n = d} (omega (arith, length-replicate {A = ℕ} most_transactions 0)))

-- after a turn
abbrev Kept : Tables → ℕ → List ℕ → Type 0
Kept tables i links = (length links ≡ most_transactions) × Holds links (linked_by tables (i + 1))

pub loop-x-init : goal.loop-x-init
loop-x-init c = (c.dependency_count-n.ensures, refl, links-none c.args.tables (replicate most_transactions 0) zeros)

pub loop-x-preserved : goal.loop-x-preserved
loop-x-preserved c =
    let l = c.loop-x in
    let tables = c.args.tables in
    let i = l.x-index in
    let seen = get_or (take c.dependency_count-n.result tables.dependencies) i no_dependency in
    let x = dependency_at tables i in
    let low : i < c.dependency_count-n.result = omega (arith, length-take c.dependency_count-n.result tables.dependencies) in
    let is : seen ≡ x = get_or-take c.dependency_count-n.result tables.dependencies i no_dependency low in
    let told : (c.is_begin_kind.result && ltb seen.dependent most_transactions) ≡ (is_begin_kind x.kind && ltb x.dependent most_transactions) =
    ap (λ (b : Bool). b && ltb seen.dependent most_transactions) c.is_begin_kind.ensures
    ∙ ap (λ (y : Dependency). is_begin_kind y.kind && ltb y.dependent most_transactions) is in
    let both : Kept tables i c.if-is_begin_kind-d.links =
    elim c.if-is_begin_kind-d.branch [
      | then-is_begin_kind-d w ↦
          subst⁻¹ (Kept tables i)
          (w.links-is ∙ ap (set l.links seen.dependent) w.with_member.ensures
          ∙ ap (λ (y : Dependency). set l.links y.dependent (inserted (get_or l.links y.dependent 0) y.base)) is)
          (length-set l.links x.dependent _ ∙ l.invariant.1, links-in tables i l.links l.invariant.2 l.invariant.1 (sym told ∙ w.if-is_begin_kind-d.true))
      | else-is_begin_kind-d w ↦
          subst⁻¹ (Kept tables i) w.links-is (l.invariant.1, links-out tables i l.links l.invariant.2 (sym told ∙ w.if-is_begin_kind-d.false))
    ] in
    (l.invariant.0, both.0, both.1)

pub returns : goal.returns
returns c = links-all c.args.tables c.loop-x.links c.loop-x.x-index (omega arith) c.loop-x.invariant.2
