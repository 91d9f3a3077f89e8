use Prim.Native.Nat.{ℕ}
use mathlib.Core.Path.{◌≡◌, ap, ◌∙◌}
use Rattle.laws.specs.Index.{count_below, first_below}
use Rattle.terms.specs.Limits.{most_transactions}
use Rattle.sets.specs.Sets.{mem}
use Rattle.report.specs.Report.{active_in, active_set, report_of}
use Rattle.sets.proofs.SetLaws.{count-members, first_member}
use Rattle.report.proofs.report_of.Goals as goal

pub returns : goal.returns
unfolding report_of active_set
returns c =
    let ts = c.args.state.transactions in
    let set = c.active_set-set in
    let many : c.how_many-many.result ≡ count_below most_transactions (active_in ts) =
    c.how_many-many.ensures ∙ ap (λ (x : ℕ). count_below most_transactions (mem x)) set.ensures ∙ count-members (active_in ts)
    in
    let low : c.lowest-low.result ≡ first_below most_transactions (active_in ts) =
    c.lowest-low.ensures ∙ ap (λ (x : ℕ). first_below most_transactions (mem x)) set.ensures ∙ first_member (active_in ts)
    in
    λ i. record { active = many i; lowest = low i; before = c.standing.ensures i }
