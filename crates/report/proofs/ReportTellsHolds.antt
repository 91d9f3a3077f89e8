-- The report tells who stands before whom.
use Prim.Native.Nat.{ℕ, ◌<◌}
use native.Mathlib.Omega.{arith}
use mathlib.Core.Path.{◌≡◌, refl, ap, ◌∙◌}
use mathlib.Core.Bool.{◌&&◌}
use lib.Dec.{ltb}
use lib.ListN.{get_or}
use borrow.Author.Tests.{lt-ltb, le-ltb}
use Rattle.laws.proofs.IndexLaws.{get_d_tabulate, length-tabulate}
use Rattle.terms.specs.Limits.{most_transactions}
use Rattle.sets.specs.Sets.{mem}
use Rattle.sets.proofs.SetLaws.{mem-set-of}
use Rattle.ties.specs.Ties.{before}
use Rattle.rules.specs.declared.State.{State}
use Rattle.report.specs.Promises.{ReportTells}
use Rattle.report.specs.Report.{report_of, stands_before}

row_of : (s : State) (a b : ℕ) → a < most_transactions → mem (get_or (report_of s).before a 0) b ≡ (ltb b most_transactions && before s.ops a b)
unfolding report_of
row_of s a b h = ap (λ (x : ℕ). mem x b) (get_d_tabulate most_transactions (stands_before s.ops) a 0 h) ∙ mem-set-of most_transactions (before s.ops a) b (omega arith)

pub report-tells : ReportTells
unfolding report_of
report-tells s =
    record {
      rows = length-tabulate most_transactions (stands_before s.ops);
      pairs = λ a b h k. row_of s a b h ∙ rw (lt-ltb b most_transactions k) refl;
      none_past = λ a b h k. row_of s a b h ∙ rw (le-ltb b most_transactions k) refl;
    }
