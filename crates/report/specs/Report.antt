-- The report (docs/RULES.md, 6 Closing and 3 Ties): "how many transactions are active and the lowest such number, 64 if there is none"; "for every
-- ordered pair of transactions, whether the first stands before the second by one tie".
use Rattle.std.specs.Prelude.{ℕ, Bool, List}
use Rattle.laws.specs.Index.{count_below, first_below, tabulate}
use Rattle.terms.specs.Limits.{most_transactions}
use Rattle.sets.specs.Sets.{set_of}
use Rattle.ties.specs.Ties.{before}
use Rattle.ties.specs.declared.Ops.{Ops}
use Rattle.rules.specs.States.{is_active, phase_of}
use Rattle.rules.specs.declared.State.{State}
use Rattle.rules.specs.declared.Transaction.{Transaction}
use Rattle.report.specs.declared.Report.{Report}

-- t is active
abbrev pub active_in : List Transaction → ℕ → Bool
active_in ts t = is_active (phase_of ts t)

-- the set of the active transactions
unfoldable pub active_set : List Transaction → ℕ
active_set ts = set_of most_transactions (active_in ts)

-- those before which a stands
abbrev pub stands_before : Ops → ℕ → ℕ
stands_before ops a = set_of most_transactions (before ops a)

unfoldable pub report_of : State → Report
report_of s =
    record {
      active = count_below most_transactions (active_in s.transactions);
      lowest = first_below most_transactions (active_in s.transactions);
      before = tabulate most_transactions (stands_before s.ops);
    }
