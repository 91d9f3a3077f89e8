-- What is promised of the report, in words.
use Rattle.std.specs.Prelude.{ℕ, ◌≤◌, ◌<◌, ◌≡◌, false, get_or, length}
use Rattle.terms.specs.Limits.{most_transactions}
use Rattle.sets.specs.Sets.{mem}
use Rattle.ties.specs.Ties.{before}
use Rattle.rules.specs.declared.State.{State}
use Rattle.report.specs.Report.{report_of}

pub record Reported (s : State) : Type 0 where
  -- a row for each transaction
  pub rows : length (report_of s).before ≡ most_transactions
  -- "for every ordered pair of transactions, whether the first stands before the second by one tie": b is in the row of a exactly when a stands before b
  pub pairs : (a b : ℕ) → a < most_transactions → b < most_transactions → mem (get_or (report_of s).before a 0) b ≡ before s.ops a b
  -- and no row has a number that is no transaction's
  pub none_past : (a b : ℕ) → a < most_transactions → most_transactions ≤ b → mem (get_or (report_of s).before a 0) b ≡ false

abbrev pub ReportTells : Type 0
ReportTells = (s : State) → Reported s
