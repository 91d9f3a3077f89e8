use Prim.Native.Nat.{ℕ}
use mathlib.Core.List.{List}
use mathlib.Core.Path.{sym, ap, ◌∙◌}
use Rattle.cells.specs.Cells.{ops_in}
use Rattle.rules.specs.Lent.{transactions_in}
use Rattle.rules.specs.States.{Parent}
use Rattle.tables.specs.declared.Tables.{Tables}
use Rattle.judge.specs.Judge.{commit_lines_under, commit_under, ruled_by, ruling_of}
use Rattle.judge.specs.declared.Ruling.{Ruling}
use Rattle.judge.proofs.Seen.commit.Goals as goal

-- what a commit comes to, by whose helper it is
abbrev under : List ℕ → List ℕ → ℕ → ℕ → Tables → Parent → Ruling
under ts ops n t tables p = ruled_by (commit_lines_under tables (transactions_in ts) (ops_in ops n) t p) (commit_under t p)

pub returns-in-None : goal.returns-in-None
unfolding ruling_of
returns-in-None c tables h k =
    c.commit_own.ensures tables h k ∙ ap (under c.args.self.transactions.now c.args.self.ops.now c.args.self.count c.args.t tables) (sym (sym (c.clerk_of.ensures tables h) ∙ c.in-None.is))

pub returns-in-Some : goal.returns-in-Some
unfolding ruling_of
returns-in-Some c tables h k =
    c.hand_over.ensures tables h ∙ ap (under c.args.self.transactions.now c.args.self.ops.now c.args.self.count c.args.t tables) (sym (sym (c.clerk_of.ensures tables h) ∙ c.in-Some.is))
