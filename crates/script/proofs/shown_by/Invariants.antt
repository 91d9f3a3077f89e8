use mathlib.Core.Path.{◌≡◌}
use Prim.Native.Nat.{◌+◌, ◌≤◌}
use lib.ListN.{drop}
use mathlib.Core.List.{[], ◌++◌}
use Rattle.listing.specs.Words.{line_feed}
use Rattle.listing.specs.Texts.{text_of, with_all}
use Rattle.script.specs.Forms.{count_of, shown}
use Rattle.script.proofs.shown_by.Given as goal

abbrev pub invariant-loop-b : goal.invariant-loop-b
invariant-loop-b l = (l.n ≤ l.b-index) × (count_of l.form ≡ l.n + count_of (drop l.b-index l.form)) × (with_all [] (shown l.form l.fields ++ line_feed) ≡ with_all (text_of l.text) (shown (drop l.b-index l.form) (drop l.n l.fields) ++ line_feed))
