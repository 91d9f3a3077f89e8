use native.Mathlib.Omega.{arith}
use Rattle.listing.proofs.TextLaws.{byte_fits, byte_left}
use mathlib.Core.Path.{◌≡◌}
use lib.ListN.{length}
use borrow.Author.Rules.{rules}
use Rattle.listing.proofs.Text.byte.Goals as goal

pub returns-then-at-lt-MOST : goal.returns-then-at-lt-MOST
returns-then-at-lt-MOST c = let a = c.args.self in let e : length a.bytes ≡ 104 = search rules in byte_fits a.bytes a.len c.args.b e (omega arith)

pub returns-else-at-lt-MOST : goal.returns-else-at-lt-MOST
returns-else-at-lt-MOST c = let a = c.args.self in let e : length a.bytes ≡ 104 = search rules in byte_left a.bytes a.len c.args.b e (omega arith)
