-- Events and their marks (docs/RULES.md, 1 The book).
use Rattle.std.specs.Prelude.{Bool, true, false}
use Rattle.terms.specs.declared.Mark.{Mark}
use Rattle.terms.specs.declared.Mark.TheVariants.{Read, Write}

abbrev pub is_write : Mark → Bool
is_write Read = false
is_write Write = true
