-- The numbers are those of the documents.
use mathlib.Core.Path.{refl}
use Rattle.terms.specs.Promises.{Documented}
use Rattle.terms.proofs.RefusalLaws.{number-names}

pub documented : Documented
documented = record { refusals = refl; named = number-names; limits = refl }
