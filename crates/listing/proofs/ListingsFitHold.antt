-- A room of the promised size holds every listing.
use mathlib.Core.Path.{refl}
use mathlib.Core.List.{[]}
use Rattle.listing.specs.Promises.{ListingsFit}
use Rattle.listing.proofs.SizeLaws.{listing-short, none-short, nos-of-book}

pub listings-fit : ListingsFit
listings-fit circles ed s =
    record { read_on = listing-short _ _ (nos-of-book circles ed s); to_first_refusal = listing-short _ [] (none-short refl) }
