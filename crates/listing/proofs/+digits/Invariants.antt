use Rattle.listing.proofs.+digits.Given as goal

-- two digits are taken away
abbrev pub decreases-digits : goal.decreases-digits
decreases-digits l = l.n
