use Rattle.share.proofs.+common_divisor.Given as goal

-- the second number, which falls to the remainder
abbrev pub decreases-common_divisor : goal.decreases-common_divisor
decreases-common_divisor l = l.b
