use Rattle.user_patterns_claims.proofs.letters.+bit_at.Given as goal

abbrev pub decreases-bit_at : goal.decreases-bit_at
decreases-bit_at l = l.place
