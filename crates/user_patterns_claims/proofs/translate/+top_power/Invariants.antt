use Rattle.user_patterns_claims.proofs.translate.+top_power.Given as goal

abbrev pub decreases-top_power : goal.decreases-top_power
decreases-top_power l = l.most
