use Rattle.user_patterns_claims.proofs.decide.+decide_sets.Given as goal

abbrev pub decreases-decide_sets : goal.decreases-decide_sets
decreases-decide_sets l = l.count
