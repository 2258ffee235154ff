use Rattle.user_patterns_sema.proofs.conditions.+conditions.Given as goal

abbrev pub decreases-conditions : goal.decreases-conditions
decreases-conditions l = l.headroom
