use Rattle.user_patterns_sema.proofs.conditions.+types.Given as goal

abbrev pub decreases-types : goal.decreases-types
decreases-types l = l.headroom
