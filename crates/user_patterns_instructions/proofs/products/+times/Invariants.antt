use Rattle.user_patterns_instructions.proofs.products.+times.Given as goal

abbrev pub decreases-times : goal.decreases-times
decreases-times l = l.most
