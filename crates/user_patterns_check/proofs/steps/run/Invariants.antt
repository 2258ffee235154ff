use Rattle.std.proofs.Common.{◌≡◌, length, map}
use Rattle.dialects_int.specs.Folds.{known_of}
use Rattle.user_patterns_check.specs.Outcomes.{run}
use Rattle.user_patterns_check.proofs.steps.run.Given as goal

abbrev pub invariant-steps : goal.invariant-steps
invariant-steps l = run l.rest (map known_of l.env.items) ≡ run l.fn.steps (map known_of l.fn.env.items)

abbrev pub decreases-steps : goal.decreases-steps
decreases-steps l = length l.rest
