use Rattle.std.proofs.Common.{length, map, ◌+◌, ◌≡◌}
use Rattle.dialects_int.specs.Folds.{known_of}
use Rattle.user_patterns_check.specs.Outcomes.{run}
use Rattle.user_patterns_apply.specs.Mismatches.{steps_tests}
use Rattle.user_patterns_apply.proofs.plan.run_steps.Given as goal

abbrev pub invariant-steps : goal.invariant-steps
invariant-steps l = record {
  ran : run l.rest (map known_of l.env.items) ≡ run l.fn.steps (map known_of l.fn.env.items);
  tests : steps_tests l.index l.rest (map known_of l.env.items) ≡ steps_tests 0 l.fn.steps (map known_of l.fn.env.items);
  counted : l.index + length l.rest ≡ length l.fn.steps;
}

abbrev pub decreases-steps : goal.decreases-steps
decreases-steps l = length l.rest
