use Rattle.std.proofs.Common.{◌≡◌, length, map}
use Rattle.dialects_int.specs.Folds.{known_of}
use Rattle.patterns_plans.specs.RuleTests.{unfolded_reason}
use Rattle.patterns_plans.proofs.constant.unfolded_reason.Given as goal

abbrev pub invariant-operands : goal.invariant-operands
invariant-operands l = unfolded_reason (map known_of l.rest) ≡ unfolded_reason (map known_of l.fn.operands)

abbrev pub decreases-operands : goal.decreases-operands
decreases-operands l = length l.rest
