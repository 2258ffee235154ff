use Rattle.std.proofs.Common.{◌≡◌, length}
use Rattle.ir_event.specs.Modules.{module_in}
use Rattle.patterns.specs.FirstMatching.{first_matching_rule}
use Rattle.patterns.specs.HighestPriority.{greedy}
use Rattle.patterns.proofs.prefilter.likely.Given as goal

abbrev pub invariant-rules : goal.invariant-rules
invariant-rules l = first_matching_rule (greedy l.fn.rules) (module_in l.fn.world) l.fn.op ≡ first_matching_rule (greedy l.rest) (module_in l.fn.world) l.fn.op

abbrev pub decreases-rules : goal.decreases-rules
decreases-rules l = length l.rest
