use Rattle.std.proofs.Common.{◌≡◌, length}
use Rattle.std.specs.List.{list_all}
use Rattle.patterns_base.specs.RuleNames.{is_converting}
use Rattle.conversion_base.proofs.target_checks.are_converting.Given as goal

abbrev pub invariant-rules : goal.invariant-rules
invariant-rules l = list_all is_converting l.rest ≡ list_all is_converting l.fn.rules

abbrev pub decreases-rules : goal.decreases-rules
decreases-rules l = length l.rest
