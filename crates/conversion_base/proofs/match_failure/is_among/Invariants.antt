use Rattle.std.proofs.Common.{◌≡◌, length}
use Rattle.std.specs.List.{list_any}
use Rattle.patterns_base.specs.RuleNames.{same_rule}
use Rattle.conversion_base.proofs.match_failure.is_among.Given as goal

abbrev pub invariant-rules : goal.invariant-rules
invariant-rules l = list_any (same_rule l.rule) l.rest ≡ list_any (same_rule l.rule) l.fn.rules

abbrev pub decreases-rules : goal.decreases-rules
decreases-rules l = length l.rest
