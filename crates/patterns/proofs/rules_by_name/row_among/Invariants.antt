use Rattle.std.proofs.Common.{◌≡◌, ◌++◌, length}
use Rattle.std.specs.List.{filter, list_any}
use Rattle.patterns_soundness.specs.base.RuleNames.{same_rule}
use Rattle.patterns.proofs.rules_by_name.row_among.Given as goal

abbrev pub invariant-rules : goal.invariant-rules
invariant-rules l =
    l.row.items ++ filter (λ r. list_any (same_rule r) l.fn.listed) l.rest
    ≡ filter (λ r. list_any (same_rule r) l.fn.listed) l.fn.rules

abbrev pub decreases-rules : goal.decreases-rules
decreases-rules l = length l.rest
