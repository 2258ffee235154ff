use Rattle.std.proofs.Common.{◌≡◌, length}
use Rattle.std.specs.List.{list_any}
use Rattle.patterns_soundness.specs.base.RuleNames.{same_rule}
use Rattle.patterns.proofs.rules_by_name.is_among.Given as goal

abbrev pub invariant-listed : goal.invariant-listed
invariant-listed l = list_any (same_rule l.fn.rule) l.fn.listed ≡ list_any (same_rule l.fn.rule) l.rest

abbrev pub decreases-listed : goal.decreases-listed
decreases-listed l = length l.rest
