use Rattle.std.proofs.Common.{refl}
use Rattle.patterns_base.specs.RuleNames.{all_rules}
use Rattle.patterns_base.proofs.rule.all_rules.Goals as goal

pub returns : goal.returns
unfolding all_rules
returns c = refl
