use Rattle.patterns_refinement.proofs.RuleListRunning.{shown_are_kept}
use Rattle.patterns_refinement.proofs.strict.listed_rules_and_patterns_keep_what_is_computed.Goals as goal

pub returns : goal.returns
returns c = shown_are_kept c.listed_rules_keep_what_is_computed.ensures c.strict_patterns_keep_what_is_computed.ensures.holding
