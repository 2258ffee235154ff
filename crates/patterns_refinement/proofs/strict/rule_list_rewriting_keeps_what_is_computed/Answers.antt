use Rattle.patterns_refinement.proofs.RuleListRunning.{rule_list_rewriting_keeps}
use Rattle.patterns_refinement.proofs.strict.rule_list_rewriting_keeps_what_is_computed.Goals as goal

pub returns : goal.returns
returns c = rule_list_rewriting_keeps
