use Rattle.patterns_refinement.proofs.RuleListRunning.{rule_list_runs_keep}
use Rattle.patterns_refinement.proofs.strict.list_runs_refine.Goals as goal

pub returns : goal.returns
returns c = rule_list_runs_keep
