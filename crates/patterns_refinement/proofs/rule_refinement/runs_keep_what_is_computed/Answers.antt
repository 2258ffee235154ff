use Rattle.patterns_refinement.proofs.Running.{runs_keep}
use Rattle.patterns_refinement.proofs.rule_refinement.runs_keep_what_is_computed.Goals as goal

pub returns : goal.returns
returns c = runs_keep
