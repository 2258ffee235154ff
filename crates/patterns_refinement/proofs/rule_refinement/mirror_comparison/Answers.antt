use Rattle.patterns_refinement.proofs.Mirroring.{mirror_comparison_computing, mirror_comparison_ready}
use Rattle.patterns_refinement.proofs.rule_refinement.mirror_comparison.Goals as goal

pub returns-clause-ready : goal.returns-clause-ready
returns-clause-ready c = mirror_comparison_ready c.no_edit_is_refused.ensures

pub returns-clause-computing : goal.returns-clause-computing
returns-clause-computing c = mirror_comparison_computing c.no_edit_is_refused.ensures
