use Rattle.patterns_refinement.proofs.Extending.{extend_extension_computing, extend_extension_ready}
use Rattle.patterns_refinement.proofs.rule_refinement.extend_extension.Goals as goal

pub returns-clause-ready : goal.returns-clause-ready
returns-clause-ready c = extend_extension_ready c.no_edit_is_refused.ensures

pub returns-clause-computing : goal.returns-clause-computing
returns-clause-computing c = extend_extension_computing c.no_edit_is_refused.ensures
