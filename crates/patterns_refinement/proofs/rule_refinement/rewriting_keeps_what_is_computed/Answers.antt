use Rattle.patterns_refinement.proofs.Listed.{rewriting_keeps}
use Rattle.patterns_refinement.proofs.rule_refinement.rewriting_keeps_what_is_computed.Goals as goal

pub returns : goal.returns
returns c = rewriting_keeps
