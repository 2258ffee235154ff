use Rattle.patterns_refinement.proofs.AllKept.{all_kept}
use Rattle.patterns_refinement.proofs.rule_refinement.listed_rules_keep_what_is_computed.Goals as goal

pub returns : goal.returns
returns c = all_kept c.no_edit_is_refused.ensures
