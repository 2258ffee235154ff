use Rattle.patterns_refinement.proofs.Canonical.{canonicalization_keeps}
use Rattle.patterns_refinement.proofs.rule_refinement.canonicalization_keeps_what_is_computed.Goals as goal

pub returns : goal.returns
returns c = canonicalization_keeps c.no_edit_is_refused.ensures c.only_listed_rules_apply.ensures.applies c.rewriting_by_its_rules_is_canonicalization.ensures
