use Rattle.patterns_refinement.proofs.RunsRefined.{apply_refines, canon_refines, rewrite_refines}
use Rattle.patterns_refinement.proofs.Refining.{kept_is_refined}
use Rattle.patterns_refinement.proofs.refined.observed_operations_are_refined.Goals as goal

pub returns-clause-apply : goal.returns-clause-apply
returns-clause-apply c = apply_refines c.listed_rules_and_patterns_keep_what_is_computed.ensures

pub returns-clause-rewrite : goal.returns-clause-rewrite
returns-clause-rewrite c = rewrite_refines c.listed_rules_and_patterns_keep_what_is_computed.ensures

pub returns-clause-canon : goal.returns-clause-canon
returns-clause-canon c = canon_refines c.canonicalization_keeps_what_is_computed.ensures

pub returns-clause-kept : goal.returns-clause-kept
returns-clause-kept c = kept_is_refined
