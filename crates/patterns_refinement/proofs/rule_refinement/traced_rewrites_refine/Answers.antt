use Rattle.patterns_refinement.proofs.TracedRuns.{traced_canonicalization_keeps, traced_rewriting_keeps}
use Rattle.patterns_refinement.proofs.rule_refinement.traced_rewrites_refine.Goals as goal

pub returns-clause-rewriting : goal.returns-clause-rewriting
returns-clause-rewriting c = traced_rewriting_keeps

pub returns-clause-canonicalization : goal.returns-clause-canonicalization
returns-clause-canonicalization c = traced_canonicalization_keeps c.no_edit_is_refused.ensures c.rewriting_by_its_rules_is_canonicalization.ensures
