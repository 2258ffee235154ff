use Rattle.patterns_refinement.proofs.InRange.{proved_apply_refines, proved_rewrite_refines}
use Rattle.patterns_refinement.proofs.proved.proved_patterns_refine.Goals as goal

pub returns-clause-apply : goal.returns-clause-apply
returns-clause-apply c =
    proved_apply_refines c.no_edit_is_refused.ensures c.pattern_edits_are_accepted.ensures c.listed_rules_keep_what_is_computed.ensures c.polynomials_keep.ensures

pub returns-clause-rewrite : goal.returns-clause-rewrite
returns-clause-rewrite c =
    proved_rewrite_refines c.no_edit_is_refused.ensures c.pattern_edits_are_accepted.ensures c.listed_rules_keep_what_is_computed.ensures c.polynomials_keep.ensures
