use Rattle.patterns_refinement.proofs.PlainLists.{canon_lists_refine}
use Rattle.patterns_refinement.proofs.proved.lists_with_canon_refine.Goals as goal

pub returns : goal.returns
returns c =
    canon_lists_refine c.no_edit_is_refused.ensures c.pattern_edits_are_accepted.ensures c.listed_rules_keep_what_is_computed.ensures c.polynomials_keep.ensures c.only_listed_rules_apply.ensures.applies
