use Rattle.patterns_refinement.proofs.TrueNotes.{noted_apply_refines, noted_canon_lists_refine, noted_rewrite_refines}
use Rattle.patterns_refinement.proofs.noted.noted_patterns_refine.Goals as goal

pub returns-clause-apply : goal.returns-clause-apply
returns-clause-apply c = noted_apply_refines c.noted_patterns_are_proved.ensures.proved c.proved_patterns_refine.ensures.apply

pub returns-clause-rewrite : goal.returns-clause-rewrite
returns-clause-rewrite c = noted_rewrite_refines c.noted_patterns_are_proved.ensures.proved c.proved_patterns_refine.ensures.rewrite

pub returns-clause-canon : goal.returns-clause-canon
returns-clause-canon c = noted_canon_lists_refine c.noted_patterns_are_proved.ensures.proved c.lists_with_canon_refine.ensures
