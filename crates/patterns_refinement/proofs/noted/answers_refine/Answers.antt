use Rattle.patterns_refinement.proofs.AnswersKept.{canon_answer_refines, canon_list_answer_refines, rewrite_answer_refines}
use Rattle.patterns_refinement.proofs.noted.answers_refine.Goals as goal

pub returns-clause-rewrite : goal.returns-clause-rewrite
returns-clause-rewrite c = rewrite_answer_refines c.noted_patterns_refine.ensures.rewrite

pub returns-clause-list : goal.returns-clause-list
returns-clause-list c = canon_list_answer_refines c.noted_patterns_refine.ensures.canon

pub returns-clause-canon : goal.returns-clause-canon
returns-clause-canon c = canon_answer_refines c.canonicalization_keeps_what_is_computed.ensures c.modules_stay_in_range.ensures.canonicalization c.observed_operations_are_refined.ensures.canon
