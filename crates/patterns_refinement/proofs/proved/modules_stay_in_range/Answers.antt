use Rattle.patterns_refinement.proofs.InRange.{canon_stays_in_range, patterns_stay_in_range, rules_stay_in_range}
use Rattle.patterns_refinement.proofs.proved.modules_stay_in_range.Goals as goal

pub returns-clause-rules : goal.returns-clause-rules
returns-clause-rules c = rules_stay_in_range c.no_edit_is_refused.ensures

pub returns-clause-forms : goal.returns-clause-forms
returns-clause-forms c = patterns_stay_in_range c.pattern_edits_are_accepted.ensures c.polynomials_keep.ensures

pub returns-clause-canonicalization : goal.returns-clause-canonicalization
returns-clause-canonicalization c = canon_stays_in_range c.no_edit_is_refused.ensures c.only_listed_rules_apply.ensures.applies c.rewriting_by_its_rules_is_canonicalization.ensures
