use Rattle.patterns_refinement.proofs.Canonical.{canonicalization_narrow}
use Rattle.patterns_refinement.proofs.NarrowKept.{narrow_keep, narrow_rewriting_keeps}
use Rattle.patterns_refinement.proofs.NarrowRules.{narrow_rules_keep}
use Rattle.patterns_refinement.proofs.passing.narrow_modules_are_kept.Goals as goal

pub returns-clause-pattern : goal.returns-clause-pattern
returns-clause-pattern c = narrow_keep c.pattern_edits_are_accepted.ensures

pub returns-clause-rules : goal.returns-clause-rules
returns-clause-rules c = narrow_rules_keep c.no_edit_is_refused.ensures

pub returns-clause-rewriting : goal.returns-clause-rewriting
returns-clause-rewriting c = narrow_rewriting_keeps c.no_edit_is_refused.ensures c.listed_rules_keep_what_is_computed.ensures c.pattern_edits_are_accepted.ensures

pub returns-clause-canonicalization : goal.returns-clause-canonicalization
returns-clause-canonicalization c = canonicalization_narrow c.no_edit_is_refused.ensures c.only_listed_rules_apply.ensures.applies c.rewriting_by_its_rules_is_canonicalization.ensures
