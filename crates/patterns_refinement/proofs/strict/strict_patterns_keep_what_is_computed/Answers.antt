use Rattle.patterns_refinement.proofs.StrictLaws.{registered_keep, holding_keep, strict_keep}
use Rattle.patterns_refinement.proofs.strict.strict_patterns_keep_what_is_computed.Goals as goal

pub returns-clause-strict : goal.returns-clause-strict
returns-clause-strict c = strict_keep c.pattern_edits_are_accepted.ensures

pub returns-clause-holding : goal.returns-clause-holding
returns-clause-holding c = holding_keep c.pattern_edits_are_accepted.ensures c.polynomials_keep.ensures c.check_holds_at_all_widths.ensures

pub returns-clause-registered : goal.returns-clause-registered
returns-clause-registered c = registered_keep c.pattern_edits_are_accepted.ensures c.polynomials_keep.ensures c.check_holds_at_all_widths.ensures
