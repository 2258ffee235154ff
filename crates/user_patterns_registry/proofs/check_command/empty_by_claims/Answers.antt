use Rattle.user_patterns_data.specs.Shapes.{pattern_model}
use Rattle.user_patterns_registry.proofs.Telling.{right_reported, wrong_empty}
use Rattle.user_patterns_registry.proofs.check_command.empty_by_claims.Goals as goal

pub returns-in-Ok-Right-clause-ok : goal.returns-in-Ok-Right-clause-ok
returns-in-Ok-Right-clause-ok c =
    right_reported (pattern_model c.args.pattern.now) c.args.requested c.args.most c.requires.most c.outcomes_decide.ensures c.requires.none c.requires.empty c.in-Ok-Right.somewhere (rw c.in-Ok-Right.field-0-is at c.in-Ok-Right.ensures) _ c.right_if.ensures

pub returns-in-Ok-Wrong-clause-ok : goal.returns-in-Ok-Wrong-clause-ok
returns-in-Ok-Wrong-clause-ok c = wrong_empty (pattern_model c.args.pattern.now) c.args.requested c.args.most c.requires.most c.in-Ok-Wrong.found _ c.requires.none c.requires.empty (rw c.in-Ok-Wrong.field-0-is at c.in-Ok-Wrong.ensures) c.refuted.ensures
