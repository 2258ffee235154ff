use Rattle.user_patterns_data.specs.Shapes.{pattern_model}
use Rattle.user_patterns_registry.proofs.Telling.{claims_reported, never_reported, wrong_holds}
use Rattle.user_patterns_registry.proofs.check_command.held_by_claims.Goals as goal

pub returns-in-Ok-Empty-clause-ok : goal.returns-in-Ok-Empty-clause-ok
returns-in-Ok-Empty-clause-ok c = never_reported (pattern_model c.args.pattern.now) c.args.requested c.args.most c.requires.most _ c.requires.none c.report_width.ensures c.requires.holds (rw c.in-Ok-Empty.field-0-is at c.in-Ok-Empty.ensures)

pub returns-in-Ok-Right-clause-ok : goal.returns-in-Ok-Right-clause-ok
returns-in-Ok-Right-clause-ok c = claims_reported (pattern_model c.args.pattern.now) c.args.requested c.args.most c.requires.most c.outcomes_decide.ensures c.requires.none c.requires.holds (rw c.in-Ok-Right.field-0-is at c.in-Ok-Right.ensures).0

pub returns-in-Ok-Wrong-clause-ok : goal.returns-in-Ok-Wrong-clause-ok
returns-in-Ok-Wrong-clause-ok c = wrong_holds (pattern_model c.args.pattern.now) c.args.requested c.args.most c.requires.most c.in-Ok-Wrong.found _ c.requires.none c.requires.holds (rw c.in-Ok-Wrong.field-0-is at c.in-Ok-Wrong.ensures) c.refuted.ensures
