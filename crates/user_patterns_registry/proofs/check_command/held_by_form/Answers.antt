use Rattle.user_patterns_data.specs.Shapes.{pattern_model}
use Rattle.user_patterns_registry.proofs.Telling.{requested_result}
use Rattle.user_patterns_registry.proofs.check_command.held_by_form.Goals as goal

pub returns-in-Some-clause-ok : goal.returns-in-Some-clause-ok
returns-in-Some-clause-ok c = requested_result (pattern_model c.args.pattern.now) c.args.requested c.args.most c.requires.most c.in-Some.field-0 _ c.in-Some.is c.report_width.ensures c.requires.holds c.requires.form
