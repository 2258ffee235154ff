use Rattle.user_patterns_data.specs.Shapes.{pattern_model}
use Rattle.user_patterns_registry.proofs.Telling.{sampled_reported, samples_reported}
use Rattle.user_patterns_registry.proofs.check_command.held_by_samples.Goals as goal

pub returns-in-Ok-Some-clause-ok : goal.returns-in-Ok-Some-clause-ok
returns-in-Ok-Some-clause-ok c = sampled_reported (pattern_model c.args.pattern.now) c.args.requested c.args.most c.requires.most _ c.requires.none c.requires.holds (rw c.in-Ok-Some.field-0-is at c.in-Ok-Some.ensures)

pub returns-in-Ok-None-clause-ok : goal.returns-in-Ok-None-clause-ok
returns-in-Ok-None-clause-ok c = samples_reported (pattern_model c.args.pattern.now) c.args.requested c.args.most c.requires.most _ c.requires.none c.report_width.ensures c.requires.holds c.requires.form (rw c.in-Ok-None.field-0-is at c.in-Ok-None.ensures)
