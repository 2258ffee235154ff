use Rattle.std.proofs.Common.{◌∙◌, sym}
use Rattle.user_patterns_data.specs.Shapes.{pattern_model}
use Rattle.user_patterns_registry.proofs.Telling.{form_reported}
use Rattle.user_patterns_registry.proofs.check_command.held.Goals as goal

pub returns-in-Ok-true-clause-ok : goal.returns-in-Ok-true-clause-ok
returns-in-Ok-true-clause-ok c =
    form_reported (pattern_model c.args.pattern.now) c.args.requested c.args.most c.requires.most c.check_holds_at_all_widths.ensures c.requires.some c.requires.holds
    (sym c.in-Ok-true.ensures ∙ c.in-Ok-true.field-0-test)
