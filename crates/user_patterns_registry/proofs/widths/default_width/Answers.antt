use Rattle.std.proofs.Common.{◌∙◌, sym}
use Rattle.user_patterns_data.specs.Shapes.{pattern_model}
use Rattle.user_patterns_registry.proofs.Widest.{widest_no, widest_yes}
use Rattle.user_patterns_registry.proofs.widths.default_width.Goals as goal

pub returns-then-branch : goal.returns-then-branch
returns-then-branch c =
    sym (widest_yes (pattern_model c.args.pattern.now) c.widths.width c.widths-test.true (sym c.in_ok-is_small.ensures ∙ c.if-branch.true)) ∙ c.widths.invariant

pub widths-preserved : goal.widths-preserved
widths-preserved c =
    sym (widest_no (pattern_model c.args.pattern.now) c.widths.width c.widths-test.true (sym c.in_ok-is_small.ensures ∙ c.if-branch.false)) ∙ c.widths.invariant
