use Rattle.std.proofs.Common.{◌∙◌, ap, subst, sym}
use Rattle.user_patterns_check.specs.declared.verdict.Verdict.TheVariants as verdict
use Rattle.user_patterns_data.specs.Fitting.{content_at}
use Rattle.user_patterns_data.specs.Shapes.{pattern_model}
use Rattle.user_patterns_registry.specs.Shown.{IsShown, counterexample_width}
use Rattle.user_patterns_registry.proofs.Telling.{fails_reported}
use Rattle.user_patterns_registry.proofs.check_command.check_result.Goals as goal

pub returns-in-Ok-clause-ok : goal.returns-in-Ok-clause-ok
returns-in-Ok-clause-ok c =
    let p = pattern_model c.args.pattern.now in
    let found = c.in-Ok.found in
    let widths = sym c.in-Ok.ensures.widths in
    let values = sym c.in-Ok.ensures.values in
    fails_reported p c.args.requested c.args.most c.requires.most c.args.verdict found (c.in-Fails.is ∙ (λ i. verdict.Fails (widths i) (values i)))
    c.requires.verdict c.requires.first
    (c.in-Ok.ensures.width ∙ ap (λ us. counterexample_width p us.items) widths)
    (subst (λ us. IsShown (content_at p us.items) found) widths c.in-Ok.ensures.shown)
