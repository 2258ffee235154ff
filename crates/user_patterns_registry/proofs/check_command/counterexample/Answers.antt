use Rattle.std.proofs.Common.{◌≡◌, ◌∙◌, ap}
use Rattle.user_patterns_check.specs.Contents.{content}
use Rattle.user_patterns_data.specs.Fitting.{content_at}
use Rattle.user_patterns_data.specs.Shapes.{pattern_model}
use Rattle.user_patterns_registry.specs.Shown.{new_shown, old_shown, values_shown}
use Rattle.user_patterns_registry.proofs.Telling.{alike}
use Rattle.user_patterns_registry.proofs.check_command.counterexample.Goals as goal

pub returns-clause-shown : goal.returns-clause-shown
returns-clause-shown c =
    let p = pattern_model c.args.pattern.now in
    let s = content c.in_ok-sides.sides in
    let t = content_at p c.args.widths.items in
    let at : s ≡ t = c.in_ok-sides.ensures ∙ ap (content_at p) c.deref.ensures.value in
    let vs = c.args.values.items in
    record {
      values = c.in_ok-shown.ensures ∙ alike values_shown s t c.deref-2.result.now vs at c.deref-2.ensures.value;
      old = c.in_ok-old.ensures ∙ alike old_shown s t c.deref-3.result.now vs at c.deref-3.ensures.value;
      new = c.in_ok-new.ensures ∙ alike new_shown s t c.deref-4.result.now vs at c.deref-4.ensures.value;
    }
