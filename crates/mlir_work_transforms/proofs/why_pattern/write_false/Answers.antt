use Rattle.std.proofs.Common.{◌≡◌, ◌∙◌, ap, List, ◌++◌, Option, subst, ◌+◌}
use Rattle.std.specs.Prelude.{OnOk}
use Rattle.ir_event.specs.types.declared.bits.Bits.{Bits}
use Rattle.user_patterns_data.specs.Planning.{extra_place}
use Rattle.user_patterns_data.specs.Shapes.{pattern_model}
use Rattle.mlir_work_transforms.specs.WhyPattern.{Number, computed_at, condition_text, numbers_view}
use Rattle.mlir_work_transforms.proofs.why_pattern.write_false.Goals as goal

pub returns : goal.returns
returns c =
    let p = pattern_model c.args.at.now.pattern.now in
    let e = ap (λ (bs : List (Option Bits)). numbers_view bs) c.deref.ensures.value ∙ c.in_ok-numbers.ensures in
    subst (λ (env : List Number). OnOk c.write_condition_at.result (c.write_condition_at.new.text.items ≡ c.args.text.now.items ++ condition_text p env (computed_at p (extra_place p + c.args.index)))) e c.write_condition_at.ensures
