use Rattle.std.proofs.Common.{◌≡◌, ◌∙◌, ap, List, ◌++◌, Option, length, rules, subst}
use Rattle.std.specs.Prelude.{OnOk}
use Rattle.ir_event.specs.types.declared.bits.Bits.{Bits}
use Rattle.ir_event.specs.Modules.{module_in}
use Rattle.user_patterns_data.specs.Shapes.{pattern_model}
use Rattle.greedy.specs.own.Numbers.{numbers_in}
use Rattle.mlir_work_transforms.specs.WhyPattern.{Number, numbers_text, numbers_view, path}
use Rattle.mlir_work_transforms.proofs.why_pattern.write_number_mismatch.Goals as goal

pub returns : goal.returns
returns c =
    let p = pattern_model c.args.at.now.pattern.now in
    let m = module_in c.args.at.now.world.now in
    let counted : c.len.result ≡ length p.extra = search rules in
    let e =
    ap (λ (bs : List (Option Bits)). numbers_view bs) c.deref.ensures.value ∙ c.in_ok-numbers.ensures
    ∙ ap (λ most. numbers_in m p c.args.at.now.op most) counted in
    subst (λ (env : List Number). OnOk c.write_placed_numbers.result (c.write_placed_numbers.new.text.items ≡ c.args.text.now.items ++ (path p c.args.place ++ numbers_text p m c.args.at.now.op env c.args.place))) e c.write_placed_numbers.ensures
