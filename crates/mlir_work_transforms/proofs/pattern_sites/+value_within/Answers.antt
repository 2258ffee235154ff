use Rattle.std.proofs.Common.{◌∙◌, ap, slice_get, sym, arith}
use Rattle.ir_event.specs.Modules.{module_in}
use Rattle.user_patterns_data.specs.Shapes.{pattern_model}
use Rattle.mlir_work_transforms.specs.WhyPattern.{operands_at}
use Rattle.mlir_work_transforms.proofs.PatternPaths.{value_at_root, value_ends, value_goes, value_lost}
use Rattle.mlir_work_transforms.proofs.pattern_sites.+value_within.Goals as goal

pub returns-then-levels-eq0 : goal.returns-then-levels-eq0
returns-then-levels-eq0 t c = value_ends (pattern_model c.args.at.now.pattern.now) (module_in c.args.at.now.world.now).tree c.args.at.now.op c.args.levels c.args.place c.if-levels-eq0.true

pub returns-then-place-at : goal.returns-then-place-at
returns-then-place-at t c = value_at_root (pattern_model c.args.at.now.pattern.now) (module_in c.args.at.now.world.now).tree c.args.at.now.op c.args.levels c.args.place (omega (arith, c.if-levels-eq0.false)) c.if-place-at.true

pub returns-in_default : goal.returns-in_default
returns-in_default t c = value_lost (pattern_model c.args.at.now.pattern.now) (module_in c.args.at.now.world.now).tree c.args.at.now.op c.args.levels c.args.place (omega (arith, c.if-levels-eq0.false)) c.if-place-at.false c.in_default.ensures

pub returns : goal.returns
returns t c =
    let t = (module_in c.args.at.now.world.now).tree in
    let goes = value_goes (pattern_model c.args.at.now.pattern.now) t c.args.at.now.op c.args.levels c.args.place c.in-Some.parent c.in-Some.index (omega (arith, c.if-levels-eq0.false)) c.if-place-at.false c.in-Some.ensures in
    c.operand_of.ensures ∙ ap (λ v. slice_get (operands_at t v) c.in-Some.index) c.value_within-above.ensures ∙ sym goes
