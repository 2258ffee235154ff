use Rattle.std.proofs.Common.{◌-◌, append_assoc, arith}
use Rattle.user_patterns_data.specs.Shapes.{pattern_model}
use Rattle.mlir_work_transforms.specs.WhyPattern.{operand_text, path_text}
use Rattle.mlir_work_transforms.proofs.PatternPaths.{path_at_root, path_ends, path_goes, path_lost}
use Rattle.mlir_work_transforms.proofs.pattern_sites.+write_path_within.Goals as goal

pub returns-then-levels-eq0 : goal.returns-then-levels-eq0
returns-then-levels-eq0 t c = path_ends (pattern_model c.args.pattern.now) _ c.args.levels c.args.place c.if-levels-eq0.true

pub returns-then-place-pattern : goal.returns-then-place-pattern
returns-then-place-pattern t c = path_at_root (pattern_model c.args.pattern.now) _ c.args.levels c.args.place (omega (arith, c.if-levels-eq0.false)) c.if-place-pattern.true

pub returns-in_default : goal.returns-in_default
returns-in_default t c = path_lost (pattern_model c.args.pattern.now) _ c.args.levels c.args.place (omega (arith, c.if-levels-eq0.false)) c.if-place-pattern.false c.in_default.ensures

pub returns : goal.returns
returns t c =
    let p = pattern_model c.args.pattern.now in
    let goes = path_goes p c.args.levels c.args.place c.in-Some.parent c.in-Some.index (omega (arith, c.if-levels-eq0.false)) c.if-place-pattern.false c.in-Some.ensures in
    rw (goes, ← append_assoc c.args.text.now.items (path_text p (c.args.levels - 1) c.in-Some.parent) (operand_text c.in-Some.index), ← c.in_ok-write_path_within.ensures) c.write_operand.ensures
