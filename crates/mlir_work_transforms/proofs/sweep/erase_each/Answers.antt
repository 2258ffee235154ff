use Rattle.std.proofs.Common.{◌∙◌}
use Rattle.conversion.proofs.of_rewriter.Together.{led_on}
use Rattle.mlir_work_transforms.proofs.Sweeping.{erasing_more, erasing_none, erasing_noted, erasing_refused}
use Rattle.mlir_work_transforms.proofs.sweep.erase_each.Goals as goal

pub returns-in-Err-clause-erases : goal.returns-in-Err-clause-erases
returns-in-Err-clause-erases g c =
    erasing_refused g.L.Analysis.meaning c.args.ops.now.items c.ops.ops.items c.pop.new.self.items c.in-Some.op c.in-Err.refusal c.args.bench.now c.ops.bench c.erase.new.self c.ops.invariant c.in-Some.ensures.items c.in-Err.ensures.does c.erase.ensures.ctx

pub returns-in-Err-clause-led : goal.returns-in-Err-clause-led
returns-in-Err-clause-led g c =
    let h = c.ops.invariant in
    led_on g.L.Analysis.meaning c.led_benches_are_kept.ensures.more c.args.bench.now c.ops.bench c.erase.new.self c.is_wellformed.ensures.context.holds h.ctx (c.erase.ensures.ctx ∙ h.ctx) h.led c.erase.ensures.led

pub ops-preserved : goal.ops-preserved
ops-preserved g c =
    erasing_more g.L.Analysis.meaning c.led_benches_are_kept.ensures.more c.args.ops.now.items c.ops.ops.items c.pop.new.self.items c.in-Some.op c.args.bench.now c.ops.bench c.erase.new.self c.is_wellformed.ensures.context.holds c.ops.invariant c.in-Some.ensures.items c.in_default-erase.ensures.does c.erase.ensures.led c.erase.ensures.ctx c.in_default-erase.ensures.journal

pub returns-in-Err-clause-noted : goal.returns-in-Err-clause-noted
returns-in-Err-clause-noted g c =
    erasing_noted g.L.Analysis.meaning c.args.ops.now.items c.ops.ops.items c.args.bench.now c.ops.bench c.erase.new.self c.ops.invariant c.in-Err.ensures.journal

pub ops-init : goal.ops-init
ops-init g c = erasing_none g.L.Analysis.meaning c.led_benches_are_kept.ensures.none c.args.ops.now.items c.args.bench.now
