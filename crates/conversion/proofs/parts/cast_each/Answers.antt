use Rattle.std.proofs.Common.{[], refl}
use Rattle.conversion_base.specs.Conversion.{cast_at}
use Rattle.conversion.proofs.Leading.{leads_more}
use Rattle.conversion.proofs.Turns.{turning_more, turning_stops}
use Rattle.conversion.proofs.parts.cast_each.Goals as goal

pub returns-in-Err-clause-ends : goal.returns-in-Err-clause-ends
returns-in-Err-clause-ends g c =
    let state = g.B.ConversionRewriter.state in
    turning_stops cast_at c.args.ops.now (state c.args.bench.now) c.ops.rest.now c.op-item.result [] (state c.ops.bench) (state c.cast_at.new.bench) c.in-Err.fault c.in-len1-up.len_at_least c.op-item.is c.ops.invariant.0 c.in-Err.ensures.ends

pub returns-in-Err-clause-leads : goal.returns-in-Err-clause-leads
returns-in-Err-clause-leads g c = leads_more g.B.ConversionRewriter.state g.B.ConversionRewriter.transaction g.B.ConversionRewriter.led g.B.ConversionRewriter.led_more c.args.bench.now c.ops.bench c.cast_at.new.bench c.ops.invariant.1 c.in-Err.ensures.leads

pub ops-preserved : goal.ops-preserved
ops-preserved g c =
    let state = g.B.ConversionRewriter.state in (
      turning_more cast_at c.args.ops.now (state c.args.bench.now) c.ops.rest.now c.op-item.result [] [] [] (state c.ops.bench) (state c.cast_at.new.bench) c.in-len1-up.len_at_least c.op-item.is c.ops.invariant.0 c.in-Ok.ensures.ends refl,
      leads_more state g.B.ConversionRewriter.transaction g.B.ConversionRewriter.led g.B.ConversionRewriter.led_more c.args.bench.now c.ops.bench c.cast_at.new.bench c.ops.invariant.1 c.in-Ok.ensures.leads,
    )
