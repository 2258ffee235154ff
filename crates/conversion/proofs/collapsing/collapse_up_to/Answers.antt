use Rattle.std.proofs.Common.{arith, refl}
use Rattle.conversion.proofs.Leading.{leads_more, leads_none}
use Rattle.conversion.proofs.Turns.{collapsing_done, collapsing_ends, collapsing_more, collapsing_stops}
use Rattle.conversion.proofs.collapsing.collapse_up_to.Goals as goal

pub returns-in-Ok-false-clause-ends : goal.returns-in-Ok-false-clause-ends
returns-in-Ok-false-clause-ends g c =
    let state = g.B.ConversionRewriter.state in
    collapsing_ends c.args.most (state c.args.bench.now) c.casts.left (state c.casts.bench) (state c.collapse_next.new.bench) c.in-Ok-false.field-0 (omega (arith, c.casts-test.true)) c.casts.invariant.0 c.in-Ok-false.ensures.answers c.in-Ok-false.field-0-test

pub returns-in-Ok-false-clause-leads : goal.returns-in-Ok-false-clause-leads
returns-in-Ok-false-clause-leads g c = leads_more g.B.ConversionRewriter.state g.B.ConversionRewriter.transaction g.B.ConversionRewriter.led g.B.ConversionRewriter.led_more c.args.bench.now c.casts.bench c.collapse_next.new.bench c.casts.invariant.1 c.in-Ok-false.ensures.leads

pub returns-in-Err-clause-ends : goal.returns-in-Err-clause-ends
returns-in-Err-clause-ends g c =
    let state = g.B.ConversionRewriter.state in
    collapsing_stops c.args.most (state c.args.bench.now) c.casts.left (state c.casts.bench) (state c.collapse_next.new.bench) c.in-Err.refusal c.without_op.result (omega (arith, c.casts-test.true)) c.casts.invariant.0 c.in-Err.ensures.answers c.without_op.ensures.refusal c.without_op.ensures.id

pub returns-in-Err-clause-leads : goal.returns-in-Err-clause-leads
returns-in-Err-clause-leads g c = leads_more g.B.ConversionRewriter.state g.B.ConversionRewriter.transaction g.B.ConversionRewriter.led g.B.ConversionRewriter.led_more c.args.bench.now c.casts.bench c.collapse_next.new.bench c.casts.invariant.1 c.in-Err.ensures.leads

pub casts-preserved : goal.casts-preserved
casts-preserved g c =
    let state = g.B.ConversionRewriter.state in (
      collapsing_more c.args.most (state c.args.bench.now) c.casts.left (state c.casts.bench) (state c.collapse_next.new.bench) c.in-Ok-true.field-0 (omega (arith, c.casts-test.true)) c.casts.invariant.0 c.in-Ok-true.ensures.answers c.in-Ok-true.field-0-test,
      leads_more state g.B.ConversionRewriter.transaction g.B.ConversionRewriter.led g.B.ConversionRewriter.led_more c.args.bench.now c.casts.bench c.collapse_next.new.bench c.casts.invariant.1 c.in-Ok-true.ensures.leads,
      c.in-Ok-true.ensures.listed,
      c.in-Ok-true.ensures.walked,
    )

pub casts-init : goal.casts-init
casts-init g c = (refl, leads_none g.B.ConversionRewriter.state g.B.ConversionRewriter.transaction g.B.ConversionRewriter.led g.B.ConversionRewriter.led_none c.args.bench.now, c.requires.listed, c.requires.walked)

pub collapse_next-requires : goal.collapse_next-requires
collapse_next-requires g c = record { places = c.requires.places; listed = c.casts.invariant.2; walked = c.casts.invariant.3 }

pub returns-clause-ends : goal.returns-clause-ends
returns-clause-ends g c = collapsing_done c.args.most (g.B.ConversionRewriter.state c.args.bench.now) c.casts.left (g.B.ConversionRewriter.state c.casts.bench) (omega (arith, c.casts-test.false)) c.casts.invariant.0

pub returns-clause-leads : goal.returns-clause-leads
returns-clause-leads g c = c.casts.invariant.1
