use Rattle.std.proofs.Common.{◌∙◌, Bool, Ok, refl, subst}
use Rattle.conversion_base.specs.Reconciling.{next_collapse}
use Rattle.conversion.specs.States.{Looked}
use Rattle.conversion.proofs.Leading.{leads_more}
use Rattle.conversion.proofs.Walking.{next_found, next_none, still_listed}
use Rattle.conversion.proofs.collapsing.collapse_next.Goals as goal

pub returns-in-Ok-true-clause-listed : goal.returns-in-Ok-true-clause-listed
returns-in-Ok-true-clause-listed g c =
    let state = g.B.ConversionRewriter.state in
    let start = state c.args.bench.now in
    let next = state c.collapse_at.new.bench in
    still_listed start c.args.ops.now c.is_whole.ensures c.requires.listed next
    (next_found start c.args.ops.now (state c.places.bench) next (Ok c.in-Ok-true.field-0) c.in-Ok-true.field-0 c.places.invariant.0.held refl c.in-Ok-true.field-0-test c.in-Ok-true.ensures.looked)

pub returns-clause-answers : goal.returns-clause-answers
returns-clause-answers g c =
    let state = g.B.ConversionRewriter.state in
    next_none (state c.args.bench.now) c.args.ops.now c.requires.listed c.places.walk.passed c.places.walk.again.keys (state c.places.bench) c.places.invariant.0 c.in_default.ensures.taken.0 c.in_default.ensures.taken.1

pub returns-in-Ok-true-clause-leads : goal.returns-in-Ok-true-clause-leads
returns-in-Ok-true-clause-leads g c = leads_more g.B.ConversionRewriter.state g.B.ConversionRewriter.transaction g.B.ConversionRewriter.led g.B.ConversionRewriter.led_more c.args.bench.now c.places.bench c.collapse_at.new.bench c.places.invariant.1 c.in-Ok-true.ensures.leads

pub returns-in-Err-clause-leads : goal.returns-in-Err-clause-leads
returns-in-Err-clause-leads g c = leads_more g.B.ConversionRewriter.state g.B.ConversionRewriter.transaction g.B.ConversionRewriter.led g.B.ConversionRewriter.led_more c.args.bench.now c.places.bench c.collapse_at.new.bench c.places.invariant.1 c.in-Err.ensures.leads

pub places-preserved : goal.places-preserved
places-preserved g c =
    let state = g.B.ConversionRewriter.state in
    let here = state c.places.bench in
    let next = state c.collapse_at.new.bench in (
      record {
        held = subst (λ (b : Bool). Looked (next_collapse here.held) (Ok b) here next) c.in-Ok-false.field-0-test c.in-Ok-false.ensures.looked ∙ c.places.invariant.0.held;
        walked = c.in-Ok-false.ensures.walked;
      },
      leads_more g.B.ConversionRewriter.state g.B.ConversionRewriter.transaction g.B.ConversionRewriter.led g.B.ConversionRewriter.led_more c.args.bench.now c.places.bench c.collapse_at.new.bench c.places.invariant.1 c.in-Ok-false.ensures.leads,
    )
