use Rattle.std.proofs.Common.{◌≡◌, ◌++◌, ap, ◌∙◌, List, subst, arith, Ok, Err, Option, ℕ, ◌+◌, length, length-append}
use Rattle.ir_event.specs.Modules.{Module}
use Rattle.conversion_base.specs.Conversion.{legalised_at}
use Rattle.conversion_base.specs.declared.applied_rule.AppliedRule.{AppliedRule}
use Rattle.conversion_base.specs.Legalization.{legalization_of, standing}
use Rattle.conversion.specs.States.{Ends}
use Rattle.conversion.specs.MatchFailures.{last_rule, match_failure_by, reported_failure, match_failure_after}
use Rattle.conversion.specs.declared.match_failure.MatchFailure.{MatchFailure}
use Rattle.conversion_base.specs.Targets.{Aim, target_model}
use Rattle.conversion.proofs.Aims.{aim_known, aim_stays}
use Rattle.conversion.proofs.Leading.{leads_more}
use Rattle.conversion.proofs.Stops.{stays_more, stays_stops}
use Rattle.conversion.proofs.Turns.{turning_more, turning_stops}
use Rattle.conversion.proofs.parts.legalise_each.Goals as goal

pub legalise_at-requires : goal.legalise_at-requires
legalise_at-requires g c =
    let state = g.B.ConversionRewriter.state in
    record { aim = aim_known (state c.args.bench.now).things (state c.ops.bench).things c.args.target.now c.ops.invariant.3.grows c.requires.aim }

pub returns-in-Err-clause-ends : goal.returns-in-Err-clause-ends
returns-in-Err-clause-ends g c =
    let state = g.B.ConversionRewriter.state in
    let start = state c.args.bench.now in
    let here = state c.ops.bench in
    let next = state c.legalise_at.new.bench in
    let same = aim_stays start.things here.things c.args.target.now c.ops.invariant.3.grows c.requires.aim in
    let o = subst (λ (a : Aim). Ends (legalised_at a here.held c.op-item.result) (Err c.in-Err.aborted.fault) next) same c.in-Err.ensures.ends in
    turning_stops (legalised_at (target_model start.things c.args.target.now)) c.args.ops.now start c.ops.rest.now c.op-item.result c.ops.applied.items here next c.in-Err.aborted.fault c.in-len1-up.len_at_least c.op-item.is c.ops.invariant.0 o

pub returns-in-Err-clause-stays : goal.returns-in-Err-clause-stays
returns-in-Err-clause-stays g c =
    let state = g.B.ConversionRewriter.state in
    let start = state c.args.bench.now in
    let here = state c.ops.bench in
    let e = c.in-Err.aborted in
    let x = c.op-item.result in
    let t = c.args.target.now in
    let same = aim_stays start.things here.things t c.ops.invariant.3.grows c.requires.aim in
    let k = subst (λ (a : Aim). (next : Module → Option (ℕ × MatchFailure)) → e.failure ≡ reported_failure e.fault.id (match_failure_after next x (match_failure_by (last_rule t.rules) here.held x) (standing (legalization_of a t.depth) here.held x))) same c.in-Err.ensures.stays in
    stays_stops (target_model start.things t) c.args.ops.now start c.ops.rest.now x here e c.in-len1-up.len_at_least c.op-item.is c.ops.invariant.2 k

pub returns-in-Err-clause-leads : goal.returns-in-Err-clause-leads
returns-in-Err-clause-leads g c = leads_more g.B.ConversionRewriter.state g.B.ConversionRewriter.transaction g.B.ConversionRewriter.led g.B.ConversionRewriter.led_more c.args.bench.now c.ops.bench c.legalise_at.new.bench c.ops.invariant.3 c.in-Err.ensures.leads

pub ops-preserved : goal.ops-preserved
ops-preserved g c =
    let state = g.B.ConversionRewriter.state in
    let start = state c.args.bench.now in
    let here = state c.ops.bench in
    let next = state c.legalise_at.new.bench in
    let same = aim_stays start.things here.things c.args.target.now c.ops.invariant.3.grows c.requires.aim in
    let o = subst (λ (a : Aim). Ends (legalised_at a here.held c.op-item.result) (Ok c.in-Ok.more.items) next) same c.in-Ok.ensures.ends in
    let few = c.in-Ok.ensures.few in
    let was = c.ops.invariant.1 in
    let all : c.append.new.applied.items ≡ c.ops.applied.items ++ c.in-Ok.more.items = c.in_default-append.ensures.ok ∙ ap (λ (ns : List AppliedRule). c.ops.applied.items ++ ns) c.deref.ensures.value in
    let long : length c.append.new.applied.items ≡ length c.ops.applied.items + length c.in-Ok.more.items = ap length all ∙ length-append c.ops.applied.items c.in-Ok.more.items in (
      turning_more (legalised_at (target_model start.things c.args.target.now)) c.args.ops.now start c.ops.rest.now c.op-item.result c.ops.applied.items c.in-Ok.more.items c.append.new.applied.items here next c.in-len1-up.len_at_least c.op-item.is c.ops.invariant.0 o all,
      omega (arith, few, was, long),
      stays_more (target_model start.things c.args.target.now) c.args.ops.now start c.ops.rest.now c.op-item.result c.in-Ok.more.items here next c.in-len1-up.len_at_least c.op-item.is c.ops.invariant.2 o,
      leads_more state g.B.ConversionRewriter.transaction g.B.ConversionRewriter.led g.B.ConversionRewriter.led_more c.args.bench.now c.ops.bench c.legalise_at.new.bench c.ops.invariant.3 c.in-Ok.ensures.leads,
    )

pub returns-in-Err-append-clause-leads : goal.returns-in-Err-append-clause-leads
returns-in-Err-append-clause-leads g c = leads_more g.B.ConversionRewriter.state g.B.ConversionRewriter.transaction g.B.ConversionRewriter.led g.B.ConversionRewriter.led_more c.args.bench.now c.ops.bench c.legalise_at.new.bench c.ops.invariant.3 c.in-Ok.ensures.leads
