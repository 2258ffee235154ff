use Rattle.std.proofs.Common.{◌≡◌, true, ◌∙◌, ap, sym, subst, if◌then◌else◌, Bool, Option, None}
use Rattle.ir_event.specs.types.declared.refusal.Refusal.TheVariants.{BadTarget}
use Rattle.ir_event.specs.Modules.{Module}
use Rattle.conversion_base.specs.Conversion.{Ended, all_parts, given_up, has_no_cast}
use Rattle.std.specs.Prelude.{IfErr, OnOk}
use Rattle.ir_event.specs.trees.Ids.{ids}
use Rattle.conversion.specs.Converting.{applied_rules}
use Rattle.conversion.specs.MatchFailures.{reported_failure, staying}
use Rattle.conversion.specs.declared.match_failure.MatchFailure.{MatchFailure}
use Rattle.conversion.specs.States.{State, Converts}
use Rattle.conversion_base.specs.Targets.{target_model}
use Rattle.conversion.proofs.Leading.{leads_same}
use Rattle.conversion.proofs.Noting.{left_closed, left_none, left_same}
use Rattle.conversion.proofs.Stops.{untold}
use Rattle.conversion.proofs.Trying.{leads_whole}
use Rattle.conversion.proofs.Turns.{converted_whole, kept_whole}
use Rattle.conversion.proofs.parts.convert_with.Goals as goal

pub returns-clause-converts : goal.returns-clause-converts
returns-clause-converts g c =
    let state = g.B.ConversionRewriter.state in
    let start = state c.args.bench.now in
    let end = state c.close.new.bench in
    let a = target_model start.things c.args.target.now in
    let accepted = sym c.is_accepted.ensures ∙ c.if-not-is_accepted.false in
    subst (λ (e : Ended). Converts e c.convert_marked-made.result start end) (sym (ap (λ b. if b then all_parts a start.held else given_up BadTarget None) accepted))
    (converted_whole (λ d m. all_parts (target_model d c.args.target.now) m) c.convert_marked-made.result start (state c.step.new.self) (state c.convert_marked-made.new.bench) end
    c.in_default.ensures.ok c.convert_marked-made.ensures.leads.marks c.convert_marked-made.ensures.ends c.is_converted.result c.is_converted.ensures c.close.ensures.closed)

pub returns-clause-leads : goal.returns-clause-leads
returns-clause-leads g c =
    let state = g.B.ConversionRewriter.state in
    leads_whole state g.B.ConversionRewriter.transaction g.B.ConversionRewriter.led g.B.ConversionRewriter.led_more c.args.bench.now c.step.new.self c.convert_marked-made.new.bench c.close.new.bench c.in_default.ensures.ok c.step.ensures.led c.convert_marked-made.ensures.leads c.close.ensures.led
    c.is_converted.result c.close.ensures.closed c.step.ensures.none c.in_default.ensures.opened c.close.ensures.dropped

pub returns-clause-none : goal.returns-clause-none
returns-clause-none g c =
    let state = g.B.ConversionRewriter.state in
    kept_whole (λ (m : Module). has_no_cast m.tree ≡ true) c.convert_marked-made.result (state c.args.bench.now) (state c.step.new.self) (state c.convert_marked-made.new.bench) (state c.close.new.bench)
    c.in_default.ensures.ok c.convert_marked-made.ensures.leads.marks c.convert_marked-made.ensures.none c.is_converted.result c.is_converted.ensures c.close.ensures.closed

pub returns-then-not-is_accepted-clause-left : goal.returns-then-not-is_accepted-clause-left
returns-then-not-is_accepted-clause-left g c = left_none (g.B.ConversionRewriter.transaction c.args.bench.now)

pub returns-in-Err-clause-left : goal.returns-in-Err-clause-left
returns-in-Err-clause-left g c = left_same _ _ c.in-Err.ensures.left

pub returns-clause-left : goal.returns-clause-left
returns-clause-left g c =
    let transaction = g.B.ConversionRewriter.transaction in
    left_closed (transaction c.args.bench.now) (transaction c.step.new.self) (transaction c.convert_marked-made.new.bench) (transaction c.close.new.bench) c.step.ensures.none c.in_default.ensures.opened c.convert_marked-made.ensures.leads.noted
    c.convert_marked-made.result c.is_converted.result c.is_converted.ensures c.close.ensures.dropped

pub returns-then-not-is_accepted-clause-stays : goal.returns-then-not-is_accepted-clause-stays
returns-then-not-is_accepted-clause-stays g c =
    let t = c.args.tracer.now in
    untold (λ (s : Option MatchFailure). g.T.Tracer.stayed s t t) c.without_op.result _ c.without_op.ensures.id (g.T.Tracer.untouched t)

pub returns-in-Err-clause-stays : goal.returns-in-Err-clause-stays
returns-in-Err-clause-stays g c =
    let t = c.args.tracer.now in
    untold (λ (s : Option MatchFailure). g.T.Tracer.stayed s t t) c.without_op-in-Err.result _ c.without_op-in-Err.ensures.id (g.T.Tracer.untouched t)

pub returns-clause-reported : goal.returns-clause-reported
returns-clause-reported g c =
    let start = g.B.ConversionRewriter.state c.args.bench.now in
    let target = c.args.target.now in
    let old = c.args.tracer.now in
    let new = c.convert_marked-made.new.tracer in
    let a = target_model start.things target in
    let r = c.convert_marked-made.result in
    let accepted = sym c.is_accepted.ensures ∙ c.if-not-is_accepted.false in
    subst (λ (b : Bool). OnOk r (g.T.Tracer.reported (applied_rules (if b then all_parts a start.held else given_up BadTarget None)) old new)) (sym accepted)
    (subst (λ (s : State). OnOk r (g.T.Tracer.reported (applied_rules (all_parts (target_model s.things target) s.held)) old new)) c.in_default.ensures.ok c.convert_marked-made.ensures.reported)

pub returns-clause-stays : goal.returns-clause-stays
returns-clause-stays g c =
    let start = g.B.ConversionRewriter.state c.args.bench.now in
    let target = c.args.target.now in
    let old = c.args.tracer.now in
    let new = c.convert_marked-made.new.tracer in
    let a = target_model start.things target in
    let r = c.convert_marked-made.result in
    let accepted = sym c.is_accepted.ensures ∙ c.if-not-is_accepted.false in
    subst (λ (b : Bool). IfErr r (λ f. g.T.Tracer.stayed (reported_failure f.id (if b then staying a (ids start.held.tree) start.held else None)) old new)) (sym accepted)
    (subst (λ (s : State). IfErr r (λ f. g.T.Tracer.stayed (reported_failure f.id (staying (target_model s.things target) (ids s.held.tree) s.held)) old new)) c.in_default.ensures.ok c.convert_marked-made.ensures.stays)

pub returns-in-Err-clause-leads : goal.returns-in-Err-clause-leads
returns-in-Err-clause-leads g c =
    leads_same g.B.ConversionRewriter.state g.B.ConversionRewriter.transaction g.B.ConversionRewriter.led c.args.bench.now c.step.new.self c.in-Err.ensures.err c.in-Err.ensures.left c.step.ensures.led
