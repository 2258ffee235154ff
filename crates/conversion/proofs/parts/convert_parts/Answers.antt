use Rattle.std.proofs.Common.{sym, subst, [], Ok, Err}
use Rattle.ir_event.specs.trees.Ids.{ids}
use Rattle.conversion_base.specs.Conversion.{converted, in_turn, later_parts, legalised_at}
use Rattle.conversion.specs.States.{Ends, Faults}
use Rattle.conversion.specs.declared.fault.Fault.{Fault}
use Rattle.conversion_base.specs.Targets.{Aim, target_model}
use Rattle.conversion.proofs.Aims.{aim_known, aim_stays}
use Rattle.conversion.proofs.Leading.{leads_more}
use Rattle.conversion.proofs.Stops.{after_stays}
use Rattle.conversion.proofs.Turns.{parts_fail, parts_go}
use Rattle.conversion.proofs.parts.convert_parts.Goals as goal

pub reconcile-requires : goal.reconcile-requires
reconcile-requires g c =
    let state = g.B.ConversionRewriter.state in
    record { aim = aim_known (state c.args.bench.now).things (state c.legalise_all.new.bench).things c.args.target.now c.legalise_all.ensures.leads.grows c.requires.aim }

pub returns-in-Ok-reconcile-clause-ends : goal.returns-in-Ok-reconcile-clause-ends
returns-in-Ok-reconcile-clause-ends g c =
    let state = g.B.ConversionRewriter.state in
    let start = state c.args.bench.now in
    let mid = state c.legalise_all.new.bench in
    let last = state c.reconcile.new.bench in
    let a = target_model start.things c.args.target.now in
    let same = aim_stays start.things mid.things c.args.target.now c.legalise_all.ensures.leads.grows c.requires.aim in
    parts_go a (in_turn (legalised_at a) (ids start.held.tree) start.held) c.in-Ok.applied.items mid.held last c.in-Ok.ensures.ends
    (subst (λ (b : Aim). Ends (later_parts b (converted mid.held [])) (Ok []) last) same c.in-Ok-reconcile.ensures.ends)

pub returns-in-Err-reconcile-clause-ends : goal.returns-in-Err-reconcile-clause-ends
returns-in-Err-reconcile-clause-ends g c =
    let state = g.B.ConversionRewriter.state in
    let start = state c.args.bench.now in
    let mid = state c.legalise_all.new.bench in
    let last = state c.reconcile.new.bench in
    let a = target_model start.things c.args.target.now in
    let same = aim_stays start.things mid.things c.args.target.now c.legalise_all.ensures.leads.grows c.requires.aim in
    subst (λ (f : Fault). Faults (later_parts a (in_turn (legalised_at a) (ids start.held.tree) start.held)) f last.things) (sym c.from_fault.ensures.fault)
    (parts_fail a (in_turn (legalised_at a) (ids start.held.tree) start.held) c.in-Ok.applied.items mid.held c.in-Err-reconcile.fault last.things c.in-Ok.ensures.ends
    (subst (λ (b : Aim). Ends (later_parts b (converted mid.held [])) (Err c.in-Err-reconcile.fault) last) same c.in-Err-reconcile.ensures.ends))

pub returns-in-Err-reconcile-clause-stays : goal.returns-in-Err-reconcile-clause-stays
returns-in-Err-reconcile-clause-stays g c = after_stays c.from_fault.result _ c.in-Ok.ensures.stays c.from_fault.ensures.failure

pub returns-in-Ok-reconcile-clause-leads : goal.returns-in-Ok-reconcile-clause-leads
returns-in-Ok-reconcile-clause-leads g c = leads_more g.B.ConversionRewriter.state g.B.ConversionRewriter.transaction g.B.ConversionRewriter.led g.B.ConversionRewriter.led_more c.args.bench.now c.legalise_all.new.bench c.reconcile.new.bench c.legalise_all.ensures.leads c.reconcile.ensures.leads

pub returns-in-Err-reconcile-clause-leads : goal.returns-in-Err-reconcile-clause-leads
returns-in-Err-reconcile-clause-leads g c = leads_more g.B.ConversionRewriter.state g.B.ConversionRewriter.transaction g.B.ConversionRewriter.led g.B.ConversionRewriter.led_more c.args.bench.now c.legalise_all.new.bench c.reconcile.new.bench c.legalise_all.ensures.leads c.reconcile.ensures.leads
