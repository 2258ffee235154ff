use Rattle.std.proofs.Common.{subst}
use Rattle.conversion_base.specs.Conversion.{checked}
use Rattle.conversion.specs.States.{Ends, none_of}
use Rattle.conversion_base.specs.Targets.{Aim, target_model}
use Rattle.conversion.proofs.Aims.{aim_known, aim_stays}
use Rattle.conversion.proofs.Leading.{leads_more}
use Rattle.conversion.proofs.Turns.{check_ends}
use Rattle.conversion.proofs.parts.reconcile.Goals as goal

pub check-requires : goal.check-requires
check-requires g c =
    let state = g.B.ConversionRewriter.state in
    let leads = leads_more state g.B.ConversionRewriter.transaction g.B.ConversionRewriter.led g.B.ConversionRewriter.led_more c.args.bench.now c.fold_casts.new.bench c.cast_all.new.bench c.fold_casts.ensures.leads c.cast_all.ensures.leads in
    record { aim = aim_known (state c.args.bench.now).things (state c.cast_all.new.bench).things c.args.target.now leads.grows c.requires.aim }

pub returns-clause-ends : goal.returns-clause-ends
returns-clause-ends g c =
    let state = g.B.ConversionRewriter.state in
    let start = state c.args.bench.now in
    let last = state c.cast_all.new.bench in
    let leads = leads_more state g.B.ConversionRewriter.transaction g.B.ConversionRewriter.led g.B.ConversionRewriter.led_more c.args.bench.now c.fold_casts.new.bench c.cast_all.new.bench c.fold_casts.ensures.leads c.cast_all.ensures.leads in
    let same = aim_stays start.things last.things c.args.target.now leads.grows c.requires.aim in
    check_ends (target_model start.things c.args.target.now) start.held (state c.fold_casts.new.bench).held last.held c.check.result last c.in_default.ensures.ends c.in_default-cast_all.ensures.ends
    (subst (λ (a : Aim). Ends (checked a last.held) (none_of c.check.result) last) same c.check.ensures.ends)

pub returns-in-Err-cast_all-clause-leads : goal.returns-in-Err-cast_all-clause-leads
returns-in-Err-cast_all-clause-leads g c = leads_more g.B.ConversionRewriter.state g.B.ConversionRewriter.transaction g.B.ConversionRewriter.led g.B.ConversionRewriter.led_more c.args.bench.now c.fold_casts.new.bench c.cast_all.new.bench c.fold_casts.ensures.leads c.cast_all.ensures.leads

pub returns-clause-leads : goal.returns-clause-leads
returns-clause-leads g c = leads_more g.B.ConversionRewriter.state g.B.ConversionRewriter.transaction g.B.ConversionRewriter.led g.B.ConversionRewriter.led_more c.args.bench.now c.fold_casts.new.bench c.cast_all.new.bench c.fold_casts.ensures.leads c.cast_all.ensures.leads
