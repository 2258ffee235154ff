use Rattle.std.proofs.Common.{ap, refl}
use Rattle.mlir_work_script.specs.SessionCommands.{session_command_of}
use Rattle.mlir_work_session.specs.Machine.{response_of, session_setting}
use Rattle.mlir_work_session.proofs.Headroom.{fulfils_alike, fulfils_plainly, orders_headroom_plainly}
use Rattle.mlir_work_session.proofs.Rewritten.{fulfils_fired, fulfils_rewrite, fulfils_trace}
use Rattle.mlir_work_session.proofs.session_commands.run_session_command.Goals as goal

pub returns-in-Rewrite-clause-fulfils : goal.returns-in-Rewrite-clause-fulfils
returns-in-Rewrite-clause-fulfils g c =
    let setting = session_setting g.L.AnalysisSource.supply c.args.session_options.now in
    fulfils_alike setting _ _ _ _ _ _ (ap session_command_of c.in-Rewrite.is) (fulfils_rewrite setting _ _ _ _ _ _ _ c.rewrite.ensures.rewrites)

pub returns-in-Rewrite-clause-headroom : goal.returns-in-Rewrite-clause-headroom
returns-in-Rewrite-clause-headroom g c =
    orders_headroom_plainly _ (session_setting g.L.AnalysisSource.supply c.args.session_options.now) _ _ _ _ _ (ap session_command_of c.in-Rewrite.is) refl c.rewrite.ensures.headroom

pub returns-in-Trace-clause-fulfils : goal.returns-in-Trace-clause-fulfils
returns-in-Trace-clause-fulfils g c =
    let setting = session_setting g.L.AnalysisSource.supply c.args.session_options.now in
    fulfils_alike setting _ _ _ _ _ _ (ap session_command_of c.in-Trace.is) (fulfils_trace setting _ _ _ _ _ _ _ c.rewrite-in-Trace.ensures.rewrites)

pub returns-in-Trace-clause-headroom : goal.returns-in-Trace-clause-headroom
returns-in-Trace-clause-headroom g c = orders_headroom_plainly _ (session_setting g.L.AnalysisSource.supply c.args.session_options.now) _ _ _ _ _ (ap session_command_of c.in-Trace.is) refl c.rewrite-in-Trace.ensures.headroom

pub returns-in-Fired-clause-fulfils : goal.returns-in-Fired-clause-fulfils
returns-in-Fired-clause-fulfils g c =
    let setting = session_setting g.L.AnalysisSource.supply c.args.session_options.now in
    fulfils_alike setting _ _ _ _ _ _ (ap session_command_of c.in-Fired.is) (fulfils_fired setting _ _ _ _ _ _ _ c.rewrite-in-Fired.ensures.rewrites)

pub returns-in-Fired-clause-headroom : goal.returns-in-Fired-clause-headroom
returns-in-Fired-clause-headroom g c = orders_headroom_plainly _ (session_setting g.L.AnalysisSource.supply c.args.session_options.now) _ _ _ _ _ (ap session_command_of c.in-Fired.is) refl c.rewrite-in-Fired.ensures.headroom

pub returns-in-TraceConvert-clause-fulfils : goal.returns-in-TraceConvert-clause-fulfils
returns-in-TraceConvert-clause-fulfils g c = fulfils_alike (session_setting g.L.AnalysisSource.supply c.args.session_options.now) _ _ _ _ _ _ (ap session_command_of c.in-TraceConvert.is) (c.trace_conversion.ensures.fulfils (session_setting g.L.AnalysisSource.supply c.args.session_options.now))

pub returns-in-TraceConvert-clause-headroom : goal.returns-in-TraceConvert-clause-headroom
returns-in-TraceConvert-clause-headroom g c = orders_headroom_plainly _ (session_setting g.L.AnalysisSource.supply c.args.session_options.now) _ _ _ _ _ (ap session_command_of c.in-TraceConvert.is) refl c.trace_conversion.ensures.headroom

pub returns-in-ReportAbout-clause-fulfils : goal.returns-in-ReportAbout-clause-fulfils
returns-in-ReportAbout-clause-fulfils g c = fulfils_alike (session_setting g.L.AnalysisSource.supply c.args.session_options.now) _ _ _ _ _ _ (ap session_command_of c.in-ReportAbout.is) (c.show_about.ensures (session_setting g.L.AnalysisSource.supply c.args.session_options.now))

pub returns-in-CanonAt-clause-fulfils : goal.returns-in-CanonAt-clause-fulfils
returns-in-CanonAt-clause-fulfils g c =
    fulfils_plainly (session_setting g.L.AnalysisSource.supply c.args.session_options.now) _ _ _ _ _ _ _ (ap session_command_of c.in-CanonAt.is) (ap response_of c.reply_only-in-CanonAt.ensures.reply) c.reply_only-in-CanonAt.ensures.shows (c.canon_at.ensures.fulfils g.L.AnalysisSource.supply)

pub returns-in-CanonAt-clause-headroom : goal.returns-in-CanonAt-clause-headroom
returns-in-CanonAt-clause-headroom g c =
    orders_headroom_plainly _ (session_setting g.L.AnalysisSource.supply c.args.session_options.now) _ _ _ _ _ (ap session_command_of c.in-CanonAt.is) (ap response_of c.reply_only-in-CanonAt.ensures.reply) c.canon_at.ensures.headroom

pub returns-in-Why-clause-fulfils : goal.returns-in-Why-clause-fulfils
returns-in-Why-clause-fulfils g c = fulfils_alike (session_setting g.L.AnalysisSource.supply c.args.session_options.now) _ _ _ _ _ _ (ap session_command_of c.in-Why.is) (c.why.ensures (session_setting g.L.AnalysisSource.supply c.args.session_options.now))

pub returns-in-ShowFrom-clause-fulfils : goal.returns-in-ShowFrom-clause-fulfils
returns-in-ShowFrom-clause-fulfils g c = fulfils_alike (session_setting g.L.AnalysisSource.supply c.args.session_options.now) _ _ _ _ _ _ (ap session_command_of c.in-ShowFrom.is) (c.show_from.ensures (session_setting g.L.AnalysisSource.supply c.args.session_options.now))
