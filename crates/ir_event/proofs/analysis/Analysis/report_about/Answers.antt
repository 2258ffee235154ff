use Rattle.ir_event.specs.Modules.{context_model, module_in}
use Rattle.ir_event.proofs.analysis.Analysis.report_about.Goals as goal

pub returns-clause-agreed : goal.returns-clause-agreed
returns-clause-agreed g c agrees =
    let d = context_model c.args.world.now in
    let m = module_in c.args.world.now in
    c.keep_rows_about.ensures d ((g.Self.Analysis.meaning c.args.self.now).analysis m.tree) (c.in-Ok.ensures.agreed d m agrees)
