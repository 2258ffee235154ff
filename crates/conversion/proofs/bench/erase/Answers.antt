use Rattle.std.proofs.Common.{inl, refl, Ok}
use Rattle.patterns.specs.RewriterCalls.{state_of}
use Rattle.conversion_base.specs.Edits.{Erase}
use Rattle.patterns.proofs.of_runs.Carrying.{tried_by, unmade_by}
use Rattle.conversion.proofs.VisibleValues.{leads_on}
use Rattle.conversion.proofs.bench.erase.Goals as goal

pub returns-in-Ok-clause-answers : goal.returns-in-Ok-clause-answers
returns-in-Ok-clause-answers g c = (refl, (tried_by (state_of g.L.Analysis.meaning c.args.bench.now) (state_of g.L.Analysis.meaning c.erase-erased.new.self) (Erase c.args.op) (Ok (tt {0})) (Ok (tt {0})) c.in-Ok.ensures.does refl).0.1)

pub returns-in-Ok-clause-leads : goal.returns-in-Ok-clause-leads
returns-in-Ok-clause-leads g c = leads_on g.L.Analysis.meaning c.erase-erased.result c.args.bench.now c.erase-erased.new.self c.is_wellformed.ensures.context.holds c.erase-erased.ensures.ctx (tried_by (state_of g.L.Analysis.meaning c.args.bench.now) (state_of g.L.Analysis.meaning c.erase-erased.new.self) (Erase c.args.op) (Ok (tt {0})) (Ok (tt {0})) c.in-Ok.ensures.does refl).1 c.erase-erased.ensures.led c.erase-erased.ensures.journal

pub returns-in-Err-clause-answers : goal.returns-in-Err-clause-answers
returns-in-Err-clause-answers g c = (inl refl, (unmade_by (state_of g.L.Analysis.meaning c.args.bench.now) (state_of g.L.Analysis.meaning c.erase-erased.new.self) (Erase c.args.op) c.in-Err.field-0 c.in-Err.ensures.does).0.1)

pub returns-in-Err-clause-leads : goal.returns-in-Err-clause-leads
returns-in-Err-clause-leads g c = leads_on g.L.Analysis.meaning c.erase-erased.result c.args.bench.now c.erase-erased.new.self c.is_wellformed.ensures.context.holds c.erase-erased.ensures.ctx (unmade_by (state_of g.L.Analysis.meaning c.args.bench.now) (state_of g.L.Analysis.meaning c.erase-erased.new.self) (Erase c.args.op) c.in-Err.field-0 c.in-Err.ensures.does).1 c.erase-erased.ensures.led c.erase-erased.ensures.journal
