use Rattle.patterns.proofs.Adding.{added_none}
use Rattle.patterns.proofs.make.plan_edits.Goals as goal

pub returns-in-Erase-clause-added : goal.returns-in-Erase-clause-added
returns-in-Erase-clause-added g c = added_none g.L.Analysis.meaning c.args.bench.now

pub returns-in-Give-clause-added : goal.returns-in-Give-clause-added
returns-in-Give-clause-added g c = added_none g.L.Analysis.meaning c.args.bench.now

pub returns-in-Edits-clause-added : goal.returns-in-Edits-clause-added
returns-in-Edits-clause-added g c = added_none g.L.Analysis.meaning c.args.bench.now

pub returns-in-Cast-clause-added : goal.returns-in-Cast-clause-added
returns-in-Cast-clause-added g c = added_none g.L.Analysis.meaning c.args.bench.now
