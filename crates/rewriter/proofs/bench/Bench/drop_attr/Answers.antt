use Rattle.std.proofs.Common.{refl}
use Rattle.rewriter.specs.Edits as edit
use Rattle.rewriter.proofs.Going.{entry_goes}
use Rattle.rewriter.proofs.bench.Bench.drop_attr.Goals as goal

pub returns-clause-does : goal.returns-clause-does
returns-clause-does g c = entry_goes g.L.Analysis.meaning (edit.DropAttr c.args.op c.args.key) _ c.args.self.now c.enter.new.self c.enter.result refl refl refl c.enter.ensures.ok c.enter.ensures.refused c.enter.ensures.err
