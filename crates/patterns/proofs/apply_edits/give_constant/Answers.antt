use Rattle.patterns.specs.Numbered.{constant_edits}
use Rattle.patterns.proofs.Carrying.{made_none}
use Rattle.patterns.proofs.apply_edits.give_constant.Goals as goal

pub returns-in-Err : goal.returns-in-Err
returns-in-Err g c = made_none g.L.Analysis.meaning (constant_edits c.args.site.now c.args.ty c.args.value) c.args.bench.now
