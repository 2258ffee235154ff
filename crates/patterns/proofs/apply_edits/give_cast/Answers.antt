use Rattle.patterns.specs.Numbered.{cast_edits}
use Rattle.patterns.proofs.Carrying.{made_none}
use Rattle.patterns.proofs.apply_edits.give_cast.Goals as goal

pub returns-in-Err : goal.returns-in-Err
returns-in-Err g c = made_none g.L.Analysis.meaning (cast_edits c.args.site.now c.args.name c.args.ty c.args.value.now) c.args.bench.now
