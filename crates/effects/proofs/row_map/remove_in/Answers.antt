use Rattle.effects.proofs.RowMaps.{removed}
use Rattle.effects.proofs.row_map.remove_in.Goals as goal

pub returns-clause-updates : goal.returns-clause-updates
returns-clause-updates c = removed c.args.sums.now c.remove-2.new.self c.args.heads.now c.remove.new.self c.args.id c.remove.ensures.updates c.remove-2.ensures.updates
