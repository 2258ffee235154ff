use Rattle.ir_types.proofs.WordTables.{pointed}
use Rattle.ir_types.proofs.words.entry.Goals as goal

pub returns : goal.returns
returns g c = pointed c.args.table.now c.args.index c.index-table-index.result c.index-table-index.is c.requires
