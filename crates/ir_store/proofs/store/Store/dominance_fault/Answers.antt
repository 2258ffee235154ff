use Rattle.std.proofs.Common.{sym}
use Rattle.ir_store.proofs.Relinked.{can_relink}
use Rattle.ir_store.proofs.store.Store.dominance_fault.Goals as goal

pub keeps_table-requires : goal.keeps_table-requires
keeps_table-requires c = can_relink c.args.op c.args.place.now c.args.self.now.module_of.tree (sym c.in-None.ensures)
