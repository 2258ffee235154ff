use Rattle.std.proofs.Common.{refl}
use Rattle.rewriter.proofs.Rolled.{settled_loaded}
use Rattle.rewriter.proofs.bench.Bench.new.Goals as goal

pub from_world-requires : goal.from_world-requires
from_world-requires g c = record { slotted = c.stores_stay_slotted.ensures.loaded c.args.tree.now c.args.next _ c.in-Ok.ensures.store }

pub returns-clause-store : goal.returns-clause-store
returns-clause-store g c = settled_loaded c.args.tree.now c.args.next _ _ refl c.in-Ok.ensures.store c.from_world.ensures.transaction
