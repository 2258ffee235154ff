use Rattle.ir_store_lists.proofs.Once.{laws_hold}
use Rattle.ir_store_lists.proofs.chains.LinkedLists.laws.Goals as goal

pub returns : goal.returns
returns c = laws_hold c.self.inside.links.items c.self.inside.linked c.self.inside.headroom c.args.self.now c.self.view_is
