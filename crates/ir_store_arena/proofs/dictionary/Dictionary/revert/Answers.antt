use Rattle.ir_tree_laws.specs.trees.Meaning.{key_before_in}
use Rattle.ir_store_arena.proofs.Orders.{context_order, present_has}
use Rattle.ir_store_arena.proofs.dictionary.Dictionary.revert.Goals as goal

pub remove-requires : goal.remove-requires
remove-requires c = present_has (key_before_in c.args.ctx.now) (context_order c.args.ctx.now) c.args.key _ (c.requires.entry c.in-None.is)
