use Rattle.std.proofs.Common.{sym, ◌∙◌}
use Rattle.ir_store_lists.proofs.Heads.{first_item}
use Rattle.ir_store_lists.proofs.chains.LinkedLists.pop_front.Goals as goal

pub remove-requires : goal.remove-requires
remove-requires c = first_item _ _ _ _ c.laws.ensures c.requires (sym c.in-Some.is ∙ c.first.ensures)
