use Rattle.std.proofs.Common.{◌≡◌, true}
use Rattle.ir_store_reads.specs.types.Terms.{name_term}
use Rattle.ir_store_reads.specs.types.Words.{is_table}
use Rattle.ir_store_reads.specs.trees.Ids.{has_id}
use Rattle.ir_store.specs.Shifting.{table_at}
use Rattle.ir_store.specs.Lifted.{level_of}
use Rattle.ir_store.proofs.store.Store.table_from.Given as goal

abbrev pub invariant-around : goal.invariant-around
invariant-around l = (has_id l.at l.self.module_of.tree ≡ true) × (table_at (λ n. is_table (name_term l.ctx n)) l.at l.self.module_of.tree ≡ table_at (λ n. is_table (name_term l.ctx n)) l.fn.op l.self.module_of.tree)

abbrev pub decreases-around : goal.decreases-around
decreases-around l = level_of l.at l.self.module_of.tree
