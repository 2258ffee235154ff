use Rattle.std.proofs.Common.{sym, ap, ◌∙◌}
use Rattle.ir_store_reads.specs.Spells.{rendered_is}
use Rattle.ir_store.proofs.Called.{rows_in, keys_in}
use Rattle.ir_store.proofs.Taking.{heads_of}
use Rattle.ir_store.proofs.store.Store.tree.Goals as goal

pub copy_op-requires : goal.copy_op-requires
copy_op-requires c = let a = c.self.inside in heads_of (rows_in a) (keys_in a) a.sibs a.root a.represented.0 c.self.invariant.right

pub returns-clause-tree : goal.returns-clause-tree
returns-clause-tree c =
    let a = c.self.inside in
    sym (rendered_is (rows_in a) a.sibs.lists a.root a.represented c.in_ok-tree.tree c.in_ok-tree.ensures) ∙ ap (λ z. z.module_of.tree) c.self.view_is
