use Rattle.std.proofs.Common.{◌∙◌, ap}
use Rattle.std.specs.Prelude.{is_some}
use Rattle.std.specs.FinMap as finmap
use Rattle.ir_store_reads.specs.trees.Ids.{has_id}
use Rattle.ir_store_reads.proofs.SlotLaws.{in_tree_is}
use Rattle.ir_store.proofs.store.Store.in_tree.Goals as goal

pub returns : goal.returns
returns c =
    let a = c.self.inside in
    c.is_some.ensures ∙ ap is_some c.find.ensures
    ∙ in_tree_is a.slots (finmap.get a.keys) a.sibs a.root a.represented.0 c.self.invariant.right a.represented.1 c.args.op
    ∙ ap (λ s. has_id c.args.op s.module_of.tree) c.self.view_is
