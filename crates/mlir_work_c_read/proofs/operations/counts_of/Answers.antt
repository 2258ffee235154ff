use Rattle.std.proofs.Common.{◌∙◌, sym, ap, Some}
use Rattle.ir_event.specs.trees.Ids.{find}
use Rattle.mlir_work_c_read.specs.Operations.{tree_in}
use Rattle.mlir_work_c_read.proofs.Nodes.{counts_are}
use Rattle.mlir_work_c_read.proofs.operations.counts_of.Goals as goal

pub returns : goal.returns
returns c =
    ap Some c.counts_in.ensures ∙ counts_are c.in-Some.node (find c.args.op (tree_in c.args.world.now)) (sym c.in-Some.is ∙ c.shown.ensures.node)
