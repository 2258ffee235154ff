use Rattle.std.proofs.Common.{◌∙◌, sym, Some, None}
use Rattle.mlir_work_c_read.specs.Operations.{tree_in}
use Rattle.mlir_work_c_read.proofs.Nodes.{arguments_are}
use Rattle.mlir_work_c_read.proofs.operations.argument_count.Goals as goal

pub returns-in_default-arguments : goal.returns-in_default-arguments
returns-in_default-arguments c =
    arguments_are c.in-Some.node c.args.op (tree_in c.args.world.now) c.args.region None (sym c.in-Some.is ∙ c.shown.ensures.node) c.in_default-arguments.ensures

pub returns : goal.returns
returns c =
    arguments_are c.in-Some.node c.args.op (tree_in c.args.world.now) c.args.region (Some c.in-Some-arguments.arguments.now) (sym c.in-Some.is ∙ c.shown.ensures.node) c.in-Some-arguments.ensures
