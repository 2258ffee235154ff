use Rattle.std.proofs.Common.{rules, ◌≡◌, ◌∙◌, sym}
use Rattle.ir_event.specs.trees.Ids.{find}
use Rattle.mlir_work_c_read.specs.Operations.{tree_in}
use Rattle.mlir_work_c_read.proofs.Nodes.{head_is}
use Rattle.mlir_work_c_read.proofs.bulk.head_of.Goals as goal

pub returns : goal.returns
returns c =
    let name : c.from.result ≡ c.in-Some.node.head.name = search rules in
    (λ j. record { name = name j; counts = c.counts_in.ensures j })
    ∙ head_is c.in-Some.node (find c.args.op (tree_in c.args.world.now)) (sym c.in-Some.is ∙ c.shown.ensures.node)
