use Rattle.std.proofs.Common.{◌≡◌, List, None, [], subst, ℕ}
use Rattle.std.specs.Prelude.{IfOk}
use Rattle.ir_event.specs.trees.Meaning.{meaning}
use Rattle.mlir_work_session_base.specs.PlacedOps.{placed}
use Rattle.mlir_work_session_base.proofs.OperationWalk.{walked_all}
use Rattle.mlir_work_session_base.proofs.operation_walk.text_of_all.Goals as goal

pub returns : goal.returns
returns c =
    subst (λ (xs : List ℕ). IfOk c.walked.result (λ text. text.items ≡ xs)) (walked_all (placed None (meaning c.args.ctx.now c.args.tree.now)) []) c.walked.ensures
