use Rattle.std.proofs.Common.{◌∙◌, ap, slice_get, List, ℕ, Option}
use Rattle.std.specs.Prelude.{option_and_then}
use Rattle.ir_store_slots.specs.Nodes.{Node}
use Rattle.ir_store_slots.specs.Rows.{row_at, shape_arguments}
use Rattle.ir_store_reads.proofs.Arguments.{node_arguments}
use Rattle.ir_store_reads.proofs.node.Node.arguments.Goals as goal

pub returns : goal.returns
returns c =
    c.block_arguments.ensures
    ∙ ap (λ z. option_and_then shape_arguments (slice_get z c.args.region)) c.areas.ensures
    ∙ node_arguments (row_at c.self.inside.slots.now c.self.inside.slot).shapes c.args.region
    ∙ ap (λ (z : Node). option_and_then {T = Option (List ℕ)} (λ a. a) (slice_get z.arguments c.args.region)) c.self.view_is
