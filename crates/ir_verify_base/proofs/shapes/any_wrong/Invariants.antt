use Rattle.std.proofs.Common.{◌≡◌, length, map}
use Rattle.std.specs.List.{list_any}
use Rattle.op_registry.specs.Registry.{property_row}
use Rattle.ir_verify_base.specs.Numbers.{node_in}
use Rattle.ir_verify_base.specs.Shapes.{is_wrong}
use Rattle.ir_verify_base.proofs.shapes.any_wrong.Given as goal

abbrev pub invariant-loop-rest : goal.invariant-loop-rest
invariant-loop-rest l = list_any (is_wrong (node_in l.ctx l.node)) (map property_row l.rest) ≡ list_any (is_wrong (node_in l.ctx l.node)) (map property_row l.fn.properties)

abbrev pub decreases-loop-rest : goal.decreases-loop-rest
decreases-loop-rest l = length l.rest
