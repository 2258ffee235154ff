use Rattle.std.proofs.Common.{◌∙◌, ap}
use Rattle.std.proofs.lemmas.Int.{to_z-of_z}
use Rattle.std.specs.Int.{w128}
use Rattle.ir_types.specs.Ranges.{is_value_number}
use Rattle.ir_types.specs.Terms.{type_from, type_terms}
use Rattle.ir_types.proofs.Terms.{type_term_is}
use Rattle.ir_types.proofs.Calls.{width_of_type}
use Rattle.ir_types.proofs.context.Context.is_value.Goals as goal

pub is_value-requires : goal.is_value-requires
is_value-requires c = width_of_type c.args.self.now c.args.ty c.type_node.result.now c.sound.ensures.holds c.type_node.ensures

pub returns : goal.returns
returns c = rw (type_term_is c.args.self.now c.args.ty c.type_node.result.now c.sound.ensures.holds c.type_node.ensures)
    (c.is_value.ensures (type_terms c.args.self.now) ∙ ap (is_value_number (type_from (type_terms c.args.self.now) c.type_node.result.now)) (to_z-of_z w128 c.args.value c.ranges.value))
