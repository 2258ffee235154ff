use Rattle.ir_types.specs.Terms.{type_terms}
use Rattle.ir_types.proofs.Terms.{type_term_is}
use Rattle.ir_types.proofs.Calls.{width_of_type}
use Rattle.ir_types.proofs.context.Context.literal_bits.Goals as goal

pub literal_bits-requires : goal.literal_bits-requires
literal_bits-requires c = width_of_type c.args.self.now c.args.ty c.type_node.result.now c.sound.ensures.holds c.type_node.ensures

pub returns : goal.returns
returns c = rw (type_term_is c.args.self.now c.args.ty c.type_node.result.now c.sound.ensures.holds c.type_node.ensures) (c.literal_bits.ensures (type_terms c.args.self.now))
