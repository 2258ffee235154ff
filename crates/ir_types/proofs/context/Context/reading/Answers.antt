use Rattle.ir_types.specs.Terms.{type_terms}
use Rattle.ir_types.proofs.Terms.{type_term_is}
use Rattle.ir_types.proofs.Calls.{width_of_type}
use Rattle.ir_types.proofs.context.Context.reading.Goals as goal

pub read_bits-requires : goal.read_bits-requires
read_bits-requires c = width_of_type c.args.self.now c.args.ty c.type_node.result.now c.sound.ensures.holds c.type_node.ensures

pub returns-clause-negative : goal.returns-clause-negative
returns-clause-negative c =
    rw (type_term_is c.args.self.now c.args.ty c.type_node.result.now c.sound.ensures.holds c.type_node.ensures) (c.read_bits.ensures.negative (type_terms c.args.self.now))

pub returns-clause-magnitude : goal.returns-clause-magnitude
returns-clause-magnitude c =
    rw (type_term_is c.args.self.now c.args.ty c.type_node.result.now c.sound.ensures.holds c.type_node.ensures) (c.read_bits.ensures.magnitude (type_terms c.args.self.now))
