use Rattle.std.proofs.Common.{arith}
use Rattle.ir_types.proofs.Terms.{type_term_is, types_below_more}
use Rattle.ir_types.proofs.things.type_of.Goals as goal

pub returns-clause-term : goal.returns-clause-term
returns-clause-term c = type_term_is c.args.ctx.now c.args.id c.type_node.result.now c.sound.ensures.holds c.type_node.ensures

pub returns-clause-parts : goal.returns-clause-parts
returns-clause-parts c = types_below_more c.args.id _ c.type_node.result.now (omega arith) (c.sound.ensures.holds.types_refer c.args.id c.type_node.result.now c.type_node.ensures)
