use Rattle.std.proofs.Common.{arith}
use Rattle.ir_types.proofs.Terms.{attr_term_is, parts_below_more}
use Rattle.ir_types.proofs.things.attr_of.Goals as goal

pub returns-clause-term : goal.returns-clause-term
returns-clause-term c = attr_term_is c.args.ctx.now c.args.id c.attr_node.result.now c.sound.ensures.holds c.attr_node.ensures.node

pub returns-clause-parts : goal.returns-clause-parts
returns-clause-parts c = parts_below_more _ _ c.args.id _ _ _ c.attr_node.result.now (omega arith) (omega arith) (omega arith) (c.sound.ensures.holds.attrs_refer c.args.id c.attr_node.result.now c.attr_node.ensures.node)
