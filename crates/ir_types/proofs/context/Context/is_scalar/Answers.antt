use Rattle.std.proofs.Common.{◌∙◌, sym, ap}
use Rattle.ir_types.specs.Terms.{type_terms}
use Rattle.ir_types.specs.Depths.{is_scalar}
use Rattle.ir_types.proofs.Terms.{type_term_is}
use Rattle.ir_types.proofs.context.Context.is_scalar.Goals as goal

pub returns : goal.returns
returns c = c.is_scalar_node.ensures (type_terms c.args.self.now) ∙ ap is_scalar (sym (type_term_is c.args.self.now c.args.id c.type_node.result.now c.sound.ensures.holds c.type_node.ensures))
