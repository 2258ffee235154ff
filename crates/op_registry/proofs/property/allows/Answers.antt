use Rattle.std.proofs.Common.{◌∙◌, sym, ap}
use Rattle.ir_types.specs.Terms.{attr_node_term}
use Rattle.op_registry.specs.Properties.{is_allowed, is_of_kind}
use Rattle.op_registry.proofs.property.allows.Goals as goal

pub returns : goal.returns
unfolding is_allowed
returns c =
    c.is_of_kind.ensures
    ∙ ap (λ k. is_of_kind k (attr_node_term c.args.ctx.now c.attr_of.result.now)) (c.property_kind.ensures c.args.ctx.now c.sound.ensures)
    ∙ ap (is_of_kind _) (sym c.attr_of.ensures.term)
