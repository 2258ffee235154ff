use Rattle.std.proofs.Common.{◌∙◌, ap, subst}
use Rattle.ir_event.specs.types.Terms.{attr_node_term}
use Rattle.ir_event.specs.types.Things.{AttrIsOf}
use Rattle.mlir_work_c_read.proofs.intern.type_of_attribute.Goals as goal

pub returns-in-Ty : goal.returns-in-Ty
returns-in-Ty c =
    let ctx = c.args.ctx.now in
    (subst (AttrIsOf ctx) c.in-Ty.is c.attr_of.ensures.parts, c.attr_of.ensures.term ∙ ap (attr_node_term ctx) c.in-Ty.is)
