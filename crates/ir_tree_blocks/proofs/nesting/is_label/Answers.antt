use Rattle.std.proofs.Common.{◌∙◌, ap, sym, Some, eqb-true}
use Rattle.ir_types.specs.Terms.{attr_term}
use Rattle.ir_tree_blocks.proofs.Scoped.{label_is}
use Rattle.ir_tree_blocks.proofs.nesting.is_label.Goals as goal

pub returns-in-Some : goal.returns-in-Some
returns-in-Some c = λ h. label_is (attr_term c.args.ctx.now c.args.attr) c.args.label (sym c.number.ensures ∙ c.in-Some.is ∙ ap Some (eqb-true c.in-Some.number c.args.label h))
