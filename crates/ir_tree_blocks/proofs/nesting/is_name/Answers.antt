use Rattle.std.proofs.Common.{◌∙◌, sym}
use Rattle.ir_types.specs.Terms.{name_term}
use Rattle.ir_types.proofs.Growth.{name_is}
use Rattle.ir_tree_blocks.proofs.nesting.is_name.Goals as goal

pub returns : goal.returns
returns c = λ h. name_is (name_term c.args.ctx.now c.args.name) c.args.bytes.now (sym c.has_bytes.ensures ∙ h)
