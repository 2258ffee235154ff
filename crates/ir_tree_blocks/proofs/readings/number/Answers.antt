use Rattle.std.proofs.Common.{ap, sym}
use Rattle.ir_tree_blocks.specs.Scopes.{number_in}
use Rattle.ir_tree_blocks.proofs.Keyed.{absent}
use Rattle.ir_tree_blocks.proofs.readings.number.Goals as goal

pub returns-then-not-has_attr : goal.returns-then-not-has_attr
unfolding number_in
returns-then-not-has_attr c = sym (ap number_in (absent c.has_attr.result c.args.ctx.now c.args.attr c.has_attr.ensures c.if-not-has_attr.true))
