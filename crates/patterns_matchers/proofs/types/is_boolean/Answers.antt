use Rattle.std.proofs.Common.{◌∙◌}
use Rattle.ir_event.specs.types.Terms.{type_term}
use Rattle.patterns_matchers.proofs.Booleans.{boolean_is}
use Rattle.patterns_matchers.proofs.types.is_boolean.Goals as goal

pub returns : goal.returns
returns c = c.is_boolean.ensures ∙ boolean_is (type_term c.args.ctx.now c.args.ty)
