use Rattle.std.proofs.Common.{◌∙◌, ap}
use Rattle.ir_types.specs.Terms.{name_term}
use Rattle.op_registry.specs.Registry.{row_of}
use Rattle.ir_verify.proofs.place_rules.definition.Goals as goal

pub returns : goal.returns
returns c = c.get.ensures c.args.ctx.now c.sound.ensures ∙ ap (λ n. row_of (name_term c.args.ctx.now n)) c.name.ensures
