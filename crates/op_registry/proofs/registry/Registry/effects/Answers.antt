use Rattle.std.proofs.Common.{◌∙◌, ap, sym}
use Rattle.std.specs.Option.{option_map}
use Rattle.op_registry.specs.declared.definition.OpDef.{OpDef}
use Rattle.std.proofs.Common.{Bor}
use Rattle.op_registry.specs.Registry.{row_from, own_in}
use Rattle.op_registry.proofs.registry.Registry.effects.Goals as goal

pub returns-in-Some : goal.returns-in-Some
unfolding row_from
returns-in-Some c things sound = ap own_in (sym (ap (option_map (λ (def : Bor OpDef). row_from def.now)) c.in-Some.is) ∙ c.get.ensures things sound)
