use Rattle.std.proofs.Common.{◌∙◌, sym, ap, Some}
use Rattle.std.specs.Prelude.{option_map}
use Rattle.ir_verify_base.specs.events.Modules.{module_in}
use Rattle.ir_verify.specs.Sets.{rules_in, set_of}
use Rattle.ir_verify.proofs.Presence.{same_there, isnt_there, is_there}
use Rattle.ir_verify.proofs.Telling.{set_read}
use Rattle.ir_verify.proofs.check.check_in.Goals as goal

pub returns-in-Err-clause-rules : goal.returns-in-Err-clause-rules
returns-in-Err-clause-rules c = same_there c.args.view.now.world.now c.args.op c.in-Err.ensures.refused

pub returns-in_default-clause-rules : goal.returns-in_default-clause-rules
returns-in_default-clause-rules c = isnt_there set_of c.args.view.now.world.now c.args.op (sym c.in_default.is ∙ c.in-Ok.ensures.fact)

pub returns-in-Ok-numbers-clause-rules : goal.returns-in-Ok-numbers-clause-rules
returns-in-Ok-numbers-clause-rules c =
    sym (set_read c.args.op (module_in c.args.view.now.world.now).tree c.in-Ok.found c.in-Ok.ensures.fact) ∙ ap (option_map rules_in) c.in-Some.is ∙ ap Some (sym c.in-Ok-numbers.ensures)

pub returns-in-Err-numbers-clause-rules : goal.returns-in-Err-numbers-clause-rules
returns-in-Err-numbers-clause-rules c = is_there set_of c.args.view.now.world.now c.args.op c.in-Some.rules (sym c.in-Some.is ∙ c.in-Ok.ensures.fact)
