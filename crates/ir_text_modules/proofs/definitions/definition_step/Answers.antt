use Rattle.std.proofs.Common.{◌≡◌, sym, subst}
use Rattle.std.specs.Prelude.{Err, IfOk, IfErr}
use Rattle.ir_text_modules.specs.Definitions.{value_of_name}
use Rattle.ir_text_modules.specs.Steps.{Adds}
use Rattle.ir_text_modules.proofs.Defining.{end_step, fault_step, more_step, rest_shorter}
use Rattle.ir_text_modules.proofs.definitions.definition_step.Goals as goal

pub returns-in_default-clause-ends : goal.returns-in_default-clause-ends
returns-in_default-clause-ends c =
    end_step c.args.known.now.values.items c.args.known.now.names.here c.args.trailing.now c.args.byte c.args.all.now c.args.tail.now c.requires.all c.requires.lexeme (sym c.in_default.ensures)

pub returns-in-Ok-clause-on : goal.returns-in-Ok-clause-on
returns-in-Ok-clause-on c =
    more_step c.args.known.now.values.items c.args.known.now.names.here c.args.trailing.now c.args.byte c.args.all.now c.args.tail.now c.name_of-name.result.now c.in-Some.value.now c.in-Ok.rest.now c.define.new.known.values.items c.define.new.known.names.here
    c.requires.all c.requires.lexeme (sym c.in-Some.ensures) c.name_of-name.ensures
    (subst (λ s. IfOk s (λ r. Adds c.name_of-name.result.now c.args.all.now c.in-Some.value.now c.args.known.now.values.items c.args.known.now.names.here r.now c.define.new.known.values.items c.define.new.known.names.here)) c.in-Ok.is c.in_ok-rest.ensures.ok)

pub returns-in-Ok-clause-shorter : goal.returns-in-Ok-clause-shorter
returns-in-Ok-clause-shorter c =
    rest_shorter c.args.known.now.values.items c.args.known.now.names.here c.args.trailing.now c.args.byte c.args.all.now c.args.tail.now c.name_of-name.result.now c.in-Some.value.now c.in-Ok.rest.now c.define.new.known.values.items c.define.new.known.names.here
    (sym c.in-Some.ensures)
    (subst (λ s. IfOk s (λ r. Adds c.name_of-name.result.now c.args.all.now c.in-Some.value.now c.args.known.now.values.items c.args.known.now.names.here r.now c.define.new.known.values.items c.define.new.known.names.here)) c.in-Ok.is c.in_ok-rest.ensures.ok)

pub returns-in-Err-clause-ends : goal.returns-in-Err-clause-ends
returns-in-Err-clause-ends c =
    fault_step c.args.known.now.values.items c.args.known.now.names.here c.args.trailing.now c.args.byte c.args.all.now c.args.tail.now c.name_of-name.result.now c.in-Some.value.now c.define.new.known.values.items c.define.new.known.names.here c.in-Err.fault
    c.requires.all c.requires.lexeme (sym c.in-Some.ensures) c.name_of-name.ensures
    (subst (λ s. IfErr s (λ f. (value_of_name c.args.known.now.values.items c.args.known.now.names.here c.name_of-name.result.now c.args.all.now c.in-Some.value.now ≡ Err f) × (c.define.new.known.values.items ≡ c.args.known.now.values.items) × (c.define.new.known.names.here ≡ c.args.known.now.names.here))) c.in-Err.is c.in_ok-rest.ensures.err)
