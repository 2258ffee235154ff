use Rattle.std.proofs.Common.{sym, ap, ◌∙◌}
use Rattle.ir_text_modules.specs.Definitions.{value_up_to}
use Rattle.ir_text_modules.proofs.definitions.value.Goals as goal

pub returns-in-None-clause-ok : goal.returns-in-None-clause-ok
returns-in-None-clause-ok c =
    ap (value_up_to c.args.known.now.values.items c.args.known.now.names.here c.args.bytes.now) (sym c.in-Ok.ensures)
    ∙ c.in_ok-closed_value-in-Ok.ensures.ok c.in-None.is

pub returns-in-Some-clause-err : goal.returns-in-Some-clause-err
returns-in-Some-clause-err c =
    ap (value_up_to c.args.known.now.values.items c.args.known.now.names.here c.args.bytes.now) (sym c.in-Ok.ensures)
    ∙ c.in_ok-closed_value-in-Ok.ensures.err c.in-Some.fault c.in-Some.is
