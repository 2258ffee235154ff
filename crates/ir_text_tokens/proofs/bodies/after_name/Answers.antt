use Rattle.std.proofs.Common.{sym, ap, ◌∙◌}
use Rattle.ir_text_tokens.specs.Tokens.{next}
use Rattle.ir_text_tokens.proofs.Parts.{trailing_name, no_name}
use Rattle.ir_text_tokens.proofs.bodies.after_name.Goals as goal

pub returns-in-Ok : goal.returns-in-Ok
returns-in-Ok c = trailing_name c.args.byte c.args.tail.now c.in-Ok.rest.now _ c.requires.sign (ap next (sym c.requires.all) ∙ c.in-Ok.ensures.token)

pub returns-in-Err : goal.returns-in-Err
returns-in-Err c = no_name c.args.byte c.args.tail.now c.requires.sign (ap next (sym c.requires.all) ∙ c.in-Err.ensures.token)
