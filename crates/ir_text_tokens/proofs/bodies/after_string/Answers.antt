use Rattle.std.proofs.Common.{sym, ap, ◌∙◌}
use Rattle.ir_text_tokens.specs.Tokens.{next}
use Rattle.ir_text_tokens.proofs.Parts.{after_string, no_string}
use Rattle.ir_text_tokens.proofs.bodies.after_string.Goals as goal

pub returns-in-Ok-clause-ok : goal.returns-in-Ok-clause-ok
returns-in-Ok-clause-ok c = after_string c.args.tail.now c.in-Ok.rest.now _ (ap next (sym c.requires.all) ∙ c.in-Ok.ensures.token)

pub returns-in-Err-clause-err : goal.returns-in-Err-clause-err
returns-in-Err-clause-err c = no_string c.args.tail.now (ap next (sym c.requires.all) ∙ c.in-Err.ensures.token)
