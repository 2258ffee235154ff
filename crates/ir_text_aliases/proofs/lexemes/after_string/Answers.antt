use Rattle.std.proofs.Common.{sym, ap, ◌∙◌}
use Rattle.ir_text_tokens.specs.Tokens.{next}
use Rattle.ir_text_aliases.proofs.Parted.{after_string, open_string, at_the_end}
use Rattle.ir_text_aliases.proofs.lexemes.after_string.Goals as goal

pub returns-in-Ok : goal.returns-in-Ok
returns-in-Ok c = after_string c.args.tail.now c.in-Ok.rest.now _ (ap next (sym c.requires.all) ∙ c.in-Ok.ensures.token)

pub returns-in-Err : goal.returns-in-Err
returns-in-Err c = open_string c.args.tail.now _ (ap next (sym c.requires.all) ∙ c.in-Err.ensures.token) (at_the_end c.args.tail.now)
