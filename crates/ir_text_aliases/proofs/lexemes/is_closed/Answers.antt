use Rattle.std.proofs.Common.{sym, ap, ◌∙◌}
use Rattle.ir_text_tokens.specs.Tokens.{next}
use Rattle.ir_text_aliases.proofs.Nesting.{closed_string, open_string}
use Rattle.ir_text_aliases.proofs.lexemes.is_closed.Goals as goal

pub returns-in-Ok : goal.returns-in-Ok
returns-in-Ok c = closed_string c.args.tail.now _ _ (ap next (sym c.requires.all) ∙ c.in-Ok.ensures.token)

pub returns-in-Err : goal.returns-in-Err
returns-in-Err c = open_string c.args.tail.now (ap next (sym c.requires.all) ∙ c.in-Err.ensures.token)
