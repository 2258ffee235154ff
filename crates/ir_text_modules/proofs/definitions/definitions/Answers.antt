use Rattle.std.proofs.Common.{sym, ◌∙◌}
use Rattle.ir_text_modules.proofs.Defining.{all_read}
use Rattle.ir_text_modules.proofs.definitions.definitions.Goals as goal

pub returns : goal.returns
returns c = sym c.lexemes.invariant ∙ all_read c.lexemes.known.values.items c.lexemes.known.names.here c.lexemes.trailing.now c.lexemes.rest.now c.in_default.len_below
