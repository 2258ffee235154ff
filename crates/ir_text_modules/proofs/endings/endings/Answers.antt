use Rattle.std.proofs.Common.{sym, ◌∙◌}
use Rattle.ir_text_modules.proofs.Ending.{all_read}
use Rattle.ir_text_modules.proofs.endings.endings.Goals as goal

pub returns : goal.returns
returns c = sym (all_read c.lexemes.names.here c.lexemes.rest.now c.in_default.len_below) ∙ c.lexemes.invariant
