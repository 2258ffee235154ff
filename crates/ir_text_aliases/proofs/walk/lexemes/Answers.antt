use Rattle.std.proofs.Common.{sym, ◌∙◌}
use Rattle.std.specs.Prelude.{reverse}
use Rattle.ir_text_aliases.proofs.Moving.{all_read}
use Rattle.ir_text_aliases.proofs.walk.lexemes.Goals as goal

pub returns : goal.returns
returns c =
    sym c.lexemes.invariant ∙ all_read c.args.part.now c.args.values.now c.args.names.now.here c.lexemes.at.scanned (reverse c.lexemes.at.outer.items) c.lexemes.rest.now c.lexemes.out.text.items c.lexemes.out.marks.items c.in_default.len_below
