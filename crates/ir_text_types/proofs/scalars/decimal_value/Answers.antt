use Rattle.std.proofs.Common.{◌∙◌, Some, ap, sym}
use Rattle.ir_text_types.proofs.Widths.{two_value}
use Rattle.ir_text_types.proofs.scalars.decimal_value.Goals as goal

pub returns-in-len2 : goal.returns-in-len2
returns-in-len2 c = ap (λ n. Some n) c.two_digits.ensures ∙ sym (two_value c.args.digits.now c.in-len2.len_at_least c.in-len2.len_below c.requires.decimal c.requires.dimension_or_any)
