use Rattle.std.proofs.Common.{sym, ◌∙◌}
use Rattle.dialects_int.proofs.Quotients.{divides_at}
use Rattle.dialects_int.proofs.arithmetic.remainder_signed.Goals as goal

pub nonzero_rem-dividend : goal.nonzero_rem-dividend
nonzero_rem-dividend c = divides_at c.args.width c.args.a c.args.b c.signed_number-dividend.result c.signed_number-divisor.result c.requires.low c.requires.high c.requires.left c.requires.right (sym c.divides.ensures ∙ c.if-not-divides.false) c.signed_number-dividend.ensures c.signed_number-divisor.ensures
