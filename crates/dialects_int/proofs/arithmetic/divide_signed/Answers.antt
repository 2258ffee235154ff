use Rattle.std.proofs.Common.{true, ◌≡◌, sym, ap, ◌∙◌, Some}
use Rattle.ir_types.specs.Readings.{wrapped}
use Rattle.dialects_int.specs.Arithmetic.{divides_signed, signed_quotient_of}
use Rattle.dialects_int.proofs.Quotients.{divides_at, quotient_at}
use Rattle.dialects_int.proofs.arithmetic.divide_signed.Goals as goal

pub nonzero_div-dividend : goal.nonzero_div-dividend
nonzero_div-dividend c = divides_at c.args.width c.args.a c.args.b c.signed_number-dividend.result c.signed_number-divisor.result c.requires.low c.requires.high c.requires.left c.requires.right (sym c.divides.ensures ∙ c.if-not-divides.false) c.signed_number-dividend.ensures c.signed_number-divisor.ensures

pub returns-clause-value : goal.returns-clause-value
unfolding signed_quotient_of
returns-clause-value c =
    let can : divides_signed c.args.width c.args.a c.args.b ≡ true = sym c.divides.ensures ∙ c.if-not-divides.false in
    let q = quotient_at c.args.width c.args.a c.args.b c.signed_number-dividend.result c.signed_number-divisor.result c.requires.low c.requires.high c.requires.left c.requires.right can c.signed_number-dividend.ensures c.signed_number-divisor.ensures in
    rw can (ap Some (c.wrapped.ensures.value ∙ ap (wrapped c.args.width) q))
