use Rattle.std.proofs.Common.{◌∙◌, ◌≡◌, ◌≤◌, ◌+◌, ◌-◌, ◌%◌, ◌^◌, ap, sym, arith}
use Rattle.std.specs.Prelude.{bit_and}
use Rattle.dialects_int.specs.Arithmetic.{difference_of}
use Rattle.dialects_int.proofs.Widths.{masked}
use Rattle.patterns_matchers.proofs.Bits.{negated_is, no_width}
use Rattle.patterns_matchers.proofs.types.negated_bits.Goals as goal

pub returns-then-width-eq0 : goal.returns-then-width-eq0
returns-then-width-eq0 c =
    let at : c.args.bits ≤ 2 ^ 128 = omega arith in
    no_width c.args.bits at ∙ ap (λ w. difference_of w 0 c.args.bits) (sym c.if-width-eq0.true)

pub returns-else-width-eq0 : goal.returns-else-width-eq0
returns-else-width-eq0 c =
    let at : c.args.bits ≤ 2 ^ 128 = omega arith in
    let less : 0 + (2 ^ 128 - c.args.bits) ≡ 2 ^ 128 - c.args.bits = omega arith in
    ap (bit_and ((0 + (2 ^ 128 - c.args.bits)) % 2 ^ 128)) c.mask.ensures ∙ masked (0 + (2 ^ 128 - c.args.bits)) c.args.width c.requires ∙ ap (λ n. n % 2 ^ c.args.width) less ∙ sym (negated_is c.args.width c.args.bits c.requires at)
