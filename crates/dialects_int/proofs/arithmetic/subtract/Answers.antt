use Rattle.std.proofs.Common.{◌≤◌, ◌∙◌, ◌+◌, ◌-◌, ◌^◌, arith, sym}
use Rattle.dialects_int.proofs.Widths.{masked, less_at, difference_is}
use Rattle.dialects_int.proofs.arithmetic.subtract.Goals as goal

pub returns-clause-value : goal.returns-clause-value
returns-clause-value c =
    let w = c.args.width in
    let h : c.args.b ≤ 2 ^ w = omega arith in
    rw c.mask.ensures (masked (c.args.a + (2 ^ 128 - c.args.b)) w c.requires.high ∙ less_at c.args.a c.args.b w c.requires.high h ∙ sym (difference_is w c.args.a c.args.b h))
