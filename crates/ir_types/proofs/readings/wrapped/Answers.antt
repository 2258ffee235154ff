use Rattle.std.proofs.Common.{arith, ◌≤ℤ◌, ◌<ℤ◌, pos}
use Rattle.std.proofs.lemmas.Int.{ints}
use Rattle.ir_types.proofs.Widths.{cut_low, cut_high}
use Rattle.ir_types.proofs.readings.wrapped.Goals as goal

pub returns-then-number-ge0-clause-value : goal.returns-then-number-ge0-clause-value
returns-then-number-ge0-clause-value c =
    let h : pos 0 ≤ℤ c.args.number = omega (arith, ints) in
    rw (c.mask-mask.ensures) (cut_low c.args.width c.args.number c.ranges.number h)

pub returns-else-number-ge0-clause-value : goal.returns-else-number-ge0-clause-value
returns-else-number-ge0-clause-value c =
    let h : c.args.number <ℤ pos 0 = omega (arith, ints) in
    rw (c.mask-mask.ensures) (cut_high c.args.width c.args.number c.ranges.number h)
