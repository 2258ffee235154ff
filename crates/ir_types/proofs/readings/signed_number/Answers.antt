use Rattle.std.proofs.Common.{◌^◌, ◌-◌, ◌/◌, ◌≤◌, ◌<◌}
use Rattle.ir_types.proofs.Widths.{reads_low, reads_high}
use Rattle.ir_types.proofs.readings.signed_number.Goals as goal

pub returns-then-bits-mask : goal.returns-then-bits-mask
returns-then-bits-mask c =
    let h : c.args.bits ≤ (2 ^ c.args.width - 1) / 2 = rw (c.mask-mask.ensures) at c.if-bits-mask.true in
    reads_low c.args.width c.args.bits c.requires.low c.requires.high h

pub returns-else-bits-mask : goal.returns-else-bits-mask
returns-else-bits-mask c =
    let h : (2 ^ c.args.width - 1) / 2 < c.args.bits = rw (c.mask-mask.ensures) at c.if-bits-mask.false in
    rw (c.mask-mask.ensures) (reads_high c.args.width c.args.bits c.requires.low c.requires.high h c.requires.bits)
