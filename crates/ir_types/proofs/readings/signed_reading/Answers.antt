use Rattle.std.proofs.Common.{◌≡◌, ◌^◌, ◌-◌, arith, refl}
use Rattle.ir_types.proofs.Widths.{halves, signed_low, high_is, past_is}
use Rattle.ir_types.proofs.readings.signed_reading.Goals as goal

pub returns-then-bits-half-clause-negative : goal.returns-then-bits-half-clause-negative
returns-then-bits-half-clause-negative c = rw (signed_low c.args.width c.args.bits (omega arith)) c.unsigned_reading.ensures.negative

pub returns-then-bits-half-clause-magnitude : goal.returns-then-bits-half-clause-magnitude
returns-then-bits-half-clause-magnitude c = rw (signed_low c.args.width c.args.bits (omega arith)) c.unsigned_reading.ensures.magnitude

pub returns-then-above-half-clause-negative : goal.returns-then-above-half-clause-negative
returns-then-above-half-clause-negative c = let two = halves c.args.width c.requires.low in rw (high_is c.args.width c.args.bits (omega arith) (omega arith)) refl

pub returns-then-above-half-clause-magnitude : goal.returns-then-above-half-clause-magnitude
returns-then-above-half-clause-magnitude c = let two = halves c.args.width c.requires.low in rw (high_is c.args.width c.args.bits (omega arith) (omega arith)) (omega arith)

pub returns-else-above-half-clause-negative : goal.returns-else-above-half-clause-negative
returns-else-above-half-clause-negative c =
    let two = halves c.args.width c.requires.low in
    let past : c.args.bits - c.half-half.result - c.half-half.result ≡ c.args.bits - 2 ^ c.args.width = omega arith in
    rw (past_is c.args.width c.args.bits c.requires.low (omega arith), ← past) c.unsigned_reading-else-above-half.ensures.negative

pub returns-else-above-half-clause-magnitude : goal.returns-else-above-half-clause-magnitude
returns-else-above-half-clause-magnitude c =
    let two = halves c.args.width c.requires.low in
    let past : c.args.bits - c.half-half.result - c.half-half.result ≡ c.args.bits - 2 ^ c.args.width = omega arith in
    rw (past_is c.args.width c.args.bits c.requires.low (omega arith), ← past) c.unsigned_reading-else-above-half.ensures.magnitude
