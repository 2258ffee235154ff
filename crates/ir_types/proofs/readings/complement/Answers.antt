use Rattle.std.proofs.Common.{◌≡◌, arith, ⊎_elim}
use Rattle.ir_types.proofs.Widths.{literal_low, literal_high, literal_zero}
use Rattle.ir_types.proofs.readings.complement.Goals as goal

pub returns-then-magnitude-gt0 : goal.returns-then-magnitude-gt0
returns-then-magnitude-gt0 c = rw (c.mask.ensures, c.if-negative.true) (literal_high c.args.width c.args.magnitude c.if-magnitude-gt0.true c.requires.small)

pub returns-else-negative : goal.returns-else-negative
returns-else-negative c = ⊎_elim
    (λ h. let e : c.args.magnitude ≡ 0 = omega (arith, h.1) in rw (h.0, e) (literal_zero c.args.width))
    (λ h. rw h (literal_low c.args.width c.args.magnitude c.requires.small))
    c.else-negative.either
