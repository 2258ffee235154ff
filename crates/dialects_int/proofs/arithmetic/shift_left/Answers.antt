use Rattle.std.proofs.Common.{◌*◌, ◌^◌, true, ◌≡◌, nat_lt, arith, refl}
use Rattle.std.proofs.lemmas.Bool.Decides.{nat_tests}
use Rattle.dialects_int.specs.Arithmetic.{left_shift_of}
use Rattle.dialects_int.proofs.Widths.{masked}
use Rattle.dialects_int.proofs.arithmetic.shift_left.Goals as goal

pub returns-then-b-width-clause-value : goal.returns-then-b-width-clause-value
unfolding left_shift_of
returns-then-b-width-clause-value c =
    let t : nat_lt c.args.b c.args.width ≡ true = grind (arith, nat_tests) in
    rw (c.mask.ensures, masked (c.args.a * 2 ^ c.args.b) c.args.width c.requires.high, t) refl
