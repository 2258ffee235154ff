use Rattle.std.proofs.Common.{◌≡◌, ℕ, ◌<◌, ◌^◌, true, [], Option, Some, None, IfSome, sym, arith}
use Rattle.std.proofs.lemmas.Bool.Decides.{nat_tests}
use Rattle.std.specs.Prelude.{nat_lt}
use Rattle.ir_types.specs.Readings.{literal_bits}
use Rattle.ir_types.proofs.ReadingLaws.{literal_is_bits}
use Rattle.ir_text_attributes.specs.Elements.{bits_of, type_of}
use Rattle.ir_text_attributes.proofs.dense.literal_in.Goals as goal
use Rattle.std.proofs.lemmas.Bool.{ltb-true}

pub returns-clause-bits : goal.returns-clause-bits
returns-clause-bits c = rw c.bits_of.ensures.bits at c.literal_bits.ensures []

pub returns-clause-below : goal.returns-clause-below
returns-clause-below c = by_bits c.literal_bits.result (rw c.bits_of.ensures.bits at c.literal_bits.ensures [])
  where
    by_bits : (o : Option ℕ) → o ≡ literal_bits (type_of c.args.element.now) c.args.negative c.args.magnitude → IfSome o (λ bits. bits < 2 ^ bits_of c.args.element.now)
    by_bits None e = tt
    by_bits (Some bits) e = ltb-true bits (2 ^ bits_of c.args.element.now) (literal_is_bits (type_of c.args.element.now) c.args.negative c.args.magnitude bits (sym e))
