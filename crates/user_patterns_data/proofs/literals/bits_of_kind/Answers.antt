use Rattle.std.proofs.Common.{◌∙◌, ap, sym, []}
use Rattle.ir_types.specs.Bits.{type_of}
use Rattle.ir_types.specs.Readings as readings
use Rattle.user_patterns_data.proofs.literals.bits_of_kind.Goals as goal

pub returns-in-Int : goal.returns-in-Int
returns-in-Int c = c.literal_bits.ensures [] ∙ ap (λ k. readings.literal_bits (type_of k) c.args.negative c.args.magnitude) (sym c.in-Int.is)

pub returns-in-Index : goal.returns-in-Index
returns-in-Index c = c.literal_bits-in-Index.ensures [] ∙ ap (λ k. readings.literal_bits (type_of k) c.args.negative c.args.magnitude) (sym c.in-Index.is)
