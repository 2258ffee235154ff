-- The samples of flags.
use Rattle.std.proofs.Common.{refl}
use Rattle.ir_types.specs.Readings as readings
use Rattle.dialects_int.specs.Arithmetic as numbers
use Rattle.patterns_refinement.specs.FlagSamples.{SamplesBreak}

pub samples_break : SamplesBreak
unfolding readings.signed_of readings.wrapped numbers.sum_of numbers.difference_of numbers.product_of numbers.zero_extended
samples_break = record {
  signed_sum = (refl, refl, refl);
  sum = (refl, refl);
  signed_difference = (refl, refl);
  difference = (refl, refl);
  signed_product = (refl, refl);
  product = (refl, refl);
  signed_shift = (refl, refl);
  shift = (refl, refl);
  signed_quotient = (refl, refl);
  quotient = (refl, refl);
  signed_shift_right = (refl, refl);
  shift_right = (refl, refl);
  signed_cut = (refl, refl);
  cut = (refl, refl);
  others = (refl, refl);
}
