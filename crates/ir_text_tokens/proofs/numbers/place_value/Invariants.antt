use Rattle.std.proofs.Common.{◌≡◌, ◌+◌, ◌*◌, ◌^◌, ◌<◌, length}
use Rattle.ir_text_tokens.specs.Numbers.{place_value}
use Rattle.ir_text_tokens.proofs.numbers.place_value.Given as goal

abbrev pub invariant-digits : goal.invariant-digits
invariant-digits l = record {
  same : l.number * l.base ^ length l.rest + place_value l.base l.rest ≡ place_value l.base l.digits;
  below : l.number < 2 ^ 128;
}

abbrev pub decreases-digits : goal.decreases-digits
decreases-digits l = length l.rest
