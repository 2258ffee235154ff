use Rattle.std.proofs.Common.{◌≡◌, ◌∙◌, ◌+◌, ◌-◌, ◌<◌, ◌≤◌, ap, sym, false, length, drop, get_or, arith}
use Rattle.std.proofs.lemmas.List.{length-drop}
use Rattle.ir_verify.specs.Sets.{packed, with_bit}
use Rattle.ir_verify.proofs.Sets.{packed_drop, packed_below}
use Rattle.ir_verify.proofs.rules.RuleSet.of.Goals as goal

pub with_bit-bits-requires : goal.with_bit-bits-requires
with_bit-bits-requires c =
    let within : length (drop c.loop-place.place c.args.held.now) ≤ 24 = (let e = length-drop c.loop-place.place c.args.held.now in let k = c.requires in omega arith) in
    let below = packed_below 24 (drop c.loop-place.place c.args.held.now) within in
    let bits = c.loop-place.invariant.bits in
    omega arith

pub loop-place-preserved : goal.loop-place-preserved
loop-place-preserved c =
    let held = c.args.held.now in
    let place = c.loop-place.place in
    let positive = c.loop-place-test.true in
    let within = c.loop-place.invariant.within in
    let below : place - 1 < length held = omega arith in
    let again : place ≡ place - 1 + 1 = omega arith in
    record {
      within = omega arith;
      bits = c.with_bit-bits.ensures ∙ ap (with_bit (get_or held (place - 1) false)) (c.loop-place.invariant.bits ∙ ap (λ k. packed (drop k held)) again) ∙ sym (packed_drop held (place - 1) false below);
    }
