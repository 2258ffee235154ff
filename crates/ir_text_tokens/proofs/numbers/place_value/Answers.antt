use Rattle.std.proofs.Common.{◌+◌, ◌*◌, ◌^◌, ◌≤◌, get_or, sym, ap, ◌∙◌, arith}
use Rattle.ir_text_tokens.specs.Strings.{hex_value}
use Rattle.ir_text_tokens.specs.Numbers.{below_limit}
use Rattle.ir_text_tokens.proofs.Places.{next_place, stays_big, no_places, is_below}
use Rattle.ir_text_tokens.proofs.numbers.place_value.Goals as goal

pub returns-in_err-number : goal.returns-in_err-number
returns-in_err-number c =
    let n = c.digits.number * c.args.base + hex_value (get_or c.digits.rest.now 0 0) in
    let big : 2 ^ 128 ≤ n = omega (arith, c.in_err-number.ensures) in
    let same = next_place c.args.base c.digits.number c.digits.rest.now (omega (arith, c.in-len1-up.len_at_least)) ∙ c.digits.invariant.same in
    c.from_residual.ensures ∙ sym (ap below_limit (sym same) ∙ stays_big c.args.base n _ _ c.requires big)

pub digits-preserved : goal.digits-preserved
digits-preserved c =
    let h = c.in_ok-number.ensures in
    record {
      same = rw h.1 (next_place c.args.base c.digits.number c.digits.rest.now (omega (arith, c.in-len1-up.len_at_least)) ∙ c.digits.invariant.same);
      below = rw h.1 h.0;
    }

pub returns : goal.returns
returns c =
    let e = sym (no_places c.args.base c.digits.number c.digits.rest.now c.in_default.len_below) ∙ c.digits.invariant.same in
    rw (← e) (sym (is_below c.digits.number c.digits.invariant.below))
