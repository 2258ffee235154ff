use Rattle.std.proofs.Common.{◌≡◌, ◌∷◌, ◌+◌, ◌∙◌, ap, refl, sym, drop, add-one, get_or, true}
use Rattle.std.proofs.Math.Seq.{drop-cons}
use Rattle.std.specs.Char.{is_ascii_digit}
use Rattle.mlir_work_script_base.specs.Numbers.{number_after}
use Rattle.mlir_work_script_base.proofs.Digits.{too_great_next}
use Rattle.mlir_work_script_base.proofs.numbers.digits_value.Goals as goal

pub returns-in_default : goal.returns-in_default
returns-in_default c =
    let i = c.loop-digit.digit-index in
    let digit = get_or c.args.digits.now i 0 in
    let within = c.loop-digit-test.true in
    let step : drop i c.args.digits.now ≡ digit ∷ drop (i + 1) c.args.digits.now = rw (add-one, drop-cons c.args.digits.now i 0) refl in
    let is : is_ascii_digit digit ≡ true = sym c.is_ascii_digit.ensures.value ∙ c.if-not-is_ascii_digit.false in
    too_great_next c.loop-digit.number digit (drop (i + 1) c.args.digits.now) is c.in_default.ensures ∙ (ap (number_after c.loop-digit.number) (sym step) ∙ c.loop-digit.invariant.same)
