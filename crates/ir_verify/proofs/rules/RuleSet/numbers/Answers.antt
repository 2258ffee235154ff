use Rattle.std.proofs.Common.{◌∙◌, ap, sym, append_assoc, append-nil, ◌++◌, ◌∷◌, [], ◌+◌, ◌-◌}
use Rattle.std.specs.Prelude.{◌/◌, ◌%◌, ◌==◌}
use Rattle.ir_verify.specs.Breaks.{numbers_from}
use Rattle.ir_verify.specs.Sets.{bits_of, rules_in}
use Rattle.ir_verify.proofs.Sets.{next_bit, no_bits}
use Rattle.ir_verify.proofs.rules.RuleSet.numbers.Goals as goal

pub loop-number-init : goal.loop-number-init
unfolding rules_in
loop-number-init c = ap (λ l. l ++ numbers_from 1 (bits_of 24 c.args.self.now.bits)) c.new-numbers.ensures.items

pub loop-number-preserved : goal.loop-number-preserved
loop-number-preserved c =
    let out = c.loop-number.numbers.items in
    let n = c.loop-number.number in
    let rest = c.loop-number.rest in
    let more = numbers_from (n + 1) (bits_of (25 - (n + 1)) (rest / 2)) in
    ap (λ l. l ++ more) c.in_ok-push_if.ensures ∙ append_assoc out (numbers_from n ((rest % 2 == 1) ∷ [])) more ∙ ap (λ l. out ++ l) (next_bit n rest c.loop-number-test.true) ∙ c.loop-number.invariant

pub returns : goal.returns
returns c = sym (append-nil c.loop-number.numbers.items) ∙ ap (λ l. c.loop-number.numbers.items ++ l) (sym (no_bits c.loop-number.number c.loop-number.rest c.loop-number-test.false)) ∙ c.loop-number.invariant
