use Rattle.std.proofs.Common.{◌≡◌, ◌∙◌, ◌%◌, ◌^◌, get_or, bit_and, ap}
use Rattle.std.proofs.lemmas.Nat.{and_mask}
use Rattle.user_patterns_widths.specs.SampledValues.{chosen}
use Rattle.user_patterns_widths.proofs.Wide.{chosen_near}
use Rattle.user_patterns_widths.proofs.sampled_values.near_value.Goals as goal

pub returns-then-number-near : goal.returns-then-number-near
returns-then-number-near c =
    let near = c.args.near.now in
    let w = c.args.width in
    let number = c.choice-number.result in
    let masked : bit_and (get_or near number 0) c.mask.result ≡ get_or near number 0 % 2 ^ w = rw c.mask.ensures (and_mask (get_or near number 0) w) in
    masked ∙ chosen_near near w c.args.case c.args.place number c.if-number-near.true ∙ ap (chosen near w c.args.case c.args.place) c.choice-number.ensures
