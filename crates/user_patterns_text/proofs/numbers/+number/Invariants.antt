use Rattle.std.proofs.Common.{◌≡◌, ◌*◌, ◌+◌, ◌-◌}
use Rattle.ir_text_tokens.specs.declared.token.Mark.TheVariants.{CloseRound}
use Rattle.user_patterns_text.specs.Grammar.{most}
use Rattle.user_patterns_text.specs.Parts.{views}
use Rattle.user_patterns_text.specs.Reading.{more_at, number_at}
use Rattle.user_patterns_text.proofs.numbers.+number.Given as goal

abbrev pub decreases-parse_number : goal.decreases-parse_number
decreases-parse_number l = 4 * l.depth

abbrev pub decreases-numbers : goal.decreases-numbers
decreases-numbers l = 4 * l.depth + 1

abbrev pub decreases-call : goal.decreases-call
decreases-call l = 4 * l.depth + 2

abbrev pub decreases-number_after : goal.decreases-number_after
decreases-number_after l = 4 * l.depth + 3

abbrev pub invariant-numbers-items : goal.invariant-numbers-items
invariant-numbers-items l =
    more_at CloseRound (number_at l.depth) (most - l.counter) (views l.parts.items, l.rest)
    ≡ more_at CloseRound (number_at l.depth) most (views l.initial.parts.items, l.bytes)
