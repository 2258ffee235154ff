use Rattle.std.proofs.Common.{◌≡◌, ◌*◌, ◌+◌, ◌-◌}
use Rattle.ir_text_tokens.specs.declared.token.Mark.TheVariants.{CloseRound}
use Rattle.user_patterns_text.specs.Grammar.{most}
use Rattle.user_patterns_text.specs.Parts.{views}
use Rattle.user_patterns_text.specs.Reading.{listed_at, more_at, term_at}
use Rattle.user_patterns_text.proofs.terms.+term.Given as goal

abbrev pub decreases-term : goal.decreases-term
decreases-term l = 5 * l.depth

abbrev pub decreases-terms : goal.decreases-terms
decreases-terms l = 5 * l.depth + 1

abbrev pub decreases-operands : goal.decreases-operands
decreases-operands l = 5 * l.depth + 2

abbrev pub decreases-operation : goal.decreases-operation
decreases-operation l = 5 * l.depth + 3

abbrev pub decreases-term_after : goal.decreases-term_after
decreases-term_after l = 5 * l.depth + 4

abbrev pub invariant-terms-items : goal.invariant-terms-items
invariant-terms-items l =
    more_at CloseRound (term_at l.left l.depth) (most - l.counter) (views l.parts.items, l.rest)
    ≡ listed_at CloseRound (term_at l.left l.depth) most (views l.initial.parts.items, l.bytes)
