use Rattle.std.proofs.Common.{◌≡◌, ◌-◌}
use Rattle.ir_text_tokens.specs.declared.token.Mark.TheVariants.{CloseRound}
use Rattle.user_patterns_text.specs.Grammar.{most}
use Rattle.user_patterns_text.specs.Parts.{views}
use Rattle.user_patterns_text.specs.Reading.{more_at, type_at}
use Rattle.user_patterns_text.proofs.conditions.types.Given as goal

abbrev pub invariant-items : goal.invariant-items
invariant-items l =
    more_at CloseRound type_at (most - l.counter) (views l.parts.items, l.rest)
    ≡ more_at CloseRound type_at most (views l.initial.parts.items, l.bytes)
