use Rattle.std.proofs.Common.{◌≡◌, length, map}
use Rattle.ir_event.specs.types.Terms.{name_term}
use Rattle.ir_event.specs.types.WordNames.{word_bytes}
use Rattle.patterns_soundness.specs.base.Words.{among}
use Rattle.patterns_lowering.proofs.users.is_among.Given as goal

abbrev pub invariant-words : goal.invariant-words
invariant-words l = among (map (λ w. word_bytes w) l.rest) (name_term l.fn.ctx l.fn.name) ≡ among (map (λ w. word_bytes w) l.fn.words) (name_term l.fn.ctx l.fn.name)

abbrev pub decreases-words : goal.decreases-words
decreases-words l = length l.rest
