use Rattle.std.proofs.Common.{◌≡◌, length, map}
use Rattle.std.specs.List.{list_any}
use Rattle.ir_event.specs.types.Terms.{name_term}
use Rattle.ir_event.specs.types.WordNames.{word_bytes}
use Rattle.patterns_base.specs.Words.{named}
use Rattle.conversion_base.proofs.target_checks.has_word.Given as goal

abbrev pub invariant-names : goal.invariant-names
invariant-names l = list_any (named (word_bytes l.word)) (map (name_term l.ctx) l.rest) ≡ list_any (named (word_bytes l.word)) (map (name_term l.ctx) l.fn.names)

abbrev pub decreases-names : goal.decreases-names
decreases-names l = length l.rest
