use Rattle.std.proofs.Common.{◌≡◌, length, map}
use Rattle.ir_types.specs.Terms.{name_term}
use Rattle.ir_types.specs.WordNames.{word_bytes}
use Rattle.ir_verify.specs.PlaceRules.{is_one}
use Rattle.ir_verify.proofs.place_rules.is_one.Given as goal

abbrev pub invariant-loop-rest : goal.invariant-loop-rest
invariant-loop-rest l = is_one (name_term l.ctx l.name) (map word_bytes l.rest) ≡ is_one (name_term l.ctx l.name) (map word_bytes l.fn.names)

abbrev pub decreases-loop-rest : goal.decreases-loop-rest
decreases-loop-rest l = length l.rest
