use Rattle.std.proofs.Common.{◌≡◌, length}
use Rattle.ir_text_modules.specs.Definitions.{definitions}
use Rattle.ir_text_modules.proofs.definitions.definitions.Given as goal

abbrev pub invariant-lexemes : goal.invariant-lexemes
invariant-lexemes l =
    definitions l.known.values.items l.known.names.here l.trailing 0 l.rest
    ≡ definitions l.initial.known.values.items l.initial.known.names.here l.bytes 0 l.bytes

abbrev pub decreases-lexemes : goal.decreases-lexemes
decreases-lexemes l = length l.rest
