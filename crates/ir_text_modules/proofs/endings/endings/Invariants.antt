use Rattle.std.proofs.Common.{◌≡◌, length}
use Rattle.ir_text_modules.specs.Endings.{endings}
use Rattle.ir_text_modules.proofs.endings.endings.Given as goal

abbrev pub invariant-lexemes : goal.invariant-lexemes
invariant-lexemes l = endings l.names.here 0 l.rest ≡ endings l.initial.names.here 0 l.bytes

abbrev pub decreases-lexemes : goal.decreases-lexemes
decreases-lexemes l = length l.rest
