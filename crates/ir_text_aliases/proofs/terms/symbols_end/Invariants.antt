use Rattle.std.proofs.Common.{◌≡◌}
use Rattle.ir_text_aliases.specs.Terms.{symbols_end}
use Rattle.ir_text_aliases.proofs.terms.symbols_end.Given as goal

abbrev pub invariant-symbols : goal.invariant-symbols
invariant-symbols l = symbols_end l.headroom l.rest ≡ symbols_end l.most l.bytes

abbrev pub decreases-symbols : goal.decreases-symbols
decreases-symbols l = l.headroom
