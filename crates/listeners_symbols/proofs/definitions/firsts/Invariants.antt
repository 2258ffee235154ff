use Rattle.std.proofs.Common.{◌≡◌, ℕ, eqb, length}
use Rattle.ir_event.specs.trees.Ids.{first_of}
use Rattle.listeners_symbols.specs.Symbols.{first_defined}
use Rattle.listeners_symbols.specs.Lines.{first_in}
use Rattle.listeners_symbols.proofs.definitions.firsts.Given as goal

abbrev pub invariant-loop-rest : goal.invariant-loop-rest
invariant-loop-rest l = (table name : ℕ) → first_of (first_in l.first table name) (first_defined eqb table name l.rest) ≡ first_defined eqb table name l.fn.list

abbrev pub decreases-loop-rest : goal.decreases-loop-rest
decreases-loop-rest l = length l.rest
