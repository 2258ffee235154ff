use Rattle.std.proofs.Common.{◌≡◌, eqb, length}
use Rattle.listeners_symbols.specs.Symbols.{resolve}
use Rattle.listeners_symbols.specs.Lines.{numbers_at}
use Rattle.listeners_symbols.proofs.resolve.resolve.Given as goal

abbrev pub invariant-loop-rest : goal.invariant-loop-rest
invariant-loop-rest l = resolve eqb (numbers_at l.fn.roles) l.fn.definitions l.found l.rest ≡ resolve eqb (numbers_at l.fn.roles) l.fn.definitions l.fn.table l.fn.parts

abbrev pub decreases-loop-rest : goal.decreases-loop-rest
decreases-loop-rest l = length l.rest
