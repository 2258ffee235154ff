use Rattle.std.proofs.Common.{◌≡◌, length}
use Rattle.std.specs.List.{All}
use Rattle.ir_event.specs.types.Things.{IsName, IsAttr}
use Rattle.dialects_int.specs.Folds.{entries_of}
use Rattle.patterns_matchers.specs.Numbers.{predicate_among}
use Rattle.patterns_matchers.proofs.predicates.predicate_among.Given as goal

abbrev pub invariant-entries : goal.invariant-entries
invariant-entries l = record {
  numbers : All (λ e. IsName l.ctx e.0 × IsAttr l.ctx e.1) l.rest;
  left : predicate_among (entries_of l.ctx l.rest) ≡ predicate_among (entries_of l.ctx l.fn.entries);
}

abbrev pub decreases-entries : goal.decreases-entries
decreases-entries l = length l.rest
