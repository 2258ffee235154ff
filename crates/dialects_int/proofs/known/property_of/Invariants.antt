use Rattle.std.proofs.Common.{◌≡◌, length}
use Rattle.std.specs.List.{All}
use Rattle.ir_types.specs.Things.{IsAttr}
use Rattle.ir_types.specs.WordNames.{word_bytes}
use Rattle.dialects_int.specs.Folds.{entries_of, property_of}
use Rattle.dialects_int.proofs.known.property_of.Given as goal

abbrev pub invariant-loop-rest : goal.invariant-loop-rest
invariant-loop-rest l = record {
  numbers : All (λ e. IsAttr l.ctx e.1) l.rest;
  left : property_of (word_bytes l.key) (entries_of l.ctx l.rest) ≡ property_of (word_bytes l.key) (entries_of l.ctx l.fn.props);
}

abbrev pub decreases-loop-rest : goal.decreases-loop-rest
decreases-loop-rest l = length l.rest
