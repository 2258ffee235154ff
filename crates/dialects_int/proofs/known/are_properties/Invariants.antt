use Rattle.std.proofs.Common.{◌≡◌, length}
use Rattle.std.specs.List.{All, list_all}
use Rattle.ir_types.specs.Things.{IsAttr}
use Rattle.ir_types.specs.Terms.{name_term}
use Rattle.dialects_int.specs.Folds.{entries_of, is_property}
use Rattle.dialects_int.proofs.known.are_properties.Given as goal

abbrev pub invariant-loop-rest : goal.invariant-loop-rest
invariant-loop-rest l = record {
  numbers : All (λ e. IsAttr l.ctx e.1) l.rest;
  left : list_all (is_property (name_term l.ctx l.name)) (entries_of l.ctx l.rest) ≡ list_all (is_property (name_term l.ctx l.name)) (entries_of l.ctx l.fn.props);
}

abbrev pub decreases-loop-rest : goal.decreases-loop-rest
decreases-loop-rest l = length l.rest
