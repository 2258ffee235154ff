use Rattle.std.proofs.Common.{◌≡◌, ◌++◌, length, map, true}
use Rattle.std.specs.List.{list_all}
use Rattle.ir_event.specs.types.Terms.{type_term}
use Rattle.ir_event.specs.trees.Meaning.{is_type}
use Rattle.patterns_soundness.specs.base.Lowering.{indices}
use Rattle.patterns_lowering.proofs.index.indices.Given as goal

abbrev pub invariant-types : goal.invariant-types
invariant-types l = record { made : l.marks.items ++ indices (map (type_term l.fn.ctx) l.rest) ≡ indices (map (type_term l.fn.ctx) l.fn.types); known : list_all (is_type l.fn.ctx) l.rest ≡ true }

abbrev pub decreases-types : goal.decreases-types
decreases-types l = length l.rest
