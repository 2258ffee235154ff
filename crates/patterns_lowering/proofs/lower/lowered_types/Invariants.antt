use Rattle.std.proofs.Common.{◌≡◌, ◌++◌, length, map, true}
use Rattle.std.specs.List.{list_all}
use Rattle.ir_event.specs.trees.Meaning.{is_type}
use Rattle.patterns_lowering.specs.Numbers.{type_lowered}
use Rattle.patterns_lowering.proofs.lower.lowered_types.Given as goal

abbrev pub invariant-types : goal.invariant-types
invariant-types l = record { made : l.lowered.items ++ map (type_lowered l.fn.ctx l.fn.wide) l.rest ≡ map (type_lowered l.fn.ctx l.fn.wide) l.fn.types; known : list_all (is_type l.fn.ctx) l.rest ≡ true }

abbrev pub decreases-types : goal.decreases-types
decreases-types l = length l.rest
