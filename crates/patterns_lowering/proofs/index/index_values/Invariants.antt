use Rattle.std.proofs.Common.{◌≡◌, ◌++◌, length, map}
use Rattle.ir_event.specs.Modules.{module_in}
use Rattle.patterns_soundness.specs.base.Looks.{is_index_value}
use Rattle.patterns_lowering.proofs.index.index_values.Given as goal

abbrev pub invariant-values : goal.invariant-values
invariant-values l = l.marks.items ++ map (is_index_value (module_in l.fn.world).tree) l.rest ≡ map (is_index_value (module_in l.fn.world).tree) l.fn.values

abbrev pub decreases-values : goal.decreases-values
decreases-values l = length l.rest
