use Rattle.std.proofs.Common.{◌≡◌, ◌++◌, drop}
use Rattle.patterns_regions.specs.Opened.{result_edits}
use Rattle.patterns_regions.proofs.inlined.replace_results.Given as goal

abbrev pub invariant-loop-value : goal.invariant-loop-value
invariant-loop-value l = l.out.items ++ result_edits l.op l.values l.number (drop l.value-index l.handed) ≡ l.initial.out.items ++ result_edits l.op l.values 0 l.handed
