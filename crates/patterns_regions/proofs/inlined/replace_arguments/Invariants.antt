use Rattle.std.proofs.Common.{◌≡◌, ◌++◌, drop}
use Rattle.patterns_regions.specs.Opened.{argument_edits}
use Rattle.patterns_regions.proofs.inlined.replace_arguments.Given as goal

abbrev pub invariant-loop-value : goal.invariant-loop-value
invariant-loop-value l = l.out.items ++ argument_edits l.op l.number (drop l.value-index l.values) ≡ l.initial.out.items ++ argument_edits l.op 0 l.values
