use Rattle.std.proofs.Common.{◌≡◌, ◌+◌, ◌++◌, length}
use Rattle.ir_text_names.specs.BlockReading.{results_of}
use Rattle.ir_text_names.proofs.results.many_results.Given as goal

abbrev pub invariant-types : goal.invariant-types
invariant-types l = record {
  made : l.values.items ++ results_of l.id l.next l.rest ≡ results_of l.id l.place l.types;
  place : l.next + length l.rest ≡ l.place + length l.types;
}

abbrev pub decreases-types : goal.decreases-types
decreases-types l = length l.rest
