use Rattle.std.proofs.Common.{◌≡◌, ◌+◌, length, map}
use Rattle.ir_text_names.specs.Packs.{counts, named_view}
use Rattle.ir_text_names.specs.BlockReading.{bind_results}
use Rattle.ir_text_names.proofs.results.bind_results.Given as goal

abbrev pub invariant-names : goal.invariant-names
invariant-names l = record {
  binds : bind_results l.id l.place (map named_view l.rest) l.others l.names ≡ bind_results l.id 0 (map named_view l.results) l.types l.fn.names;
  place : l.place + length l.others ≡ length l.types;
  total : counts (map named_view l.rest) ≡ length l.others;
}

abbrev pub decreases-names : goal.decreases-names
decreases-names l = length l.rest
