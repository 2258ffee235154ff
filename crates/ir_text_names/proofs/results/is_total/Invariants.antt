use Rattle.std.proofs.Common.{◌≡◌, length, map}
use Rattle.std.specs.Prelude.{◌==◌}
use Rattle.ir_text_names.specs.Packs.{counts, named_view}
use Rattle.ir_text_names.proofs.results.is_total.Given as goal

abbrev pub invariant-names : goal.invariant-names
invariant-names l = (counts (map named_view l.rest) == l.left) ≡ (counts (map named_view l.results) == l.wanted)

abbrev pub decreases-names : goal.decreases-names
decreases-names l = length l.rest
