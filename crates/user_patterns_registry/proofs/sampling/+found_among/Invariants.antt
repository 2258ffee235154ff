use Rattle.std.specs.Prelude.{length}
use Rattle.user_patterns_registry.proofs.sampling.+found_among.Given as goal

abbrev pub decreases-found_among : goal.decreases-found_among
decreases-found_among l = length l.widths.now
