use Rattle.std.specs.Prelude.{length}
use Rattle.mlir_work_transforms.proofs.pattern_sites.+use_of.Given as goal

abbrev pub decreases-use_of : goal.decreases-use_of
decreases-use_of l = length l.old.now
