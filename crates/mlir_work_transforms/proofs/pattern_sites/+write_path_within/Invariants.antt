use Rattle.mlir_work_transforms.proofs.pattern_sites.+write_path_within.Given as goal

abbrev pub decreases-write_path_within : goal.decreases-write_path_within
decreases-write_path_within l = l.levels
