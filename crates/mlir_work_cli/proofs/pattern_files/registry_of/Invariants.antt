use Rattle.std.proofs.Common.{◌≡◌, ◌+◌, [], length, map}
use Rattle.user_patterns_registry.specs.Registry.{registry_model}
use Rattle.mlir_work_cli.specs.Inputs.{all_lines}
use Rattle.mlir_work_cli.specs.Patterns.{defined_by}
use Rattle.mlir_work_cli.proofs.pattern_files.registry_of.Given as goal

-- the registry with the patterns of the remaining files is the empty registry with the patterns of all files
abbrev pub invariant-files : goal.invariant-files
invariant-files l = record {
  read : defined_by (registry_model l.registry) (all_lines (map (λ f. f.text.items) l.rest)) ≡ defined_by [] (all_lines (map (λ f. f.text.items) l.files));
  count : l.file + length l.rest ≡ length l.files;
}

abbrev pub decreases-files : goal.decreases-files
decreases-files l = length l.rest
