use Rattle.std.proofs.Common.{◌+◌, ◌≤◌, length}
use Rattle.mlir_work_script_base.specs.Lines.{lines_of}
use Rattle.user_patterns_registry.specs.Registry.{registry_model}
use Rattle.mlir_work_cli.proofs.Precedings.{HasRead}
use Rattle.mlir_work_cli.proofs.reading.read_patterns.Given as goal

-- the lines before the rest are read, and each had at least one byte
abbrev pub invariant-lines : goal.invariant-lines
invariant-lines l = record {
  read : HasRead (registry_model l.initial.registry) (registry_model l.registry) (lines_of l.text) (lines_of l.rest) l.count;
  short : l.count + length l.rest ≤ length l.text;
}

abbrev pub decreases-lines : goal.decreases-lines
decreases-lines l = length l.rest
