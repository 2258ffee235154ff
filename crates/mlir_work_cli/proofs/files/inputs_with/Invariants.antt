use Rattle.std.proofs.Common.{◌≡◌, ◌++◌, length, map}
use Rattle.mlir_work_cli.specs.Files.{inputs_with}
use Rattle.mlir_work_cli.proofs.files.inputs_with.Given as goal

-- the inputs so far, followed by those of the remaining modules, are all inputs
abbrev pub invariant-modules : goal.invariant-modules
invariant-modules l =
    map (λ t. t.items) l.inputs.items ++ inputs_with (map (λ s. s.items) l.scripts) (map (λ m. m.items) l.rest)
    ≡ inputs_with (map (λ s. s.items) l.scripts) (map (λ m. m.items) l.modules)

abbrev pub decreases-modules : goal.decreases-modules
decreases-modules l = length l.rest
