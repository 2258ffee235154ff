use Rattle.std.proofs.Common.{◌≡◌, ◌++◌, length}
use Rattle.std.specs.Prelude.{map}
use Rattle.mlir_work_cli.specs.Inputs.{one_script}
use Rattle.mlir_work_cli.proofs.inputs.write_scripts.Given as goal

-- the input so far, followed by the remaining scripts, is the initial input followed by all scripts
abbrev pub invariant-scripts : goal.invariant-scripts
invariant-scripts l =
    l.input.items ++ one_script (map (λ s. s.items) l.rest) ≡ l.initial.input.items ++ one_script (map (λ s. s.items) l.scripts)

abbrev pub decreases-scripts : goal.decreases-scripts
decreases-scripts l = length l.rest
