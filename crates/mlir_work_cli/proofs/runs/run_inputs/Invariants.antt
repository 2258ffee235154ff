use Rattle.std.proofs.Common.{length, map}
use Rattle.mlir_work_cli.proofs.FileLists.{RunWith}
use Rattle.mlir_work_cli.proofs.runs.run_inputs.Given as goal

-- with the greatest status of the remaining inputs, the greatest so far is that of all inputs
abbrev pub invariant-inputs : goal.invariant-inputs
invariant-inputs g l = RunWith g.R.Runs.ends (map (λ i. i.items) l.inputs) (map (λ i. i.items) l.rest) l.worst

abbrev pub decreases-inputs : goal.decreases-inputs
decreases-inputs g l = length l.rest
