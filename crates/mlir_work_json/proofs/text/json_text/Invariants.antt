use Rattle.std.proofs.Common.{◌≡◌, ◌++◌, length}
use Rattle.mlir_work_json.specs.Cuts.{parts}
use Rattle.mlir_work_json.specs.Lines.{json_lines}
use Rattle.mlir_work_script_base.specs.Lines.{is_newline}
use Rattle.mlir_work_json.proofs.text.json_text.Given as goal

-- the lines so far, followed by the lines of the rest, are those of the whole output
abbrev pub invariant-loop-rest : goal.invariant-loop-rest
invariant-loop-rest l = l.json.items ++ json_lines (parts is_newline l.rest) ≡ json_lines (parts is_newline l.fn.output)

abbrev pub decreases-loop-rest : goal.decreases-loop-rest
decreases-loop-rest l = length l.rest
