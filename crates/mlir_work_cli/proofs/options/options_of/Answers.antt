use Rattle.std.proofs.Common.{Some, map}
use Rattle.clap.specs.Words.{found_of, rows_of}
use Rattle.mlir_work_cli.proofs.Program.{accepted_consistent, accepted_takes, line_given}
use Rattle.mlir_work_cli.proofs.options.options_of.Goals as goal

pub returns-in-Err-clause-passes : goal.returns-in-Err-clause-passes
returns-in-Err-clause-passes c = λ accepted. c.worded.ensures (c.in-Err.ensures.passes (accepted_takes (map (λ w. w.bytes.items) c.args.words.now) accepted))

pub returns-in-Some-clause-read : goal.returns-in-Some-clause-read
returns-in-Some-clause-read c = line_given (map (λ w. w.bytes.items) c.args.words.now) (rows_of (found_of c.in-Ok.matches)) (Some c.in-Some.line) c.in-Ok.ensures.found (rw c.in-Some.is at c.in_ok-line.ensures)

pub returns-clause-passes : goal.returns-clause-passes
returns-clause-passes c = λ accepted. absurd (accepted_consistent (map (λ w. w.bytes.items) c.args.words.now) (rows_of (found_of c.in-Ok.matches)) c.in-Ok.ensures.found accepted (rw c.in-None.is at c.in_ok-line.ensures))
