use Rattle.std.proofs.Common.{true, None}
use Rattle.mlir_work_session.specs.Reads.{Intake}
use Rattle.mlir_work_session.specs.Writes.{Stream}
use Rattle.mlir_work_run.proofs.Ended.{unparsed}
use Rattle.mlir_work_run.proofs.run.read_and_answer.Goals as goal

pub returns-clause-unparsed : goal.returns-clause-unparsed
returns-clause-unparsed g c =
    let taken : Intake = record { remaining = g.R.Read.remaining c.args.reader.now; failed = true; interrupted = true; reads = None } in
    let left : Intake = record { remaining = g.R.Read.remaining c.read_and_answer_watched.new.reader; failed = true; interrupted = true; reads = None } in
    let old : Stream = record { contents = g.W.Write.contents c.args.writer.now; failed = true } in
    let new : Stream = record { contents = g.W.Write.contents c.read_and_answer_watched.new.writer; failed = true } in
    unparsed taken left old new true c.read_and_answer_watched.result c.read_and_answer_watched.ensures.leaves

pub returns-clause-ran : goal.returns-clause-ran
returns-clause-ran g c = rw c.new.ensures at c.read_and_answer_watched.ensures.ran
