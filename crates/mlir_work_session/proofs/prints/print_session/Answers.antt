use Rattle.ir_event.specs.trees.Meaning.{meaning}
use Rattle.mlir_work_session.proofs.Printing.{prints_ran}
use Rattle.mlir_work_session.proofs.prints.print_session.Goals as goal

pub returns : goal.returns
returns g c setting start next unend = prints_ran g.L.Analysis.meaning setting start unend c.args.boxes.now (record { tree = meaning c.args.ctx.now c.args.tree.now; next = next }) c.args.script.now (g.W.Sink.stream c.args.writer.now) (g.W.Sink.stream c.print_lines.new.writer) c.print_lines.result c.requires.short c.requires.apart (λ panel. c.print_lines.ensures setting start next panel unend)
