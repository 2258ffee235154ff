use Rattle.std.proofs.Common.{ℕ, Vec, Global, map}
use Rattle.mlir_work_json.proofs.Printed.{cut_off, none_so}
use Rattle.mlir_work_json.proofs.printer.JsonLines.into_inner.Goals as goal

pub returns-clause-cut : goal.returns-clause-cut
returns-clause-cut g c rest =
    cut_off (g.W.Sink.stream c.args.self.start.value) (g.W.Sink.stream c.args.self.inner) (map (λ (l : Vec ℕ Global). l.items) c.args.self.lines.items) c.args.self.broken c.args.self.refused c.args.self.failed rest c.args.self.printed

pub returns-clause-none : goal.returns-clause-none
returns-clause-none g c empty unreported =
    none_so (g.W.Sink.stream c.args.self.start.value) (g.W.Sink.stream c.args.self.inner) (map (λ (l : Vec ℕ Global). l.items) c.args.self.lines.items) c.args.self.line.items c.args.self.broken c.args.self.refused c.args.self.failed c.args.self.printed empty unreported
