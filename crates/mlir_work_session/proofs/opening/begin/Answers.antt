use Rattle.std.proofs.Common.{◌++◌, [], refl, ap}
use Rattle.mlir_work_transforms.specs.rewriter.Held.{TransactionModel, module_held}
use Rattle.mlir_work_transforms.specs.rewriter.Panels.{all_shown}
use Rattle.mlir_work_script_base.proofs.Joins.{preceding_join, preceding_more, grows_join}
use Rattle.mlir_work_session.specs.Output.{end_of}
use Rattle.mlir_work_session.proofs.Reading.{begun_state}
use Rattle.mlir_work_session.proofs.opening.begin.Goals as goal

pub returns-in-Err-clause-begun : goal.returns-in-Err-clause-begun
returns-in-Err-clause-begun g c =
    let had = rw c.requires.none at c.in-Err.ensures.attached in (
      record { held = module_held c.args.bench.now.transaction; marks = []; panel = had.0 },
      had.1,
      had.2 ++ end_of c.args.ends,
      record { panel = had.0; preceding = had.2; attached = had.3; state_is = refl; out_is = refl },
      preceding_more (g.W.Sink.stream c.args.writer.now) (g.W.Sink.stream c.attach_all.new.writer) had.2 (end_of c.args.ends) had.4,
    )

pub returns-in-Ok-write_end-clause-begun : goal.returns-in-Ok-write_end-clause-begun
returns-in-Ok-write_end-clause-begun g c =
    let had = rw c.requires.none at c.in-Ok.ensures.attached in (
      had.0 ++ end_of c.args.ends,
      record {
        panel = all_shown g.L.Analysis.meaning c.attach_all.new.bench.listeners;
        preceding = had.0;
        attached = had.1;
        state_is = begun_state g.L.Analysis.meaning c.args.bench.now c.attach_all.new.bench c.attach_all.ensures.transaction c.requires.unmarked;
        out_is = refl;
      },
      grows_join (g.W.Sink.stream c.args.writer.now) (g.W.Sink.stream c.attach_all.new.writer) (g.W.Sink.stream c.write_end.new.writer) had.0 (end_of c.args.ends) had.2 c.in-Ok-write_end.ensures,
    )

pub returns-in-Err-write_end-clause-begun : goal.returns-in-Err-write_end-clause-begun
returns-in-Err-write_end-clause-begun g c =
    let had = rw c.requires.none at c.in-Ok.ensures.attached in (
      record { held = module_held c.args.bench.now.transaction; marks = []; panel = all_shown g.L.Analysis.meaning c.attach_all.new.bench.listeners },
      c.in-Ok.accepted,
      had.0 ++ end_of c.args.ends,
      record { panel = all_shown g.L.Analysis.meaning c.attach_all.new.bench.listeners; preceding = had.0; attached = had.1; state_is = refl; out_is = refl },
      preceding_join (g.W.Sink.stream c.args.writer.now) (g.W.Sink.stream c.attach_all.new.writer) (g.W.Sink.stream c.write_end.new.writer) had.0 (end_of c.args.ends) had.2 c.in-Err-write_end.ensures,
    )

pub returns-in-Err-clause-mode : goal.returns-in-Err-clause-mode
returns-in-Err-clause-mode g c = ap (λ (h : TransactionModel). h.ctx.opaque) c.attach_all.ensures.transaction

pub returns-in-Ok-write_end-clause-mode : goal.returns-in-Ok-write_end-clause-mode
returns-in-Ok-write_end-clause-mode g c = ap (λ (h : TransactionModel). h.ctx.opaque) c.attach_all.ensures.transaction

pub returns-in-Err-write_end-clause-mode : goal.returns-in-Err-write_end-clause-mode
returns-in-Err-write_end-clause-mode g c = ap (λ (h : TransactionModel). h.ctx.opaque) c.attach_all.ensures.transaction
