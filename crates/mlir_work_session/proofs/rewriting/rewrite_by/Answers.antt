use Rattle.std.proofs.Common.{inr, map}
use Rattle.mlir_work_transforms.specs.Transforming.{set_of, transformation_of}
use Rattle.mlir_work_transforms.specs.greedy.Tracing.{trace_of}
use Rattle.mlir_work_transforms.specs.rewriter.RewriterCalls.{state_of}
use Rattle.mlir_work_session.proofs.Headroom.{replied, widened}
use Rattle.mlir_work_session.proofs.Rewritten.{follows_called, shows_lines}
use Rattle.mlir_work_session.proofs.rewriting.rewrite_by.Goals as goal

pub returns-clause-follows : goal.returns-clause-follows
returns-clause-follows g c = follows_called _ _ _ _ _ c.rewrite_reply.ensures.reply c.transform-called.ensures.does

pub returns-clause-shows : goal.returns-clause-shows
returns-clause-shows g c =
    shows_lines c.args.lines.form _ _ c.args.lines.text.items _ _ (map (λ n. n.items) c.args.lines.names.items) (trace_of (set_of c.args.rules.now) c.args.lines.limit (state_of g.L.Analysis.meaning c.args.bench.now).held)
    c.rewrite_reply.ensures.reply c.transform-called.ensures.reported c.rewrite_reply.ensures.shows

pub returns-clause-headroom : goal.returns-clause-headroom
returns-clause-headroom g c = replied _ (state_of g.L.Analysis.meaning c.args.bench.now) (transformation_of c.args.rules.now c.args.lines.limit) _ _ c.rewrite_reply.ensures.reply (λ e. widened (λ more. inr more) (c.transform-called.ensures.headroom e))

pub returns-clause-kept : goal.returns-clause-kept
returns-clause-kept g c = c.led_benches_are_kept.ensures.kept _ _ c.transform-called.ensures.led c.requires.kept

pub returns-clause-mode : goal.returns-clause-mode
returns-clause-mode g c = c.transform-called.ensures.grows.opaque
