use Rattle.std.proofs.Common.{sym}
use Rattle.mlir_work_transforms.specs.rewriter.Held.{module_held}
use Rattle.mlir_work_session.proofs.Fulfilling.{fulfils_unasked}
use Rattle.mlir_work_session.proofs.why.why.Goals as goal

pub returns-in_default : goal.returns-in_default
returns-in_default g c setting =
    rw (c.reply_only.ensures.reply, c.reply_only.ensures.shows) (fulfils_unasked setting c.args.op _ _ (sym (c.in_default.ensures c.args.op (module_held c.args.bench.now.transaction))))

pub returns : goal.returns
returns g c setting = c.reasons_reply.ensures setting _ (sym (c.in-Some.ensures c.args.op (module_held c.args.bench.now.transaction)))
