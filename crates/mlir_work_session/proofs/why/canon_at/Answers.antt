use Rattle.mlir_work_session.specs.Machine.{session_setting}
use Rattle.mlir_work_session.proofs.Fulfilling.{fulfils_at}
use Rattle.mlir_work_session.proofs.why.canon_at.Goals as goal

pub returns-clause-fulfils : goal.returns-clause-fulfils
returns-clause-fulfils g c supply =
    fulfils_at (session_setting supply c.args.session_options.now) c.args.op c.args.limit c.limit_of.result _ _ _ _ c.limit_of.ensures c.reply_canonical.ensures c.canonicalize_at.ensures.does

pub returns-clause-kept : goal.returns-clause-kept
returns-clause-kept g c = c.led_benches_are_kept.ensures.kept _ _ c.canonicalize_at.ensures.led c.requires

pub returns-clause-mode : goal.returns-clause-mode
returns-clause-mode g c = c.canonicalize_at.ensures.grows.opaque
