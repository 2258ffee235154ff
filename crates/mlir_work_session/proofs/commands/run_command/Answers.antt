use Rattle.std.proofs.Common.{ap, refl}
use Rattle.mlir_work_script.specs.Commands.{said_of}
use Rattle.mlir_work_session.specs.Machine.{response_of}
use Rattle.mlir_work_session.proofs.Headroom.{obeys_alike, obeys_plainly, headroom_plainly}
use Rattle.mlir_work_session.proofs.Rewritten.{obeys_canon}
use Rattle.mlir_work_session.proofs.commands.run_command.Goals as goal

pub returns-in-Canon-clause-obeys : goal.returns-in-Canon-clause-obeys
returns-in-Canon-clause-obeys g c = obeys_alike c.args.session_options.now _ _ _ _ _ _ (ap said_of c.in-Canon.is) (obeys_canon c.args.session_options.now _ _ _ _ _ c.rewrite.ensures.rewrites)

pub returns-in-Canon-clause-headroom : goal.returns-in-Canon-clause-headroom
returns-in-Canon-clause-headroom g c = headroom_plainly _ c.args.session_options.now _ _ _ _ _ (ap said_of c.in-Canon.is) refl (c.rewrite.ensures.headroom _ refl)

pub returns-in-Convert-clause-obeys : goal.returns-in-Convert-clause-obeys
returns-in-Convert-clause-obeys g c =
    obeys_plainly c.args.session_options.now _ _ _ _ _ _ _ (ap said_of c.in-Convert.is) (ap response_of c.reply_only-in-Convert.ensures.reply) c.reply_only-in-Convert.ensures.shows (c.convert_plainly.ensures.obeys c.args.session_options.now)

pub returns-in-Convert-clause-headroom : goal.returns-in-Convert-clause-headroom
returns-in-Convert-clause-headroom g c =
    headroom_plainly _ c.args.session_options.now _ _ _ _ _ (ap said_of c.in-Convert.is) (ap response_of c.reply_only-in-Convert.ensures.reply) c.convert_plainly.ensures.headroom

pub returns-in-Apply-clause-headroom : goal.returns-in-Apply-clause-headroom
returns-in-Apply-clause-headroom g c =
    headroom_plainly _ c.args.session_options.now _ _ _ _ _ (ap said_of c.in-Apply.is) (ap response_of c.reply_only-in-Apply.ensures.reply) c.apply_named_rule.ensures.headroom
