use Rattle.std.proofs.Common.{refl}
use Rattle.mlir_work_session.specs.Machine.{response_of}
use Rattle.mlir_work_transforms.proofs.of_registry.Bounds.{within_of}
use Rattle.mlir_work_session.proofs.Owning.{next_to_within}
use Rattle.mlir_work_session.proofs.pattern_commands.answer_command.Goals as goal

pub returns-clause-obeys : goal.returns-clause-obeys
returns-clause-obeys g c =
    (response_of c.reply_within.result, refl, next_to_within c.args.session_options.now _ _ _ _ _ _ _ c.reply_within.ensures.same c.run_pattern_command-answered.ensures.obeys, refl)

pub returns-clause-bounded : goal.returns-clause-bounded
returns-clause-bounded g c = within_of c.args.session_options.now.bytes _ c.reply_within.ensures.bounded
