use Rattle.std.proofs.Common.{sym}
use Rattle.mlir_work_session.proofs.Owning.{next_to_none, next_to_none_headroom, next_to_some, next_to_some_headroom}
use Rattle.mlir_work_session.proofs.pattern_commands.run_pattern_command.Goals as goal

pub returns-in-Some-clause-obeys : goal.returns-in-Some-clause-obeys
returns-in-Some-clause-obeys g c = next_to_some c.args.session_options.now _ _ _ _ _ _ _ _ (sym c.in-Some.ensures) c.apply_user_pattern.ensures.applies

pub returns-in-Some-clause-headroom : goal.returns-in-Some-clause-headroom
returns-in-Some-clause-headroom g c = next_to_some_headroom c.args.session_options.now _ _ _ _ _ _ _ (sym c.in-Some.ensures) c.apply_user_pattern.ensures.headroom

pub returns-in-None-clause-obeys : goal.returns-in-None-clause-obeys
returns-in-None-clause-obeys g c = next_to_none c.args.session_options.now _ _ _ _ _ _ (sym c.in-None.ensures) c.run_command.ensures.obeys

pub returns-in-None-clause-headroom : goal.returns-in-None-clause-headroom
returns-in-None-clause-headroom g c = next_to_none_headroom c.args.session_options.now _ _ _ _ _ (sym c.in-None.ensures) c.run_command.ensures.headroom
