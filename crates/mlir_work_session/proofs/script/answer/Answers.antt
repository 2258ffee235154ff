use Rattle.std.proofs.Common.{refl}
use Rattle.mlir_work_session.proofs.script.answer.Goals as goal

pub returns-in-Command-clause-replies : goal.returns-in-Command-clause-replies
returns-in-Command-clause-replies g c = rw c.in-Command.is c.answer_command.ensures.obeys

pub returns-in-Session-clause-replies : goal.returns-in-Session-clause-replies
returns-in-Session-clause-replies g c = rw c.in-Session.is c.answer_session_command.ensures.fulfils

pub returns-in-Registry-clause-replies : goal.returns-in-Registry-clause-replies
returns-in-Registry-clause-replies g c = rw c.in-Registry.is (c.run_registry_command.ensures.registries, refl)
