use Rattle.rewriter_machine.proofs.Single.{elementary_step}
use Rattle.rewriter_machine.proofs.machine_laws.elementary_edits_are_steps.Goals as goal

pub returns : goal.returns
returns _ c e m is w sound of free = elementary_step c e m is w sound of free
