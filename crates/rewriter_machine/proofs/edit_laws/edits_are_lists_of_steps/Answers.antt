use Rattle.rewriter_machine.proofs.Stepped.{edit_steps}
use Rattle.rewriter_machine.proofs.edit_laws.edits_are_lists_of_steps.Goals as goal

pub returns : goal.returns
returns _ c e m w sound of free = edit_steps c m w sound e of free
