use Rattle.rewriter_machine.proofs.Numbers.{edited_meaning, reason_meaning}
use Rattle.rewriter_machine.proofs.machine_laws.edits_have_contents.Goals as goal

pub returns-clause-edited : goal.returns-clause-edited
returns-clause-edited _ c e m = edited_meaning c e m

pub returns-clause-reason : goal.returns-clause-reason
returns-clause-reason _ c e m = reason_meaning c e m
