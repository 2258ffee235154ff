use Rattle.rewriter_machine.proofs.Wellformed.{replace_keeps}
use Rattle.rewriter_machine.proofs.machine_laws.replacing_keeps_form.Goals as goal

pub returns : goal.returns
returns _ c old new m w e = replace_keeps c old new m w e
