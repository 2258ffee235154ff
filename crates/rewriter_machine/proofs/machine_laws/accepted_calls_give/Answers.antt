use Rattle.rewriter_machine.proofs.Answers.{accepted_gives}
use Rattle.rewriter_machine.proofs.machine_laws.accepted_calls_give.Goals as goal

pub returns : goal.returns
returns _ s t call reply shows g h = accepted_gives s t call reply shows g h
