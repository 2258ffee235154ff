use Rattle.rewriter_machine.proofs.Answers.{refused_leaves, refused_ages}
use Rattle.rewriter_machine.proofs.machine_laws.refusals_leave_all.Goals as goal

pub returns-clause-held : goal.returns-clause-held
returns-clause-held _ s t call reply shows g h = refused_leaves s t call reply shows g h

pub returns-clause-panel : goal.returns-clause-panel
returns-clause-panel _ s t call reply shows g h = refused_ages s t call reply shows g h
