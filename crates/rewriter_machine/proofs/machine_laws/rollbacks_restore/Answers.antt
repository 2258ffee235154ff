use Rattle.rewriter_machine.proofs.Nested.{rollback_gives, nested_leaves, rollback_restores}
use Rattle.rewriter_machine.proofs.machine_laws.rollbacks_restore.Goals as goal

pub returns-clause-newest : goal.returns-clause-newest
returns-clause-newest _ s t reply shows k ks g e = rollback_gives s t reply shows k ks g e

pub returns-clause-nested : goal.returns-clause-nested
returns-clause-nested _ s t calls r nested = nested_leaves s t calls r nested

pub returns-clause-restored : goal.returns-clause-restored
returns-clause-restored _ s u t v call shows last calls reply is g r nested back = rollback_restores s u t v call shows last calls reply is g r nested back
