use Rattle.std.specs.Prelude.{drop}
use Rattle.rewriter_machine.proofs.Ended.{journal_drop}
use Rattle.rewriter_machine.proofs.Released.{before_released, journal_released}
use Rattle.rewriter_machine.proofs.journal_laws.journals_outlive_release.Goals as goal

pub returns-clause-journal : goal.returns-clause-journal
returns-clause-journal _ c from es s u w h r most le = journal_released from s u r c w most le es h

pub returns-clause-modules : goal.returns-clause-modules
returns-clause-modules _ c from es s u w h r most le k = before_released from s u r c w most le (drop k es) (journal_drop c k es s h)
