use Rattle.ir_event.specs.Modules.{module_meaning}
use Rattle.ir_event.specs.Undoing.{undone}
use Rattle.rewriter_machine.proofs.Ended.{before_last, journal_last}
use Rattle.rewriter_machine.proofs.Undoings.{falls}
use Rattle.rewriter_machine.proofs.journal_laws.newest_is_undone.Goals as goal

pub returns-clause-forward : goal.returns-clause-forward
returns-clause-forward _ c es e s h = (journal_last c es e s h).1.0

pub returns-clause-came : goal.returns-clause-came
returns-clause-came _ c es e s h = (journal_last c es e s h).1.1

pub returns-clause-journal : goal.returns-clause-journal
returns-clause-journal _ c es e s h = (journal_last c es e s h).0

pub returns-clause-modules : goal.returns-clause-modules
returns-clause-modules _ c es e s = before_last c es e s

pub returns-clause-next : goal.returns-clause-next
returns-clause-next _ c es e s h = (let l = journal_last c es e s h in falls c e (module_meaning c (undone c e s).module_of) s l.1.0 l.1.1)
