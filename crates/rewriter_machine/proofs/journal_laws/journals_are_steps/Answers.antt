use Rattle.rewriter_machine.proofs.Ended.{inverses_last, journal_back, journal_drop, journal_older, journal_steps}
use Rattle.rewriter_machine.proofs.journal_laws.journals_are_steps.Goals as goal

pub returns-clause-newer : goal.returns-clause-newer
returns-clause-newer _ c es s h k = journal_drop c k es s h

pub returns-clause-steps : goal.returns-clause-steps
returns-clause-steps _ c es s h = journal_steps c es s h

pub returns-clause-back : goal.returns-clause-back
returns-clause-back _ c es s h = journal_back c es s h

pub returns-clause-older : goal.returns-clause-older
returns-clause-older _ c es fs s h = journal_older c es fs s h

pub returns-clause-first : goal.returns-clause-first
returns-clause-first _ es e = inverses_last es e
