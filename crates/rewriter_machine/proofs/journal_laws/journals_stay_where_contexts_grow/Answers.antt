use Rattle.std.specs.Prelude.{drop}
use Rattle.rewriter_machine.proofs.Ended.{journal_drop}
use Rattle.rewriter_machine.proofs.Grown.{before_stays, journal_stays}
use Rattle.rewriter_machine.proofs.journal_laws.journals_stay_where_contexts_grow.Goals as goal

pub returns-clause-journal : goal.returns-clause-journal
returns-clause-journal _ c d es s w sound g h = journal_stays c d g sound es s w h

pub returns-clause-modules : goal.returns-clause-modules
returns-clause-modules _ c d es s w sound g h k = before_stays c d g sound (drop k es) s w (journal_drop c k es s h)
