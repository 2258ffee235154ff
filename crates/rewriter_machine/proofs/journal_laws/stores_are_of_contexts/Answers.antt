use Rattle.rewriter_machine.proofs.Grown.{store_stays}
use Rattle.rewriter_machine.proofs.Released.{store_released}
use Rattle.rewriter_machine.proofs.Undoings.{store_undone}
use Rattle.rewriter_machine.proofs.journal_laws.stores_are_of_contexts.Goals as goal

pub returns-clause-world : goal.returns-clause-world
returns-clause-world _ w sound = record { context = sound; sound = w.sound; wellformed = w.wellformed; held = w.held }

pub returns-clause-undone : goal.returns-clause-undone
returns-clause-undone _ c e p s w f = store_undone c e p s w f

pub returns-clause-grown : goal.returns-clause-grown
returns-clause-grown _ c d s w sound g = store_stays c d g sound s w

pub returns-clause-released : goal.returns-clause-released
returns-clause-released _ c from s u w r = store_released from s u r c w
