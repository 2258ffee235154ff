use Rattle.ir_tree_laws.proofs.RenumberedSame.{numbered, distinct_renumbered}
use Rattle.ir_tree_laws.proofs.RenumberedForm.{wellformed_renumbered, visible_renumbered}
use Rattle.ir_tree_laws.proofs.RenumberedFixed.{renumbered_stays}
use Rattle.ir_tree_laws.proofs.renumber.trees_are_renumbered.Goals as goal

pub returns-clause-numbered : goal.returns-clause-numbered
returns-clause-numbered c t d = numbered t d

pub returns-clause-distinct : goal.returns-clause-distinct
returns-clause-distinct c t d = distinct_renumbered t d

pub returns-clause-wellformed : goal.returns-clause-wellformed
returns-clause-wellformed c isolated t w = wellformed_renumbered isolated t w

pub returns-clause-dominance : goal.returns-clause-dominance
returns-clause-dominance c isolated t x v = visible_renumbered isolated t x v

pub returns-clause-stays : goal.returns-clause-stays
returns-clause-stays c isolated t w e = renumbered_stays isolated t w e
