use Rattle.std.proofs.Common.{ap}
use Rattle.rewriter_machine.proofs.AnyUse.{listed, fewer_uses, replaced_same, replaced_none, replaced_equal, turn_allowed, turn_wellformed, turn_still, equal_allowed}
use Rattle.rewriter_machine.proofs.step_laws.replacing_by_uses.Goals as goal

pub returns-clause-reason : goal.returns-clause-reason
returns-clause-reason g _ w old new x k m f e h = turn_allowed w old new m f e (x, k) (listed x k _ h)

pub returns-clause-still : goal.returns-clause-still
returns-clause-still g _ w old new x k m f e differ h = turn_still w old new m f e (x, k) (listed x k _ h) differ

pub returns-clause-same : goal.returns-clause-same
returns-clause-same g _ w old new x k m f h = ap (λ t. record m { tree = t }) (replaced_same old new (x, k) m.tree f.distinct (listed x k _ h))

pub returns-clause-fewer : goal.returns-clause-fewer
returns-clause-fewer g _ w old new x k m f differ h = fewer_uses old new differ (x, k) m.tree f.distinct (listed x k _ h)

pub returns-clause-wellformed : goal.returns-clause-wellformed
returns-clause-wellformed g _ w old new x k m f e h = turn_wellformed w old new m f e (x, k) (listed x k _ h)

pub returns-clause-done : goal.returns-clause-done
returns-clause-done g _ w old new m e = ap (λ t. record m { tree = t }) (replaced_none old new m.tree e)

pub returns-clause-equal : goal.returns-clause-equal
returns-clause-equal g _ w old new m e = ap (λ t. record m { tree = t }) (replaced_equal old new m.tree e)

pub returns-clause-equal_seen : goal.returns-clause-equal_seen
returns-clause-equal_seen g _ w old new m r f e k = equal_allowed w old new m f r e k
