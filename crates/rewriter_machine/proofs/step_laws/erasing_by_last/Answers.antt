use Rattle.std.proofs.Common.{ap, sym, eqb-true}
use Rattle.ir_event.specs.trees.Places.{without}
use Rattle.rewriter_machine.proofs.LastFirst.{last_allowed, last_wellformed, last_fewer, last_still, last_same}
use Rattle.rewriter_machine.proofs.step_laws.erasing_by_last.Goals as goal

pub returns-clause-reason : goal.returns-clause-reason
returns-clause-reason g _ w x y ys m f e is = last_allowed w x y ys m f e is

pub returns-clause-still : goal.returns-clause-still
returns-clause-still g _ w x y ys m f e is other = last_still w x y ys m f e is other

pub returns-clause-same : goal.returns-clause-same
returns-clause-same g _ w x y ys m f e is other = ap (λ t. record m { tree = t }) (last_same w x y ys m f e is other)

pub returns-clause-last : goal.returns-clause-last
returns-clause-last g _ w x y m e = ap (λ z. record m { tree = without z m.tree }) (sym (eqb-true y x e))

pub returns-clause-fewer : goal.returns-clause-fewer
returns-clause-fewer g _ w x y ys m f e is = last_fewer w x y ys m f e is

pub returns-clause-wellformed : goal.returns-clause-wellformed
returns-clause-wellformed g _ w x y ys m f e is = last_wellformed w x y ys m f e is
