use Rattle.std.proofs.Common.{ap}
use Rattle.rewriter_machine.proofs.Erased.{erased_whole, erased_left, erased_wellformed, erased_may}
use Rattle.rewriter_machine.proofs.Taken.{taken_more}
use Rattle.rewriter_machine.proofs.edit_laws.erasing_is_taking.Goals as goal

pub returns-clause-parts : goal.returns-clause-parts
returns-clause-parts g _ ys zs t = taken_more ys zs t

pub returns-clause-whole : goal.returns-clause-whole
returns-clause-whole g _ w x m f e = ap (λ t. record m { tree = t }) (erased_whole w x m f e)

pub returns-clause-left : goal.returns-clause-left
returns-clause-left g _ w x ys zs m f e k = erased_left w x m f e ys zs k

pub returns-clause-wellformed : goal.returns-clause-wellformed
returns-clause-wellformed g _ w x ys zs m f e k = erased_wellformed w x m f e ys zs k

pub returns-clause-reason : goal.returns-clause-reason
returns-clause-reason g _ w x ys zs y m f e k = erased_may w x m f e ys zs y k
