use Rattle.std.proofs.Common.{ap}
use Rattle.rewriter_machine.proofs.Setting.{all_set_more, all_replaced}
use Rattle.rewriter_machine.proofs.Left.{some_left}
use Rattle.rewriter_machine.proofs.Allowed.{set_wellformed, set_allowed}
use Rattle.rewriter_machine.proofs.edit_laws.replacing_is_setting.Goals as goal

pub returns-clause-parts : goal.returns-clause-parts
returns-clause-parts g _ v us vs t = all_set_more v us vs t

pub returns-clause-whole : goal.returns-clause-whole
returns-clause-whole g _ w old new m d = ap (λ t. record m { tree = t }) (all_replaced old new m.tree d)

pub returns-clause-left : goal.returns-clause-left
returns-clause-left g _ old new us vs t d differ e = some_left old new differ us vs t d e

pub returns-clause-wellformed : goal.returns-clause-wellformed
returns-clause-wellformed g _ w old new us vs m f e is = set_wellformed w old new m f e us vs is

pub returns-clause-reason : goal.returns-clause-reason
returns-clause-reason g _ w old new us vs u m f e is = set_allowed w old new m f e us vs u is
