use Rattle.ir_tree.specs.Meaning.{dictionaries_rise}
use Rattle.ir_tree_laws.proofs.RenumberedSame.{head_with, every_with, all_pass_with, rise_with}
use Rattle.ir_tree_laws.proofs.renumber.other_ids_keep_the_heads.Goals as goal

pub returns-clause-head : goal.returns-clause-head
returns-clause-head c f t = head_with f t

pub returns-clause-every : goal.returns-clause-every
returns-clause-every c f p q t same = every_with f p q same t

pub returns-clause-passing : goal.returns-clause-passing
returns-clause-passing c f n q a t = all_pass_with f n q a t

pub returns-clause-sorted : goal.returns-clause-sorted
returns-clause-sorted c f before t = every_with f (dictionaries_rise before) (dictionaries_rise before) (rise_with f before) t
