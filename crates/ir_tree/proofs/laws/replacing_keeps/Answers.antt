use Rattle.ir_tree.specs.Edits.{put_values}
use Rattle.ir_tree.proofs.Heads.{head_ids, head_place, head_depth, head_visible, alike_values}
use Rattle.ir_tree.proofs.Replaced.{old_unused, others_stay, new_gains}
use Rattle.ir_tree.proofs.laws.replacing_keeps.Goals as goal

pub returns-clause-ids : goal.returns-clause-ids
returns-clause-ids _ v w t = head_ids (put_values v w) (alike_values v w) t

pub returns-clause-place : goal.returns-clause-place
returns-clause-place _ v w y t = head_place (put_values v w) (alike_values v w) y t

pub returns-clause-depth : goal.returns-clause-depth
returns-clause-depth _ v w t = head_depth (put_values v w) (alike_values v w) t

pub returns-clause-dominance : goal.returns-clause-dominance
returns-clause-dominance _ isolated u w y v t = head_visible (put_values u w) (alike_values u w) isolated t y v

pub returns-clause-old : goal.returns-clause-old
returns-clause-old _ v w t h = old_unused v w h t

pub returns-clause-new : goal.returns-clause-new
returns-clause-new _ v w t h = new_gains v w h t

pub returns-clause-others : goal.returns-clause-others
returns-clause-others _ v w u t h k = others_stay v w u h k t
