use Rattle.ir_tree.specs.Edits.{at, put_operand}
use Rattle.ir_tree.proofs.Heads.{head_ids, head_place, head_depth, head_visible, alike_operand}
use Rattle.ir_tree.proofs.laws.operand_keeps.Goals as goal

pub returns-clause-ids : goal.returns-clause-ids
returns-clause-ids _ x k v t = head_ids (at x (put_operand k v)) (alike_operand x k v) t

pub returns-clause-place : goal.returns-clause-place
returns-clause-place _ x k v y t = head_place (at x (put_operand k v)) (alike_operand x k v) y t

pub returns-clause-depth : goal.returns-clause-depth
returns-clause-depth _ x k v t = head_depth (at x (put_operand k v)) (alike_operand x k v) t

pub returns-clause-dominance : goal.returns-clause-dominance
returns-clause-dominance _ isolated x k w y v t = head_visible (at x (put_operand k w)) (alike_operand x k w) isolated t y v
