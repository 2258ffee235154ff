use Rattle.ir_tree.specs.Edits.{at, change_part, change_entry}
use Rattle.ir_tree.specs.Meaning.{key_before_in}
use Rattle.ir_tree.proofs.Heads.{head_ids, head_place, head_depth, head_visible, head_uses, head_operands_visible, alike_entry, entry_operands}
use Rattle.ir_tree.proofs.laws.entry_keeps.Goals as goal

pub returns-clause-ids : goal.returns-clause-ids
returns-clause-ids _ c x part k a t = head_ids (at x (change_part part (change_entry (key_before_in c) k a))) (alike_entry (key_before_in c) x part k a) t

pub returns-clause-place : goal.returns-clause-place
returns-clause-place _ c x part k a y t = head_place (at x (change_part part (change_entry (key_before_in c) k a))) (alike_entry (key_before_in c) x part k a) y t

pub returns-clause-depth : goal.returns-clause-depth
returns-clause-depth _ c x part k a t = head_depth (at x (change_part part (change_entry (key_before_in c) k a))) (alike_entry (key_before_in c) x part k a) t

pub returns-clause-uses : goal.returns-clause-uses
returns-clause-uses _ c x part k a v t = head_uses (at x (change_part part (change_entry (key_before_in c) k a))) (alike_entry (key_before_in c) x part k a) (entry_operands (key_before_in c) x part k a) v t

pub returns-clause-dominance : goal.returns-clause-dominance
returns-clause-dominance _ c isolated x part k a y v t = head_visible (at x (change_part part (change_entry (key_before_in c) k a))) (alike_entry (key_before_in c) x part k a) isolated t y v

pub returns-clause-operands : goal.returns-clause-operands
returns-clause-operands _ c isolated x part k a t = head_operands_visible (at x (change_part part (change_entry (key_before_in c) k a))) (alike_entry (key_before_in c) x part k a) (entry_operands (key_before_in c) x part k a) isolated t
