use Rattle.ir_tree.specs.types.Terms.{name_term, type_term, attr_term}
use Rattle.ir_tree.specs.types.Words.{is_isolated, is_table}
use Rattle.ir_tree.specs.Meaning.{key_before}
use Rattle.ir_tree_laws.proofs.Contents.{map_type_of_value, map_table_of, map_entry_in, map_put_reason, map_take_reason, map_shift_reason, map_set_operand_reason, map_set_entry_reason, from_retract, from_restore}
use Rattle.ir_tree_laws.proofs.laws.contents_have_the_reasons.Goals as goal

pub returns-clause-types : goal.returns-clause-types
returns-clause-types _ c v t = map_type_of_value (name_term c) (type_term c) (attr_term c) v t

pub returns-clause-tables : goal.returns-clause-tables
returns-clause-tables _ c x t = map_table_of (name_term c) (type_term c) (attr_term c) is_table x t

pub returns-clause-entries : goal.returns-clause-entries
returns-clause-entries _ c x part k t = map_entry_in (name_term c) (type_term c) (attr_term c) key_before x part k t

pub returns-clause-put : goal.returns-clause-put
returns-clause-put _ c place o free t = map_put_reason (name_term c) (type_term c) (attr_term c) is_isolated place o free t

pub returns-clause-take : goal.returns-clause-take
returns-clause-take _ c x t = map_take_reason (name_term c) (type_term c) (attr_term c) x t

pub returns-clause-shift : goal.returns-clause-shift
returns-clause-shift _ c x place t = map_shift_reason (name_term c) (type_term c) (attr_term c) is_isolated is_table x place t

pub returns-clause-operand : goal.returns-clause-operand
returns-clause-operand _ c x k v t = map_set_operand_reason (name_term c) (type_term c) (attr_term c) is_isolated x k v t

pub returns-clause-entry : goal.returns-clause-entry
returns-clause-entry _ c x part k a t = map_set_entry_reason (name_term c) (type_term c) (attr_term c) key_before x part k a t

pub returns-clause-retract : goal.returns-clause-retract
returns-clause-retract _ c x fresh m r = from_retract (name_term c) (type_term c) (attr_term c) x fresh m r

pub returns-clause-restore : goal.returns-clause-restore
returns-clause-restore _ c x place fresh o m r = from_restore (name_term c) (type_term c) (attr_term c) x place fresh o m r
