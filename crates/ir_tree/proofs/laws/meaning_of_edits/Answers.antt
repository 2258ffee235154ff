use Rattle.ir_types.specs.Terms.{name_term, type_term, attr_term}
use Rattle.ir_tree.specs.Meaning.{key_before}
use Rattle.ir_tree.proofs.MappedEdits.{map_with_operand, map_with_value_replaced, map_with_entry, map_put, map_without, map_shifted}
use Rattle.ir_tree.proofs.laws.meaning_of_edits.Goals as goal

pub returns-clause-operand : goal.returns-clause-operand
returns-clause-operand _ c x k v t = map_with_operand (name_term c) (type_term c) (attr_term c) x k v t

pub returns-clause-replaced : goal.returns-clause-replaced
returns-clause-replaced _ c v w t = map_with_value_replaced (name_term c) (type_term c) (attr_term c) v w t

pub returns-clause-entry : goal.returns-clause-entry
returns-clause-entry _ c x part k a t = map_with_entry (name_term c) (type_term c) (attr_term c) key_before x part k a t

pub returns-clause-put : goal.returns-clause-put
returns-clause-put _ c place o t = map_put (name_term c) (type_term c) (attr_term c) place o t

pub returns-clause-without : goal.returns-clause-without
returns-clause-without _ c x t = map_without (name_term c) (type_term c) (attr_term c) x t

pub returns-clause-shifted : goal.returns-clause-shifted
returns-clause-shifted _ c x place t = map_shifted (name_term c) (type_term c) (attr_term c) x place t
