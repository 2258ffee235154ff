use Rattle.ir_types.specs.Terms.{name_term, type_term, attr_term}
use Rattle.ir_types.specs.Words.{is_isolated}
use Rattle.ir_tree.proofs.Mapped.{map_ids, map_find, map_place, map_uses, map_visible, map_operands_visible, map_depth, map_counts}
use Rattle.ir_tree.proofs.laws.meaning_has_the_shape.Goals as goal

pub returns-clause-ids : goal.returns-clause-ids
returns-clause-ids _ c t = map_ids (name_term c) (type_term c) (attr_term c) t

pub returns-clause-find : goal.returns-clause-find
returns-clause-find _ c x t = map_find (name_term c) (type_term c) (attr_term c) x t

pub returns-clause-place : goal.returns-clause-place
returns-clause-place _ c x t = map_place (name_term c) (type_term c) (attr_term c) x t

pub returns-clause-uses : goal.returns-clause-uses
returns-clause-uses _ c v t = map_uses (name_term c) (type_term c) (attr_term c) v t

pub returns-clause-dominance : goal.returns-clause-dominance
returns-clause-dominance _ c x v t = map_visible (name_term c) (type_term c) (attr_term c) is_isolated t x v

pub returns-clause-operands : goal.returns-clause-operands
returns-clause-operands _ c t = map_operands_visible (name_term c) (type_term c) (attr_term c) is_isolated t

pub returns-clause-depth : goal.returns-clause-depth
returns-clause-depth _ c t = map_depth (name_term c) (type_term c) (attr_term c) t

pub returns-clause-counts : goal.returns-clause-counts
returns-clause-counts _ c t = map_counts (name_term c) (type_term c) (attr_term c) t
