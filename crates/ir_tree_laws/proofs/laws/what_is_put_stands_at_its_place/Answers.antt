use Rattle.ir_tree_laws.proofs.PutForm.{put_place, put_found, put_distinct, put_list}
use Rattle.ir_tree_laws.proofs.Edited.{put_inside, put_order, put_op_count, put_uses}
use Rattle.ir_tree_laws.proofs.laws.what_is_put_stands_at_its_place.Goals as goal

pub returns-clause-there : goal.returns-clause-there
returns-clause-there g _ place o t may = put_place place o t may

pub returns-clause-found : goal.returns-clause-found
returns-clause-found g _ place o t may = put_found place o t may

pub returns-clause-distinct : goal.returns-clause-distinct
returns-clause-distinct g _ place o t may = put_distinct place o t may

pub returns-clause-list : goal.returns-clause-list
returns-clause-list g _ place o t may = put_list place o t may

pub returns-clause-inside : goal.returns-clause-inside
returns-clause-inside g _ place o t may = put_inside place o t may

pub returns-clause-order : goal.returns-clause-order
returns-clause-order g _ place o t may = put_order place o t may

pub returns-clause-count : goal.returns-clause-count
returns-clause-count g _ place o t may = put_op_count place o t may

pub returns-clause-uses : goal.returns-clause-uses
returns-clause-uses g _ place o t may v = put_uses place o t may v
