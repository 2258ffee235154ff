use Rattle.ir_tree_laws.proofs.Edited.{head_stays, around_stays, table_stays, dominance_stays}
use Rattle.ir_tree_laws.proofs.laws.what_is_left_stays.Goals as goal

pub returns-clause-head : goal.returns-clause-head
returns-clause-head g _ x t d y h = head_stays x t d y h

pub returns-clause-around : goal.returns-clause-around
returns-clause-around g _ x t d y h = around_stays x t d y h

pub returns-clause-table : goal.returns-clause-table
returns-clause-table g _ x t d y h is_table = table_stays x t d y h is_table

pub returns-clause-dominance : goal.returns-clause-dominance
returns-clause-dominance g _ x t d y h isolated v e = dominance_stays x t d y h isolated v e
