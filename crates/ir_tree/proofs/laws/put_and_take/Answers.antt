use Rattle.ir_tree.proofs.Moves.{take_put, put_absent, without_absent}
use Rattle.ir_tree.proofs.Returns.{put_take}
use Rattle.ir_tree.proofs.laws.put_and_take.Goals as goal

pub returns-clause-put_first : goal.returns-clause-put_first
returns-clause-put_first _ place o t h = take_put place o t h

pub returns-clause-take_first : goal.returns-clause-take_first
returns-clause-take_first _ x place o t d e f = put_take x place o t d e f

pub returns-clause-no_such_place : goal.returns-clause-no_such_place
returns-clause-no_such_place _ place o t h = put_absent place o t h

pub returns-clause-no_such_op : goal.returns-clause-no_such_op
returns-clause-no_such_op _ x t h = without_absent x t h
