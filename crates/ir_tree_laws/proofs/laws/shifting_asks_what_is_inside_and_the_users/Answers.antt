use Rattle.ir_tree_laws.proofs.ShiftDominance.{shift_dominated_by, shift_seen}
use Rattle.ir_tree_laws.proofs.laws.shifting_asks_what_is_inside_and_the_users.Goals as goal

pub returns : goal.returns
returns g _ isolated x place t o d wellformed found root point out = (shift_seen isolated x place t o d found root point out wellformed, λ w. shift_dominated_by isolated x place t o d found root point out wellformed w.0 w.1)
