use Rattle.greedy.specs.Adding.{Adds}
use Rattle.greedy.specs.Parts.{IsIn, IsUser}
use Rattle.greedy.proofs.Adding.{on_ok, adds_as}
use Rattle.greedy.proofs.Using.{are_users}
use Rattle.greedy.proofs.users.push_uses.Goals as goal

pub returns : goal.returns
returns c =
    let t = c.args.store.now.module_of.tree in
    on_ok (Adds (IsIn c.uses.result) c.args.ops.now.items c.push_used.new.ops.items) (Adds (IsUser c.args.value t) c.args.ops.now.items c.push_used.new.ops.items) c.push_used.result
    (adds_as (IsUser c.args.value t) (IsIn c.uses.result) c.args.ops.now.items c.push_used.new.ops.items (are_users c.args.value t c.uses.result c.uses.ensures)) c.push_used.ensures
