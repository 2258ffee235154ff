use Rattle.std.proofs.Common.{◌≡◌, true}
use Rattle.ir_event.specs.tree_laws.Members.{In}
use Rattle.constants.specs.Trails.{Uses}
use Rattle.constants.proofs.Forgets.{forgot_as}
use Rattle.constants.specs.Tables.{known_in, look_in, users_of}
use Rattle.constants.proofs.forget.forget_users.Goals as goal

pub returns-clause-forgotten : goal.returns-clause-forgotten
returns-clause-forgotten c =
    let w = c.args.view.now.world.now in
    let us = c.uses_of.ensures.users in
    forgot_as (c.forget_all.result ≡ true) (λ y. In y (users_of c.uses_of.result)) (Uses (look_in w) c.args.op) (known_in c.args.table.now) (known_in c.forget_all.new.table) c.args.trail.now.items c.forget_all.new.trail.items us.only us.all c.forget_all.ensures
