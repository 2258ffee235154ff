use Rattle.std.proofs.Common.{length, subst, sym, ◌≤◌, ◌+◌}
use Rattle.constants.proofs.Using.{users_are, users_few, few_looks}
use Rattle.constants.specs.Tables.{uses_in}
use Rattle.constants.proofs.users.uses_of.Goals as goal

pub returns-clause-users : goal.returns-clause-users
returns-clause-users c = users_are c.args.view.now.world.now c.args.op c.uses.result c.uses.ensures.answer

pub returns-clause-count : goal.returns-clause-count
returns-clause-count c = users_few c.args.view.now.world.now c.args.op c.uses.result c.uses.ensures.answer

pub returns-clause-looks : goal.returns-clause-looks
returns-clause-looks c =
    subst (λ n. n ≤ c.args.view.now.looks + (1 + uses_in c.args.view.now.world.now c.args.op)) (sym c.uses.ensures.looks)
    (few_looks (length c.uses.result) (uses_in c.args.view.now.world.now c.args.op) c.args.view.now.looks (users_few c.args.view.now.world.now c.args.op c.uses.result c.uses.ensures.answer))
