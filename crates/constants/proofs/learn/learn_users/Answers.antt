use Rattle.std.proofs.Common.{◌≡◌, ℕ, true, subst, arith}
use Rattle.ir_event.specs.declared.world.World.{World}
use Rattle.ir_event.specs.tree_laws.Members.{In}
use Rattle.constants.specs.Trails.{Uses, IsThere}
use Rattle.constants.specs.Phases.{Learnt}
use Rattle.constants.proofs.Learns.{learnt_as}
use Rattle.constants.specs.Tables.{known_in, look_in, users_of}
use Rattle.constants.proofs.learn.learn_users.Goals as goal

pub returns-clause-learnt : goal.returns-clause-learnt
returns-clause-learnt c =
    let w = c.args.view.now.world.now in
    let us = c.uses_of-uses.ensures.users in
    let f = subst (λ (z : World). ((y : ℕ) → In y (users_of c.uses_of-uses.result) → IsThere (look_in z) y)
    → Learnt (c.learn_uses.result ≡ true) (look_in z) (λ y. In y (users_of c.uses_of-uses.result)) (known_in c.args.table.now) (known_in c.learn_uses.new.table) c.args.trail.now.items c.learn_uses.new.trail.items) c.uses_of-uses.ensures.world c.learn_uses.ensures.learnt in
    learnt_as (look_in w) (c.learn_uses.result ≡ true) (λ y. In y (users_of c.uses_of-uses.result)) (Uses (look_in w) c.args.op) (known_in c.args.table.now) (known_in c.learn_uses.new.table) c.args.trail.now.items c.learn_uses.new.trail.items us.only us.all
    (f (λ y h. let u = us.only y h in (u.here, u.is)))

pub returns-clause-looks : goal.returns-clause-looks
returns-clause-looks c =
    let few = c.uses_of-uses.ensures.count in
    let a = c.uses_of-uses.ensures.looks in
    let b = c.learn_uses.ensures.looks in
    omega (arith, few, a, b)
