use Rattle.std.proofs.Common.{◌≡◌, true}
use Rattle.constants.proofs.Learnable.{learnt_known, learnt_not}
use Rattle.constants.proofs.Forgetful.{known_none, known_some}
use Rattle.constants.specs.Tables.{known_in, look_in}
use Rattle.constants.proofs.learn.learn.Goals as goal

pub returns-in-Some-clause-learnt : goal.returns-in-Some-clause-learnt
returns-in-Some-clause-learnt c there =
    learnt_known (look_in c.args.view.now.world.now) (true ≡ true) c.args.op _ (known_in c.args.table.now) c.args.trail.now.items (known_some c.fact.result _ _ c.fact.ensures c.in-Some.is)

pub returns-in-Ok-clause-learnt : goal.returns-in-Ok-clause-learnt
returns-in-Ok-clause-learnt c there =
    c.note_found.ensures (look_in c.args.view.now.world.now) (known_none c.fact.result _ c.fact.ensures c.in_default.is) (c.in-Ok.ensures.value there)

pub returns-in-Err-clause-learnt : goal.returns-in-Err-clause-learnt
returns-in-Err-clause-learnt c there = learnt_not (look_in c.args.view.now.world.now) (λ y. y ≡ c.args.op) (known_in c.args.table.now) c.args.trail.now.items
