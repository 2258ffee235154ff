use Rattle.std.proofs.Common.{◌≡◌, true, false, refl, rules}
use Rattle.ir_event.specs.Modules.{module_in}
use Rattle.constants.proofs.Updating.{trail_there, broken_looks, whole_looks}
use Rattle.constants.proofs.Forgetful.{never}
use Rattle.constants.proofs.Finding.{learnt_in}
use Rattle.constants.specs.Tables.{known_in, look_in, uses_in}
use Rattle.constants.proofs.follow.renew.Goals as goal

pub returns-then-not-forget_from-clause-updated : goal.returns-then-not-forget_from-clause-updated
returns-then-not-forget_from-clause-updated c here was but local done = never false refl done

pub returns-then-not-forget_from-clause-looks : goal.returns-then-not-forget_from-clause-looks
returns-then-not-forget_from-clause-looks c here was but local ordered =
    broken_looks (module_in c.args.view.now.world.now).tree c.args.op (known_in c.args.table.now) (known_in c.args.table.now) (known_in c.args.table.now) c.forget_from.new.trail.items c.args.view.now.looks c.forget_from.new.view.looks c.forget_from.new.view.looks
    c.forget_from.ensures.trail c.forget_from.ensures.looks here ordered

pub returns-clause-updated : goal.returns-clause-updated
returns-clause-updated c here was but local done =
    let w = c.args.view.now.world.now in
    let yes : c.forget_from.result ≡ true = search rules in
    let learnt = learnt_in look_in uses_in w c.forget_from.new.view.world.now (c.learn_from.result ≡ true) c.args.op c.forget_from.new.trail.items c.deref.result.now (known_in c.forget_from.new.table) (known_in c.learn_from.new.table)
    c.forget_from.new.view.looks c.learn_from.new.view.looks c.forget_from.ensures.world c.deref.ensures.value c.learn_from.ensures.learnt here (trail_there (look_in w) c.args.op (known_in c.args.table.now) c.forget_from.new.trail.items here c.forget_from.ensures.trail) in
    learnt.local done (c.forget_from.ensures.forgotten yes was but local)

pub returns-clause-looks : goal.returns-clause-looks
returns-clause-looks c here was but local ordered =
    let w = c.args.view.now.world.now in
    let yes : c.forget_from.result ≡ true = search rules in
    let learnt = learnt_in look_in uses_in w c.forget_from.new.view.world.now (c.learn_from.result ≡ true) c.args.op c.forget_from.new.trail.items c.deref.result.now (known_in c.forget_from.new.table) (known_in c.learn_from.new.table)
    c.forget_from.new.view.looks c.learn_from.new.view.looks c.forget_from.ensures.world c.deref.ensures.value c.learn_from.ensures.learnt here (trail_there (look_in w) c.args.op (known_in c.args.table.now) c.forget_from.new.trail.items here c.forget_from.ensures.trail) in
    whole_looks (module_in w).tree c.args.op (known_in c.args.table.now) (known_in c.forget_from.new.table) (known_in c.learn_from.new.table) c.forget_from.new.trail.items c.args.view.now.looks c.forget_from.new.view.looks c.learn_from.new.view.looks
    c.forget_from.ensures.trail c.forget_from.ensures.looks learnt (c.forget_from.ensures.forgotten yes was but local) here ordered
