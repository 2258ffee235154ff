use Rattle.std.proofs.Common.{◌≡◌, true, subst}
use Rattle.ir_event.specs.Modules.{module_in}
use Rattle.ir_event.specs.declared.world.World.{World}
use Rattle.constants.proofs.Settled.{settled_local, settled_looks, renewed_looks}
use Rattle.constants.specs.Tables.{known_in, look_in, Updated, LooksRenewed}
use Rattle.constants.proofs.follow.update.Goals as goal

pub returns-then-is_settled-clause-updated : goal.returns-then-is_settled-clause-updated
returns-then-is_settled-clause-updated c here was but local done = settled_local (look_in c.args.view.now.world.now) was c.args.op (known_in c.args.table.now) but local (c.is_settled.ensures.settled c.if-is_settled.true here)

pub returns-then-is_settled-clause-looks : goal.returns-then-is_settled-clause-looks
returns-then-is_settled-clause-looks c = settled_looks (module_in c.args.view.now.world.now).tree c.args.op (known_in c.args.table.now) c.args.view.now.looks c.is_settled.new.view.looks c.is_settled.ensures.looks

pub returns-clause-updated : goal.returns-clause-updated
returns-clause-updated c = subst (λ (w : World). Updated (c.renew.result ≡ true) (look_in w) c.args.op (known_in c.args.table.now) (known_in c.renew.new.table)) c.is_settled.ensures.world c.renew.ensures.updated

pub returns-clause-looks : goal.returns-clause-looks
returns-clause-looks c = renewed_looks (module_in c.args.view.now.world.now).tree c.args.op (known_in c.args.table.now) c.args.view.now.looks c.is_settled.new.view.looks c.renew.new.view.looks c.is_settled.ensures.looks
    (subst (λ (w : World). LooksRenewed (module_in w).tree c.args.op (known_in c.args.table.now) c.is_settled.new.view.looks c.renew.new.view.looks) c.is_settled.ensures.world c.renew.ensures.looks)
