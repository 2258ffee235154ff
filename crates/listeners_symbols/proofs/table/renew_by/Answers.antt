use Rattle.ir_event.specs.Modules.{module_in}
use Rattle.listeners_symbols.proofs.Omitted.{entered_renewed}
use Rattle.listeners_symbols.proofs.table.renew_by.Goals as goal

pub returns-clause-renewed : goal.returns-clause-renewed
returns-clause-renewed c =
    let w = c.args.view.now.world.now in
    entered_renewed w.ctx (module_in w).tree c.args.op c.in_ok-role.role c.args.roles.now.all c.enter.new.self.all c.in_ok-role.ensures.role c.in_ok-role.ensures.parent c.in_ok-role.ensures.parents c.in_ok-enter.ensures.entered
