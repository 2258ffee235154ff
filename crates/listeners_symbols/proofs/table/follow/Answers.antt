use Rattle.std.proofs.Common.{sym, subst}
use Rattle.std.specs.Prelude.{OnOk}
use Rattle.ir_event.specs.Modules.{module_in}
use Rattle.listeners_symbols.specs.Listeners.{kept_at}
use Rattle.listeners_symbols.specs.Table.{Followed}
use Rattle.listeners_symbols.proofs.table.follow.Goals as goal

pub returns-in-Put-clause-followed : goal.returns-in-Put-clause-followed
returns-in-Put-clause-followed c =
    let w = c.args.view.now.world.now in
    subst (λ e. OnOk c.renew.result (Followed w.ctx (module_in w).tree e (kept_at c.args.roles.now) (kept_at c.renew.new.roles))) (sym c.in-Put.is) c.renew.ensures.renewed

pub returns-in-SetOperand-clause-followed : goal.returns-in-SetOperand-clause-followed
returns-in-SetOperand-clause-followed c =
    let w = c.args.view.now.world.now in
    subst (λ e. OnOk c.follow_operand.result (Followed w.ctx (module_in w).tree e (kept_at c.args.roles.now) (kept_at c.follow_operand.new.roles))) (sym c.in-SetOperand.is) c.follow_operand.ensures.followed

pub returns-in-SetEntry-clause-followed : goal.returns-in-SetEntry-clause-followed
returns-in-SetEntry-clause-followed c =
    let w = c.args.view.now.world.now in
    subst (λ e. OnOk c.renew-in-SetEntry.result (Followed w.ctx (module_in w).tree e (kept_at c.args.roles.now) (kept_at c.renew-in-SetEntry.new.roles))) (sym c.in-SetEntry.is) c.renew-in-SetEntry.ensures.renewed

pub returns-in-Shift-clause-followed : goal.returns-in-Shift-clause-followed
returns-in-Shift-clause-followed c =
    let w = c.args.view.now.world.now in
    subst (λ e. OnOk c.renew-in-Shift.result (Followed w.ctx (module_in w).tree e (kept_at c.args.roles.now) (kept_at c.renew-in-Shift.new.roles))) (sym c.in-Shift.is) c.renew-in-Shift.ensures.renewed
