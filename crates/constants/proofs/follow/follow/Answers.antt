use Rattle.std.proofs.Common.{◌≡◌, true, sym, subst}
use Rattle.ir_event.specs.declared.event.Event.{Event}
use Rattle.ir_event.specs.Modules.{module_in}
use Rattle.constants.specs.Tables.{known_in, look_in, FactsFollowed, LooksFollowed}
use Rattle.constants.proofs.follow.follow.Goals as goal

pub returns-in-Put-clause-followed : goal.returns-in-Put-clause-followed
returns-in-Put-clause-followed c =
    subst (λ (e : Event). FactsFollowed (c.update.result ≡ true) (look_in c.args.view.now.world.now) e (known_in c.args.table.now) (known_in c.update.new.table)) (sym c.in-Put.is) c.update.ensures.updated

pub returns-in-Put-clause-looks : goal.returns-in-Put-clause-looks
returns-in-Put-clause-looks c =
    subst (λ (e : Event). LooksFollowed (module_in c.args.view.now.world.now).tree e (known_in c.args.table.now) c.args.view.now.looks c.update.new.view.looks) (sym c.in-Put.is) c.update.ensures.looks

pub returns-in-SetOperand-clause-followed : goal.returns-in-SetOperand-clause-followed
returns-in-SetOperand-clause-followed c =
    subst (λ (e : Event). FactsFollowed (c.update_operand.result ≡ true) (look_in c.args.view.now.world.now) e (known_in c.args.table.now) (known_in c.update_operand.new.table)) (sym c.in-SetOperand.is) c.update_operand.ensures.followed

pub returns-in-SetOperand-clause-looks : goal.returns-in-SetOperand-clause-looks
returns-in-SetOperand-clause-looks c =
    subst (λ (e : Event). LooksFollowed (module_in c.args.view.now.world.now).tree e (known_in c.args.table.now) c.args.view.now.looks c.update_operand.new.view.looks) (sym c.in-SetOperand.is) c.update_operand.ensures.looks

pub returns-in-SetEntry-clause-followed : goal.returns-in-SetEntry-clause-followed
returns-in-SetEntry-clause-followed c =
    subst (λ (e : Event). FactsFollowed (c.update-in-SetEntry.result ≡ true) (look_in c.args.view.now.world.now) e (known_in c.args.table.now) (known_in c.update-in-SetEntry.new.table)) (sym c.in-SetEntry.is) c.update-in-SetEntry.ensures.updated

pub returns-in-SetEntry-clause-looks : goal.returns-in-SetEntry-clause-looks
returns-in-SetEntry-clause-looks c =
    subst (λ (e : Event). LooksFollowed (module_in c.args.view.now.world.now).tree e (known_in c.args.table.now) c.args.view.now.looks c.update-in-SetEntry.new.view.looks) (sym c.in-SetEntry.is) c.update-in-SetEntry.ensures.looks
