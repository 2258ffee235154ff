use Rattle.std.proofs.Common.{refl, sym, ◌∙◌, inl, inr, arith}
use Rattle.ir_event.specs.Modules.{module_in}
use Rattle.constants.proofs.Settled.{settled_looks}
use Rattle.constants.specs.Tables.{known_in}
use Rattle.constants.proofs.follow.update_operand.Goals as goal

pub returns-then-are_same-clause-followed : goal.returns-then-are_same-clause-followed
returns-then-are_same-clause-followed c = inl (sym c.value_fact.ensures ∙ c.are_same.ensures c.if-are_same.true ∙ c.value_fact-2.ensures, λ y. refl)

pub returns-then-are_same-clause-looks : goal.returns-then-are_same-clause-looks
returns-then-are_same-clause-looks c = settled_looks (module_in c.args.view.now.world.now).tree c.args.op (known_in c.args.table.now) c.args.view.now.looks c.args.view.now.looks (omega arith)

pub returns-clause-followed : goal.returns-clause-followed
returns-clause-followed c = inr c.update.ensures.updated
