use Rattle.std.proofs.Common.{◌∙◌, refl, inl, subst, sym}
use Rattle.patterns_soundness.specs.base.Canonicalization.{highest_priority}
use Rattle.patterns_lowering.specs.Held.{module_held}
use Rattle.patterns.specs.HighestPriority.{IsHighestPriority}
use Rattle.patterns.specs.Planned.{planned_edits}
use Rattle.patterns_lowering.proofs.Journals.{recorded_none}
use Rattle.patterns.proofs.Applying.{gave, is_there, not_there, aborted}
use Rattle.patterns.proofs.Carrying.{applied_none, journaled_none}
use Rattle.patterns.proofs.Lowering.{none_applied, none_held, applied_held, fits_held, free_held, rule_held, highest_priority_due}
use Rattle.patterns.proofs.apply_highest_priority.apply_highest_priority.Goals as goal

pub returns-then-not-in_tree-clause-refused : goal.returns-then-not-in_tree-clause-refused
returns-then-not-in_tree-clause-refused g c = not_there c.world-world.result.now c.args.bench.now.transaction c.world-world.ensures.ctx c.world-world.ensures.store c.args.op (highest_priority (module_held c.args.bench.now.transaction) c.args.op) c.args.bench.now.transaction.ctx c.in_tree.result c.in_tree.ensures c.if-not-in_tree.true

pub returns-then-not-in_tree-clause-stays : goal.returns-then-not-in_tree-clause-stays
returns-then-not-in_tree-clause-stays g c = applied_none g.L.Analysis.meaning c.args.bench.now

pub returns-in_default-clause-refused : goal.returns-in_default-clause-refused
returns-in_default-clause-refused g c = inl refl

pub returns-in_default-clause-stays : goal.returns-in_default-clause-stays
returns-in_default-clause-stays g c = applied_none g.L.Analysis.meaning c.args.bench.now

pub returns-in_default-highest_rule-clause-ok : goal.returns-in_default-highest_rule-clause-ok
returns-in_default-highest_rule-clause-ok g c = none_held c.world-world.result.now c.args.bench.now.transaction c.world-world.ensures.ctx c.world-world.ensures.store c.args.op (subst (IsHighestPriority c.world-world.result.now c.args.op) c.in_default-highest_rule.is c.in-Ok.ensures)

pub returns-in_default-highest_rule-clause-stays : goal.returns-in_default-highest_rule-clause-stays
returns-in_default-highest_rule-clause-stays g c = applied_none g.L.Analysis.meaning c.args.bench.now

pub apply_plan-requires-clause-of : goal.apply_plan-requires-clause-of
apply_plan-requires-clause-of g c = fits_held c.world-world.result.now c.args.bench.now.transaction c.world-world.ensures.ctx c.world-world.ensures.store c.args.op c.in-Some.found (subst (IsHighestPriority c.world-world.result.now c.args.op) c.in-Some.is c.in-Ok.ensures)

pub returns-in-Ok-apply_plan-clause-ok : goal.returns-in-Ok-apply_plan-clause-ok
returns-in-Ok-apply_plan-clause-ok g c =
    gave (highest_priority (module_held c.args.bench.now.transaction) c.args.op) (module_held c.args.bench.now.transaction) (module_held c.apply_plan.new.bench.transaction)
    (highest_priority_due c.world-world.result.now c.args.bench.now.transaction c.world-world.ensures.ctx c.world-world.ensures.store c.args.op c.in-Some.found (subst (IsHighestPriority c.world-world.result.now c.args.op) c.in-Some.is c.in-Ok.ensures)
    ∙ c.in-Ok-apply_plan.ensures.carried)

pub returns-in-Ok-apply_plan-clause-rule : goal.returns-in-Ok-apply_plan-clause-rule
returns-in-Ok-apply_plan-clause-rule g c = rule_held c.world-world.result.now c.args.bench.now.transaction c.world-world.ensures.ctx c.world-world.ensures.store c.args.op c.in-Some.found (subst (IsHighestPriority c.world-world.result.now c.args.op) c.in-Some.is c.in-Ok.ensures)

pub returns-in-Err-clause-err : goal.returns-in-Err-clause-err
returns-in-Err-clause-err g c = c.in-Err.ensures.carried.0

pub returns-in-Err-clause-refused : goal.returns-in-Err-clause-refused
returns-in-Err-clause-refused g c =
    aborted (highest_priority (module_held c.args.bench.now.transaction) c.args.op) (planned_edits c.args.bench.now.transaction.ctx (module_held c.args.bench.now.transaction).next c.args.op c.in-Some.found.planned) c.args.op (module_held c.args.bench.now.transaction) c.apply_plan.new.bench.transaction.ctx c.in-Err.refusal
    (highest_priority_due c.world-world.result.now c.args.bench.now.transaction c.world-world.ensures.ctx c.world-world.ensures.store c.args.op c.in-Some.found (subst (IsHighestPriority c.world-world.result.now c.args.op) c.in-Some.is c.in-Ok.ensures)) c.in-Err.ensures.carried.1

pub returns-in_default-highest_rule-clause-journal : goal.returns-in_default-highest_rule-clause-journal
returns-in_default-highest_rule-clause-journal g c = journaled_none g.L.Analysis.meaning c.args.bench.now

pub returns-then-not-in_tree-clause-journal : goal.returns-then-not-in_tree-clause-journal
returns-then-not-in_tree-clause-journal g c = recorded_none c.args.bench.now.transaction

pub returns-in_default-clause-journal : goal.returns-in_default-clause-journal
returns-in_default-clause-journal g c = recorded_none c.args.bench.now.transaction

pub apply_plan-requires-clause-free : goal.apply_plan-requires-clause-free
apply_plan-requires-clause-free g c =
    free_held c.world-world.result.now c.args.bench.now.transaction c.world-world.ensures.ctx c.world-world.ensures.store c.args.op c.in-Some.found (subst (IsHighestPriority c.world-world.result.now c.args.op) c.in-Some.is c.in-Ok.ensures)
    c.no_edit_is_refused.ensures c.is_wellformed.ensures.sound c.is_wellformed.ensures.wellformed

pub returns-in_default-clause-there : goal.returns-in_default-clause-there
returns-in_default-clause-there g c gone = absurd (is_there c.world-world.result.now c.args.bench.now.transaction c.world-world.ensures.ctx c.world-world.ensures.store c.args.op c.in_tree.result c.in_tree.ensures c.if-not-in_tree.false gone)

pub returns-in_default-highest_rule-clause-there : goal.returns-in_default-highest_rule-clause-there
returns-in_default-highest_rule-clause-there g c gone = absurd (is_there c.world-world.result.now c.args.bench.now.transaction c.world-world.ensures.ctx c.world-world.ensures.store c.args.op c.in_tree.result c.in_tree.ensures c.if-not-in_tree.false gone)

pub returns-in-Ok-apply_plan-clause-there : goal.returns-in-Ok-apply_plan-clause-there
returns-in-Ok-apply_plan-clause-there g c gone = absurd (is_there c.world-world.result.now c.args.bench.now.transaction c.world-world.ensures.ctx c.world-world.ensures.store c.args.op c.in_tree.result c.in_tree.ensures c.if-not-in_tree.false gone)

pub returns-in-Err-clause-there : goal.returns-in-Err-clause-there
returns-in-Err-clause-there g c gone = absurd (is_there c.world-world.result.now c.args.bench.now.transaction c.world-world.ensures.ctx c.world-world.ensures.store c.args.op c.in_tree.result c.in_tree.ensures c.if-not-in_tree.false gone)

pub returns-in_default-highest_rule-clause-applied : goal.returns-in_default-highest_rule-clause-applied
returns-in_default-highest_rule-clause-applied g c = sym (none_applied c.world-world.result.now c.args.bench.now.transaction c.world-world.ensures.ctx c.world-world.ensures.store c.args.op (subst (IsHighestPriority c.world-world.result.now c.args.op) c.in_default-highest_rule.is c.in-Ok.ensures))

pub returns-in-Ok-apply_plan-clause-applied : goal.returns-in-Ok-apply_plan-clause-applied
returns-in-Ok-apply_plan-clause-applied g c = sym (applied_held c.world-world.result.now c.args.bench.now.transaction c.world-world.ensures.ctx c.world-world.ensures.store c.args.op c.in-Some.found (subst (IsHighestPriority c.world-world.result.now c.args.op) c.in-Some.is c.in-Ok.ensures))
