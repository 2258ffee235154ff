use Rattle.std.proofs.Common.{◌∙◌, ap, refl, inl}
use Rattle.std.specs.Result.{result_ok}
use Rattle.patterns_lowering.specs.Held.{module_held}
use Rattle.user_patterns_data.specs.Shapes.{pattern_model}
use Rattle.user_patterns_apply.specs.Own.{user_pattern_rewrite}
use Rattle.user_patterns_apply.specs.Planned.{planned_edits}
use Rattle.user_patterns_apply.proofs.Found.{edits_due, rewrite_due, was_none}
use Rattle.ir_event.proofs.Steps.{wellformed_meaning}
use Rattle.patterns.proofs.Applying.{gave, is_there, not_there, aborted}
use Rattle.patterns.proofs.Carrying.{applied_none, journaled_none}
use Rattle.patterns_lowering.proofs.Journals.{recorded_none}
use Rattle.user_patterns_apply.proofs.apply.apply_pattern.Goals as goal

pub returns-then-not-in_tree-clause-refused : goal.returns-then-not-in_tree-clause-refused
returns-then-not-in_tree-clause-refused g c = not_there c.world-world.result.now c.args.bench.now.transaction c.world-world.ensures.ctx c.world-world.ensures.store c.args.op (user_pattern_rewrite (pattern_model c.args.pattern.now) (module_held c.args.bench.now.transaction) c.args.op) c.args.bench.now.transaction.ctx c.in_tree.result c.in_tree.ensures c.if-not-in_tree.true

pub returns-then-not-in_tree-clause-stays : goal.returns-then-not-in_tree-clause-stays
returns-then-not-in_tree-clause-stays g c = applied_none g.L.Analysis.meaning c.args.bench.now

pub returns-in_default-clause-refused : goal.returns-in_default-clause-refused
returns-in_default-clause-refused g c = inl refl

pub returns-in_default-clause-stays : goal.returns-in_default-clause-stays
returns-in_default-clause-stays g c = applied_none g.L.Analysis.meaning c.args.bench.now

pub returns-in_default-found-clause-ok : goal.returns-in_default-found-clause-ok
returns-in_default-found-clause-ok g c = was_none c.world-world.result.now c.args.bench.now.transaction c.world-world.ensures.ctx c.world-world.ensures.store c.args.op (pattern_model c.args.pattern.now) (result_ok c.in-Ok.found) c.in-Ok.ensures.edits (ap (λ r. result_ok r) c.in_default-found.is)

pub returns-in_default-found-clause-stays : goal.returns-in_default-found-clause-stays
returns-in_default-found-clause-stays g c = applied_none g.L.Analysis.meaning c.args.bench.now

pub returns-in-Ok-apply_plan-clause-ok : goal.returns-in-Ok-apply_plan-clause-ok
returns-in-Ok-apply_plan-clause-ok g c =
    gave (user_pattern_rewrite (pattern_model c.args.pattern.now) (module_held c.args.bench.now.transaction) c.args.op) (module_held c.args.bench.now.transaction) (module_held c.apply_plan.new.bench.transaction)
    (rewrite_due c.world-world.result.now c.args.bench.now.transaction c.world-world.ensures.ctx c.world-world.ensures.store c.args.op (pattern_model c.args.pattern.now) (result_ok c.in-Ok.found) c.in-Ok.ensures.edits c.in-Ok-found.planned (ap (λ r. result_ok r) c.in-Ok-found.is) ∙ c.in-Ok-apply_plan.ensures.carried)

pub returns-clause-err : goal.returns-clause-err
returns-clause-err g c = c.in-Err.ensures.carried.0

pub returns-clause-refused : goal.returns-clause-refused
returns-clause-refused g c =
    aborted (user_pattern_rewrite (pattern_model c.args.pattern.now) (module_held c.args.bench.now.transaction) c.args.op) (planned_edits c.args.bench.now.transaction.ctx (module_held c.args.bench.now.transaction).next c.args.op c.in-Ok-found.planned) c.args.op (module_held c.args.bench.now.transaction) c.apply_plan.new.bench.transaction.ctx c.in-Err.refusal
    (rewrite_due c.world-world.result.now c.args.bench.now.transaction c.world-world.ensures.ctx c.world-world.ensures.store c.args.op (pattern_model c.args.pattern.now) (result_ok c.in-Ok.found) c.in-Ok.ensures.edits c.in-Ok-found.planned (ap (λ r. result_ok r) c.in-Ok-found.is)) c.in-Err.ensures.carried.1

pub returns-in_default-found-clause-journal : goal.returns-in_default-found-clause-journal
returns-in_default-found-clause-journal g c = journaled_none g.L.Analysis.meaning c.args.bench.now

pub returns-then-not-in_tree-clause-journal : goal.returns-then-not-in_tree-clause-journal
returns-then-not-in_tree-clause-journal g c = recorded_none c.args.bench.now.transaction

pub returns-in_default-clause-journal : goal.returns-in_default-clause-journal
returns-in_default-clause-journal g c = recorded_none c.args.bench.now.transaction

pub apply_plan-requires-clause-free : goal.apply_plan-requires-clause-free
apply_plan-requires-clause-free g c n e =
    c.pattern_edits_are_accepted.ensures (pattern_model c.args.pattern.now) (module_held c.args.bench.now.transaction) c.args.op
    (wellformed_meaning c.args.bench.now.transaction.ctx c.args.bench.now.transaction.store.module_of c.is_wellformed.ensures.wellformed)
    (planned_edits c.args.bench.now.transaction.ctx (module_held c.args.bench.now.transaction).next c.args.op c.in-Ok-found.planned) n
    (edits_due c.world-world.result.now c.args.bench.now.transaction c.world-world.ensures.ctx c.world-world.ensures.store c.args.op (pattern_model c.args.pattern.now) (result_ok c.in-Ok.found) c.in-Ok.ensures.edits c.in-Ok-found.planned (ap (λ r. result_ok r) c.in-Ok-found.is)) e

pub returns-in_default-clause-there : goal.returns-in_default-clause-there
returns-in_default-clause-there g c gone = absurd (is_there c.world-world.result.now c.args.bench.now.transaction c.world-world.ensures.ctx c.world-world.ensures.store c.args.op c.in_tree.result c.in_tree.ensures c.if-not-in_tree.false gone)

pub returns-in_default-found-clause-there : goal.returns-in_default-found-clause-there
returns-in_default-found-clause-there g c gone = absurd (is_there c.world-world.result.now c.args.bench.now.transaction c.world-world.ensures.ctx c.world-world.ensures.store c.args.op c.in_tree.result c.in_tree.ensures c.if-not-in_tree.false gone)

pub returns-in-Ok-apply_plan-clause-there : goal.returns-in-Ok-apply_plan-clause-there
returns-in-Ok-apply_plan-clause-there g c gone = absurd (is_there c.world-world.result.now c.args.bench.now.transaction c.world-world.ensures.ctx c.world-world.ensures.store c.args.op c.in_tree.result c.in_tree.ensures c.if-not-in_tree.false gone)

pub returns-clause-there : goal.returns-clause-there
returns-clause-there g c gone = absurd (is_there c.world-world.result.now c.args.bench.now.transaction c.world-world.ensures.ctx c.world-world.ensures.store c.args.op c.in_tree.result c.in_tree.ensures c.if-not-in_tree.false gone)
