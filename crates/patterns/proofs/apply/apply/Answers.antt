use Rattle.std.proofs.Common.{◌∙◌, refl, inl}
use Rattle.patterns_soundness.specs.base.Rewrites.{rewrite_of}
use Rattle.patterns_lowering.specs.Held.{module_held}
use Rattle.patterns.specs.Planned.{planned_edits}
use Rattle.patterns.proofs.Applying.{edits_due, gave, is_there, not_there, rewrite_due, aborted, was_none}
use Rattle.patterns.proofs.Carrying.{applied_none, journaled_none}
use Rattle.patterns_lowering.proofs.Journals.{recorded_none}
use Rattle.patterns.proofs.Acceptance.{accepted_of}
use Rattle.patterns.proofs.apply.apply.Goals as goal

pub returns-then-not-in_tree-clause-refused : goal.returns-then-not-in_tree-clause-refused
returns-then-not-in_tree-clause-refused g c = not_there c.world-world.result.now c.args.bench.now.transaction c.world-world.ensures.ctx c.world-world.ensures.store c.args.op (rewrite_of c.args.rule (module_held c.args.bench.now.transaction) c.args.op) c.args.bench.now.transaction.ctx c.in_tree.result c.in_tree.ensures c.if-not-in_tree.true

pub returns-then-not-in_tree-clause-stays : goal.returns-then-not-in_tree-clause-stays
returns-then-not-in_tree-clause-stays g c = applied_none g.L.Analysis.meaning c.args.bench.now

pub returns-in_default-clause-refused : goal.returns-in_default-clause-refused
returns-in_default-clause-refused g c = inl refl

pub returns-in_default-clause-stays : goal.returns-in_default-clause-stays
returns-in_default-clause-stays g c = applied_none g.L.Analysis.meaning c.args.bench.now

pub returns-in_default-found-clause-ok : goal.returns-in_default-found-clause-ok
returns-in_default-found-clause-ok g c = was_none c.world-world.result.now c.args.bench.now.transaction c.world-world.ensures.ctx c.world-world.ensures.store c.args.op (λ d n p. planned_edits d n c.args.op p) c.args.rule c.in-Ok.found c.in-Ok.ensures.edits c.in_default-found.is

pub returns-in_default-found-clause-stays : goal.returns-in_default-found-clause-stays
returns-in_default-found-clause-stays g c = applied_none g.L.Analysis.meaning c.args.bench.now

pub returns-in-Ok-apply_plan-clause-ok : goal.returns-in-Ok-apply_plan-clause-ok
returns-in-Ok-apply_plan-clause-ok g c =
    gave (rewrite_of c.args.rule (module_held c.args.bench.now.transaction) c.args.op) (module_held c.args.bench.now.transaction) (module_held c.apply_plan.new.bench.transaction)
    (rewrite_due c.world-world.result.now c.args.bench.now.transaction c.world-world.ensures.ctx c.world-world.ensures.store c.args.op (λ d n p. planned_edits d n c.args.op p) c.args.rule c.in-Ok.found c.in-Ok.ensures.edits c.in-Some.planned c.in-Some.is ∙ c.in-Ok-apply_plan.ensures.carried)

pub returns-in-Err-clause-err : goal.returns-in-Err-clause-err
returns-in-Err-clause-err g c = c.in-Err.ensures.carried.0

pub returns-in-Err-clause-refused : goal.returns-in-Err-clause-refused
returns-in-Err-clause-refused g c =
    aborted (rewrite_of c.args.rule (module_held c.args.bench.now.transaction) c.args.op) (planned_edits c.args.bench.now.transaction.ctx (module_held c.args.bench.now.transaction).next c.args.op c.in-Some.planned) c.args.op (module_held c.args.bench.now.transaction) c.apply_plan.new.bench.transaction.ctx c.in-Err.refusal
    (rewrite_due c.world-world.result.now c.args.bench.now.transaction c.world-world.ensures.ctx c.world-world.ensures.store c.args.op (λ d n p. planned_edits d n c.args.op p) c.args.rule c.in-Ok.found c.in-Ok.ensures.edits c.in-Some.planned c.in-Some.is) c.in-Err.ensures.carried.1

pub returns-in_default-found-clause-journal : goal.returns-in_default-found-clause-journal
returns-in_default-found-clause-journal g c = journaled_none g.L.Analysis.meaning c.args.bench.now

pub returns-then-not-in_tree-clause-journal : goal.returns-then-not-in_tree-clause-journal
returns-then-not-in_tree-clause-journal g c = recorded_none c.args.bench.now.transaction

pub returns-in_default-clause-journal : goal.returns-in_default-clause-journal
returns-in_default-clause-journal g c = recorded_none c.args.bench.now.transaction

pub apply_plan-requires-clause-free : goal.apply_plan-requires-clause-free
apply_plan-requires-clause-free g c n e =
    accepted_of c.no_edit_is_refused.ensures c.args.bench.now.transaction c.is_wellformed.ensures.sound c.is_wellformed.ensures.wellformed c.args.rule c.args.op
    (planned_edits c.args.bench.now.transaction.ctx (module_held c.args.bench.now.transaction).next c.args.op c.in-Some.planned) n
    (edits_due c.world-world.result.now c.args.bench.now.transaction c.world-world.ensures.ctx c.world-world.ensures.store c.args.op (λ d n p. planned_edits d n c.args.op p) c.args.rule c.in-Ok.found c.in-Ok.ensures.edits c.in-Some.planned c.in-Some.is) e

pub returns-in_default-clause-there : goal.returns-in_default-clause-there
returns-in_default-clause-there g c gone = absurd (is_there c.world-world.result.now c.args.bench.now.transaction c.world-world.ensures.ctx c.world-world.ensures.store c.args.op c.in_tree.result c.in_tree.ensures c.if-not-in_tree.false gone)

pub returns-in_default-found-clause-there : goal.returns-in_default-found-clause-there
returns-in_default-found-clause-there g c gone = absurd (is_there c.world-world.result.now c.args.bench.now.transaction c.world-world.ensures.ctx c.world-world.ensures.store c.args.op c.in_tree.result c.in_tree.ensures c.if-not-in_tree.false gone)

pub returns-in-Ok-apply_plan-clause-there : goal.returns-in-Ok-apply_plan-clause-there
returns-in-Ok-apply_plan-clause-there g c gone = absurd (is_there c.world-world.result.now c.args.bench.now.transaction c.world-world.ensures.ctx c.world-world.ensures.store c.args.op c.in_tree.result c.in_tree.ensures c.if-not-in_tree.false gone)

pub returns-in-Err-clause-there : goal.returns-in-Err-clause-there
returns-in-Err-clause-there g c gone = absurd (is_there c.world-world.result.now c.args.bench.now.transaction c.world-world.ensures.ctx c.world-world.ensures.store c.args.op c.in_tree.result c.in_tree.ensures c.if-not-in_tree.false gone)
