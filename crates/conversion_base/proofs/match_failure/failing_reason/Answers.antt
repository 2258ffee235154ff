use Rattle.std.proofs.Common.{◌∙◌, ap, sym, ℕ}
use Rattle.std.proofs.lemmas.Result.{IfOk-weaker}
use Rattle.ir_event.specs.types.Terms.{name_term}
use Rattle.ir_event.specs.Modules.{module_in}
use Rattle.patterns_base.specs.Rules.{has_rule}
use Rattle.patterns_lowering.specs.region_rules.reads.Reads.{header_of_node}
use Rattle.conversion_base.proofs.Reasoned.{requested, at_root, nowhere, other, unfit}
use Rattle.conversion_base.proofs.match_failure.failing_reason.Goals as goal

pub returns-in_default : goal.returns-in_default
returns-in_default c = nowhere c.args.rule (module_in c.args.world.now) c.args.op c.in_default.ensures.node

pub returns-in_default-insertion_point_before : goal.returns-in_default-insertion_point_before
returns-in_default-insertion_point_before c =
    at_root c.args.rule (module_in c.args.world.now) c.args.op (header_of_node c.args.world.now.ctx c.in-Some.node) c.in-Some.ensures.node c.in_default-insertion_point_before.ensures

pub returns-then-not-allows : goal.returns-then-not-allows
returns-then-not-allows c =
    let m = module_in c.args.world.now in
    let h = header_of_node c.args.world.now.ctx c.in-Some.node in
    unfit c.args.rule m c.args.op h c.in-Some.ensures.node c.in-Some-insertion_point_before.point c.in-Some-insertion_point_before.ensures c.allows.result
    (c.allows.ensures m.tree (record h { id = c.args.op }) c.in_ok-eligibility.ensures) c.if-not-allows.true

pub returns-then-not-has_rule : goal.returns-then-not-has_rule
returns-then-not-has_rule c =
    let m = module_in c.args.world.now in
    let h = header_of_node c.args.world.now.ctx c.in-Some.node in
    other c.args.rule m c.args.op h c.in-Some.ensures.node c.in-Some-insertion_point_before.point c.in-Some-insertion_point_before.ensures c.allows.result
    (c.allows.ensures m.tree (record h { id = c.args.op }) c.in_ok-eligibility.ensures) c.if-not-allows.false c.has_rule.result (c.has_rule.ensures ∙ ap (λ (n : ℕ). has_rule c.args.rule (name_term c.args.world.now.ctx n)) c.name.ensures) c.if-not-has_rule.true

pub reason_at-requires-clause-eligible : goal.reason_at-requires-clause-eligible
reason_at-requires-clause-eligible c =
    let h = header_of_node c.args.world.now.ctx c.in-Some.node in
    sym (c.allows.ensures (module_in c.args.world.now).tree (record h { id = c.args.op }) c.in_ok-eligibility.ensures) ∙ c.if-not-allows.false

pub returns : goal.returns
returns c =
    let m = module_in c.args.world.now in
    let h = header_of_node c.args.world.now.ctx c.in-Some.node in
    IfOk-weaker c.reason_at.result _ _
    (λ k t. requested c.args.rule m c.args.op h c.in-Some.ensures.node c.in-Some-insertion_point_before.point c.in-Some-insertion_point_before.ensures c.allows.result
    (c.allows.ensures m.tree (record h { id = c.args.op }) c.in_ok-eligibility.ensures) c.if-not-allows.false c.has_rule.result k (c.has_rule.ensures ∙ ap (λ (n : ℕ). has_rule c.args.rule (name_term c.args.world.now.ctx n)) c.name.ensures) c.if-not-has_rule.false t)
    c.reason_at.ensures
