use Rattle.std.proofs.Common.{◌∙◌, ap, sym, subst}
use Rattle.ir_event.specs.types.Terms.{name_term}
use Rattle.ir_event.specs.Modules.{module_in}
use Rattle.patterns_soundness.specs.base.Rules.{rules_for}
use Rattle.patterns_plans.specs.reads.Reads.{header_of_node}
use Rattle.patterns_plans.specs.reads.Suited.{IsEligibilityOf}
use Rattle.patterns.proofs.Firsts.{none_highest_priority}
use Rattle.patterns.proofs.Lowering.{row_suffices, none_first_highest_priority, first_highest_priority}
use Rattle.patterns.proofs.Planned.{none_there, none_insertion, none_in_order}
use Rattle.patterns.proofs.apply_highest_priority.find_highest_priority.Goals as goal

pub returns-in_default : goal.returns-in_default
returns-in_default c = none_highest_priority (module_in c.args.world.now) c.args.op (λ r. none_there r (module_in c.args.world.now) c.args.op c.in_default.ensures.node)

pub returns-in_default-insertion_point_before : goal.returns-in_default-insertion_point_before
returns-in_default-insertion_point_before c = none_highest_priority (module_in c.args.world.now) c.args.op (λ r. none_insertion r (module_in c.args.world.now) c.args.op c.in_default-insertion_point_before.ensures)

pub returns-in-Ineligible : goal.returns-in-Ineligible
returns-in-Ineligible c =
    none_highest_priority (module_in c.args.world.now) c.args.op
    (λ r. none_in_order r (module_in c.args.world.now) c.args.op (header_of_node c.args.world.now.ctx c.in-Some.node) c.in-Some.ensures.node
    (subst (IsEligibilityOf (module_in c.args.world.now).tree (record (header_of_node c.args.world.now.ctx c.in-Some.node) { id = c.args.op })) c.in-Ineligible.is c.in_ok-eligibility.ensures))

pub returns-in_default-likely : goal.returns-in_default-likely
returns-in_default-likely c =
    (row_suffices c.only_listed_rules_apply.ensures.applies (module_in c.args.world.now) c.args.op (header_of_node c.args.world.now.ctx c.in-Some.node) c.in-Some.ensures.node c.rules_of-listed.result.now
    (c.rules_of-listed.ensures c.args.world.now.ctx c.sound.ensures ∙ ap (λ n. rules_for (name_term c.args.world.now.ctx n)) c.name.ensures))
    ∙ c.in_default-likely.ensures.likely

pub returns-in-None : goal.returns-in-None
returns-in-None c =
    none_first_highest_priority c.args.world.now c.args.op c.in-Some-insertion_point_before.point c.in-Some-likely.rules.now
    ((row_suffices c.only_listed_rules_apply.ensures.applies (module_in c.args.world.now) c.args.op (header_of_node c.args.world.now.ctx c.in-Some.node) c.in-Some.ensures.node c.rules_of-listed.result.now
    (c.rules_of-listed.ensures c.args.world.now.ctx c.sound.ensures ∙ ap (λ n. rules_for (name_term c.args.world.now.ctx n)) c.name.ensures)) ∙ c.in-Some-likely.ensures.likely)
    _ c.in_ok-rule.ensures c.in-None.is

pub returns-in-Some-2 : goal.returns-in-Some-2
returns-in-Some-2 c =
    first_highest_priority c.args.world.now c.args.op c.in-Some-insertion_point_before.point c.in-Some-likely.rules.now
    ((row_suffices c.only_listed_rules_apply.ensures.applies (module_in c.args.world.now) c.args.op (header_of_node c.args.world.now.ctx c.in-Some.node) c.in-Some.ensures.node c.rules_of-listed.result.now
    (c.rules_of-listed.ensures c.args.world.now.ctx c.sound.ensures ∙ ap (λ n. rules_for (name_term c.args.world.now.ctx n)) c.name.ensures)) ∙ c.in-Some-likely.ensures.likely)
    _ c.in-Some-2.rule c.in-Some-2.made c.in_ok-rule.ensures c.in-Some-2.is
