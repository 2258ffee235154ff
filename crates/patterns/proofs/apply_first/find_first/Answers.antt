use Rattle.std.proofs.Common.{◌∙◌, ap, sym, subst}
use Rattle.ir_event.specs.types.Terms.{name_term}
use Rattle.ir_event.specs.Modules.{module_in}
use Rattle.patterns_plans.specs.reads.Reads.{header_of_node}
use Rattle.patterns_plans.specs.reads.Suited.{IsEligibilityOf}
use Rattle.patterns.specs.Rows.{those_for}
use Rattle.patterns.proofs.Firsts.{none_of}
use Rattle.patterns.proofs.ByList.{list_suffices, none_of_list, some_of_list}
use Rattle.patterns.proofs.Planned.{none_there, none_insertion, none_in_order}
use Rattle.patterns.proofs.apply_first.find_first.Goals as goal

pub returns-in_default : goal.returns-in_default
returns-in_default c = none_of c.args.rows.now.rules.now (module_in c.args.world.now) c.args.op (λ r. none_there r (module_in c.args.world.now) c.args.op c.in_default.ensures.node)

pub returns-in_default-insertion_point_before : goal.returns-in_default-insertion_point_before
returns-in_default-insertion_point_before c = none_of c.args.rows.now.rules.now (module_in c.args.world.now) c.args.op (λ r. none_insertion r (module_in c.args.world.now) c.args.op c.in_default-insertion_point_before.ensures)

pub returns-in-Ineligible : goal.returns-in-Ineligible
returns-in-Ineligible c =
    none_of c.args.rows.now.rules.now (module_in c.args.world.now) c.args.op
    (λ r. none_in_order r (module_in c.args.world.now) c.args.op (header_of_node c.args.world.now.ctx c.in-Some.node) c.in-Some.ensures.node
    (subst (IsEligibilityOf (module_in c.args.world.now).tree (record (header_of_node c.args.world.now.ctx c.in-Some.node) { id = c.args.op })) c.in-Ineligible.is c.in_ok-eligibility.ensures))

pub returns-in_default-likely : goal.returns-in_default-likely
returns-in_default-likely c =
    let rs = c.args.rows.now.rules.now in
    (list_suffices c.only_listed_rules_apply.ensures.applies (module_in c.args.world.now) c.args.op (header_of_node c.args.world.now.ctx c.in-Some.node) c.in-Some.ensures.node rs c.requires.canonical c.rules_for-listed.result.now
    (c.rules_for-listed.ensures ∙ c.requires.by_name c.args.world.now.ctx c.sound.ensures _ ∙ ap (λ n. those_for rs (name_term c.args.world.now.ctx n)) c.name.ensures))
    ∙ c.in_default-likely.ensures.likely

pub returns-in-None : goal.returns-in-None
returns-in-None c =
    let rs = c.args.rows.now.rules.now in
    none_of_list c.args.world.now c.args.op c.in-Some-insertion_point_before.point rs c.in-Some-likely.rules.now
    ((list_suffices c.only_listed_rules_apply.ensures.applies (module_in c.args.world.now) c.args.op (header_of_node c.args.world.now.ctx c.in-Some.node) c.in-Some.ensures.node rs c.requires.canonical c.rules_for-listed.result.now
    (c.rules_for-listed.ensures ∙ c.requires.by_name c.args.world.now.ctx c.sound.ensures _ ∙ ap (λ n. those_for rs (name_term c.args.world.now.ctx n)) c.name.ensures)) ∙ c.in-Some-likely.ensures.likely)
    _ c.in_ok-rule.ensures c.in-None.is

pub returns-in-Some-2 : goal.returns-in-Some-2
returns-in-Some-2 c =
    let rs = c.args.rows.now.rules.now in
    some_of_list c.args.world.now c.args.op c.in-Some-insertion_point_before.point rs c.in-Some-likely.rules.now
    ((list_suffices c.only_listed_rules_apply.ensures.applies (module_in c.args.world.now) c.args.op (header_of_node c.args.world.now.ctx c.in-Some.node) c.in-Some.ensures.node rs c.requires.canonical c.rules_for-listed.result.now
    (c.rules_for-listed.ensures ∙ c.requires.by_name c.args.world.now.ctx c.sound.ensures _ ∙ ap (λ n. those_for rs (name_term c.args.world.now.ctx n)) c.name.ensures)) ∙ c.in-Some-likely.ensures.likely)
    _ c.in-Some-2.rule c.in-Some-2.made c.in_ok-rule.ensures c.in-Some-2.is
