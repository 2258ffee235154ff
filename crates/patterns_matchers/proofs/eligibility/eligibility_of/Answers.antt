use Rattle.std.proofs.Common.{◌∙◌, subst, sym}
use Rattle.patterns_base.specs.events.Modules.{module_in}
use Rattle.patterns_matchers.specs.Reads.{header_of_node}
use Rattle.patterns_matchers.specs.Suited.{IsVerdictOf}
use Rattle.patterns_matchers.proofs.Cleaned.{inherent_in}
use Rattle.patterns_matchers.proofs.Suited.{all_right, only_in_order, reported_of, unfit}
use Rattle.patterns_matchers.proofs.eligibility.eligibility_of.Goals as goal

pub returns-then-not-are_inherent : goal.returns-then-not-are_inherent
returns-then-not-are_inherent c =
    unfit (module_in c.args.world.now).tree (record (header_of_node c.args.world.now.ctx c.args.node.now) { id = c.args.op })
    (sym (c.are_inherent.ensures ∙ inherent_in c.args.world.now.ctx c.args.node.now c.name.result c.properties.result.now c.name.ensures c.properties.ensures) ∙ c.if-not-are_inherent.true)

pub returns-in-Valid : goal.returns-in-Valid
returns-in-Valid c =
    let reported = subst (IsVerdictOf c.args.op (module_in c.args.world.now).tree) c.in-Valid.is c.in_ok-verdict.ensures in
    all_right (module_in c.args.world.now).tree (record (header_of_node c.args.world.now.ctx c.args.node.now) { id = c.args.op })
    (sym (c.are_inherent.ensures ∙ inherent_in c.args.world.now.ctx c.args.node.now c.name.result c.properties.result.now c.name.ensures c.properties.ensures) ∙ c.if-not-are_inherent.false)
    reported

pub returns-in-Unlisted : goal.returns-in-Unlisted
returns-in-Unlisted c =
    let reported = subst (IsVerdictOf c.args.op (module_in c.args.world.now).tree) c.in-Unlisted.is c.in_ok-verdict.ensures in
    only_in_order (module_in c.args.world.now).tree (record (header_of_node c.args.world.now.ctx c.args.node.now) { id = c.args.op })
    (sym (c.are_inherent.ensures ∙ inherent_in c.args.world.now.ctx c.args.node.now c.name.result c.properties.result.now c.name.ensures c.properties.ensures) ∙ c.if-not-are_inherent.false)
    reported.0 reported.1

pub returns-in-Invalid : goal.returns-in-Invalid
returns-in-Invalid c =
    let reported = subst (IsVerdictOf c.args.op (module_in c.args.world.now).tree) c.in-Invalid.is c.in_ok-verdict.ensures in
    reported_of (module_in c.args.world.now).tree (record (header_of_node c.args.world.now.ctx c.args.node.now) { id = c.args.op })
    (sym (c.are_inherent.ensures ∙ inherent_in c.args.world.now.ctx c.args.node.now c.name.result c.properties.result.now c.name.ensures c.properties.ensures) ∙ c.if-not-are_inherent.false)
    reported
