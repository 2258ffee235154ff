use Rattle.std.proofs.Common.{◌∙◌}
use Rattle.patterns_base.specs.events.Modules.{module_in}
use Rattle.patterns_matchers.specs.Reads.{header_of_node}
use Rattle.patterns_matchers.proofs.Cleaned.{not_verified, as_inherent, inherent_in}
use Rattle.patterns_matchers.proofs.verified.is_verified.Goals as goal

pub returns-then-not-branch : goal.returns-then-not-branch
returns-then-not-branch c = not_verified (module_in c.args.world.now).tree (record (header_of_node c.args.world.now.ctx c.args.node.now) { id = c.args.op }) _ c.in_ok-breaks_no_rule.ensures c.if-not-branch.true

pub returns : goal.returns
returns c =
    as_inherent (module_in c.args.world.now).tree (record (header_of_node c.args.world.now.ctx c.args.node.now) { id = c.args.op }) _ c.are_inherent.result c.in_ok-breaks_no_rule.ensures c.if-not-branch.false
    (c.are_inherent.ensures ∙ inherent_in c.args.world.now.ctx c.args.node.now c.name.result c.properties.result.now c.name.ensures c.properties.ensures)
