use Rattle.std.proofs.Common.{option_map, ap, sym, ◌∙◌}
use Rattle.ir_event.specs.Modules.{module_in}
use Rattle.patterns_plans.specs.reads.Reads.{header_of_node}
use Rattle.patterns.specs.Planned.{made_edits}
use Rattle.patterns.proofs.Planned.{none_there, none_insertion, none_suited}
use Rattle.patterns.proofs.plan.find_plan.Goals as goal

pub made_at-requires-clause-eligible : goal.made_at-requires-clause-eligible
made_at-requires-clause-eligible c =
    sym (c.allows.ensures (module_in c.args.world.now).tree (record (header_of_node c.args.world.now.ctx c.in-Some.node) { id = c.args.op }) c.in_ok-eligibility.ensures) ∙ c.if-not-allows.false

pub returns-in_default-clause-edits : goal.returns-in_default-clause-edits
returns-in_default-clause-edits c = none_there c.args.rule (module_in c.args.world.now) c.args.op c.in_default.ensures.node

pub returns-in_default-insertion_point_before-clause-edits : goal.returns-in_default-insertion_point_before-clause-edits
returns-in_default-insertion_point_before-clause-edits c = none_insertion c.args.rule (module_in c.args.world.now) c.args.op c.in_default-insertion_point_before.ensures

pub returns-then-not-allows-clause-edits : goal.returns-then-not-allows-clause-edits
returns-then-not-allows-clause-edits c =
    none_suited c.args.rule (module_in c.args.world.now) c.args.op (header_of_node c.args.world.now.ctx c.in-Some.node) c.allows.result c.in-Some.ensures.node
    (c.allows.ensures (module_in c.args.world.now).tree (record (header_of_node c.args.world.now.ctx c.in-Some.node) { id = c.args.op }) c.in_ok-eligibility.ensures) c.if-not-allows.true

pub returns-in-Some-2-clause-edits : goal.returns-in-Some-2-clause-edits
returns-in-Some-2-clause-edits c = ap (option_map (made_edits c.args.world.now.ctx (module_in c.args.world.now).next c.args.op c.in-Some-insertion_point_before.point)) (sym c.in-Some-2.is) ∙ c.in_ok-made.ensures.edits

pub returns-in-None-clause-edits : goal.returns-in-None-clause-edits
returns-in-None-clause-edits c = ap (option_map (made_edits c.args.world.now.ctx (module_in c.args.world.now).next c.args.op c.in-Some-insertion_point_before.point)) (sym c.in-None.is) ∙ c.in_ok-made.ensures.edits
