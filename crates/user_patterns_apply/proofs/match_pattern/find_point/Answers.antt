use Rattle.ir_event.specs.Modules.{module_in}
use Rattle.patterns_matchers.specs.Reads.{header_of_node}
use Rattle.user_patterns_apply.proofs.Found.{nowhere, nowhere_fails, not_single, not_single_fails, single_point, single_tests}
use Rattle.user_patterns_apply.proofs.match_pattern.find_point.Goals as goal

pub returns-in_default-clause-point : goal.returns-in_default-clause-point
returns-in_default-clause-point c = nowhere c.args.op (module_in c.args.world.now).tree c.in_default.ensures.node

pub returns-in_default-clause-tests : goal.returns-in_default-clause-tests
returns-in_default-clause-tests c = nowhere_fails c.args.op (module_in c.args.world.now).tree c.in_default.ensures.node

pub returns-then-not-is_single-clause-point : goal.returns-then-not-is_single-clause-point
returns-then-not-is_single-clause-point c =
    not_single c.args.op (module_in c.args.world.now).tree (header_of_node c.args.world.now.ctx c.in-Some.node) c.in-Some.ensures.node c.is_single.result (c.is_single.ensures c.args.world.now.ctx) c.if-not-is_single.true

pub returns-then-not-is_single-clause-tests : goal.returns-then-not-is_single-clause-tests
returns-then-not-is_single-clause-tests c =
    not_single_fails c.args.op (module_in c.args.world.now).tree (header_of_node c.args.world.now.ctx c.in-Some.node) c.in-Some.ensures.node c.is_single.result (c.is_single.ensures c.args.world.now.ctx) c.if-not-is_single.true

pub returns-in-Some-insertion_point_before-clause-point : goal.returns-in-Some-insertion_point_before-clause-point
returns-in-Some-insertion_point_before-clause-point c =
    single_point c.args.op (module_in c.args.world.now).tree (header_of_node c.args.world.now.ctx c.in-Some.node) c.in-Some.ensures.node c.is_single.result (c.is_single.ensures c.args.world.now.ctx) c.if-not-is_single.false _ c.in-Some-insertion_point_before.ensures

pub returns-in-Some-insertion_point_before-clause-tests : goal.returns-in-Some-insertion_point_before-clause-tests
returns-in-Some-insertion_point_before-clause-tests c =
    single_tests c.args.op (module_in c.args.world.now).tree (header_of_node c.args.world.now.ctx c.in-Some.node) c.in-Some.ensures.node c.is_single.result (c.is_single.ensures c.args.world.now.ctx) c.if-not-is_single.false _ c.in-Some-insertion_point_before.ensures

pub returns-in-None-clause-point : goal.returns-in-None-clause-point
returns-in-None-clause-point c =
    single_point c.args.op (module_in c.args.world.now).tree (header_of_node c.args.world.now.ctx c.in-Some.node) c.in-Some.ensures.node c.is_single.result (c.is_single.ensures c.args.world.now.ctx) c.if-not-is_single.false _ c.in-None.ensures

pub returns-in-None-clause-tests : goal.returns-in-None-clause-tests
returns-in-None-clause-tests c =
    single_tests c.args.op (module_in c.args.world.now).tree (header_of_node c.args.world.now.ctx c.in-Some.node) c.in-Some.ensures.node c.is_single.result (c.is_single.ensures c.args.world.now.ctx) c.if-not-is_single.false _ c.in-None.ensures
