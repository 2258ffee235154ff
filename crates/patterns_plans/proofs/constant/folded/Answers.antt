use Rattle.std.proofs.Common.{map}
use Rattle.ir_event.specs.Modules.{module_in}
use Rattle.dialects_int.specs.Folds.{known_of}
use Rattle.patterns_matchers.specs.Reads.{header_of_node}
use Rattle.patterns_plans.proofs.Folded.{fold_failed}
use Rattle.patterns_plans.proofs.constant.folded.Goals as goal

pub returns-in_default-clause-reason : goal.returns-in_default-clause-reason
returns-in_default-clause-reason c =
    fold_failed (module_in c.args.world.now).tree (header_of_node c.args.world.now.ctx c.args.node.now) c.requires.named (map known_of c.args.operands.now) c.unfolded_reason.result c.requires.known c.unfolded_reason.ensures

pub returns-in-None-clause-reason : goal.returns-in-None-clause-reason
returns-in-None-clause-reason c =
    fold_failed (module_in c.args.world.now).tree (header_of_node c.args.world.now.ctx c.args.node.now) c.requires.named (map known_of c.args.operands.now) c.unfolded_reason-in-None.result c.requires.known c.unfolded_reason-in-None.ensures
