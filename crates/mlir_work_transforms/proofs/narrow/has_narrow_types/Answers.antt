use Rattle.std.proofs.Common.{◌∙◌}
use Rattle.mlir_work_transforms.proofs.Narrowed.{narrow_meaning}
use Rattle.mlir_work_transforms.proofs.narrow.has_narrow_types.Goals as goal

pub returns : goal.returns
returns c = c.every_op.ensures ∙ narrow_meaning c.args.ctx.now c.args.most c.args.tree.now
