use Rattle.mlir_work_transforms.proofs.Narrowed.{none_is_narrow}
use Rattle.mlir_work_transforms.proofs.narrow.is_narrow.Goals as goal

pub returns-then-not-has_type : goal.returns-then-not-has_type
returns-then-not-has_type c = none_is_narrow c.args.ctx.now c.args.ty c.args.most c.has_type.result c.has_type.ensures c.if-not-has_type.true
