use Rattle.std.proofs.Common.{◌∙◌, ap, length}
use Rattle.std.specs.Prelude.{not}
use Rattle.op_registry.specs.Registry.{types_row, row_from}
use Rattle.ir_verify_base.specs.Fits.{count_fits}
use Rattle.ir_verify_base.proofs.shapes.breaks_1.Goals as goal

pub returns : goal.returns
unfolding row_from
returns c = ap not (c.count_fits.ensures ∙ λ i. count_fits (c.initial_count-initial.ensures c.args._ctx.now i) (types_row c.args.def.now.operands) (length (c.operands.ensures i)))
