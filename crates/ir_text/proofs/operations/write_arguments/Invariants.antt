use Rattle.std.proofs.Common.{◌≡◌, drop, map}
use Rattle.ir_types.specs.Terms.{type_term}
use Rattle.ir_text.specs.Printing.{print_arguments}
use Rattle.ir_text.specs.View.{printed_in}
use Rattle.ir_text.proofs.operations.write_arguments.Given as goal

abbrev pub invariant-loop-place : goal.invariant-loop-place
invariant-loop-place l = print_arguments l.op l.region l.place (map (type_term l.ctx) (drop l.place l.args)) (printed_in l.ctx l.out) ≡ print_arguments l.op l.region 0 (map (type_term l.ctx) l.args) (printed_in l.ctx l.fn.out)
