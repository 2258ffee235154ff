use Rattle.std.proofs.Common.{◌≡◌, ◌++◌, [], drop, map, true}
use Rattle.std.specs.Prelude.{codes}
use Rattle.ir_types.specs.Things.{ContextModel}
use Rattle.ir_text.specs.Rows.{parted}
use Rattle.ir_text.specs.Naming.{value_text}
use Rattle.ir_text.specs.View.{named_in}
use Rattle.ir_text.proofs.values.write_values.Given as goal

abbrev pub invariant-operands : goal.invariant-operands
invariant-operands l = (c : ContextModel) → l.out.items ++ parted (codes ", ") l.first (map (value_text (named_in c l.named.entries)) (drop l.operand-index l.operands)) ≡ l.fn.out.items ++ parted (codes ", ") true (map (value_text (named_in c l.named.entries)) l.operands)
