use Rattle.std.proofs.Common.{◌≡◌, ◌++◌, drop, map, true}
use Rattle.std.specs.Prelude.{codes}
use Rattle.ir_text.specs.Rows.{parted}
use Rattle.ir_text.specs.TypeText.{type_texts}
use Rattle.ir_text.specs.Naming.{value_type}
use Rattle.ir_text_types.specs.TypeGrammar.{types_of}
use Rattle.ir_text.specs.View.{named_in}
use Rattle.ir_text.proofs.values.write_operand_types.Given as goal

abbrev pub invariant-operands : goal.invariant-operands
invariant-operands l = l.out.items ++ parted (codes ", ") l.first (type_texts (types_of (map (value_type (named_in l.ctx l.named.entries)) (drop l.operand-index l.operands)))) ≡ l.fn.out.items ++ parted (codes ", ") true (type_texts (types_of (map (value_type (named_in l.ctx l.named.entries)) l.operands)))
