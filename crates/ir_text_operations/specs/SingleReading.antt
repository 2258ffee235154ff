-- Parses one operation up to the end of the text.
use Rattle.std.specs.Prelude.{ℕ}
use Rattle.ir_text_tokens.specs.declared.token.Mark.TheVariants.{End}
use Rattle.ir_types.specs.Things.{ContextModel}
use Rattle.ir_tree.specs.Tree.{Op}
use Rattle.ir_text_types.specs.Marks.{after}
use Rattle.ir_text_types.specs.Outcomes.{Outcome, Read, ◌>>=◌, of_option}
use Rattle.ir_text_names.specs.States.{State}
use Rattle.ir_text_operations.specs.PrecedingReading.{Frees}
use Rattle.ir_text_operations.specs.Limits.{most_levels}
use Rattle.ir_text_operations.specs.OpReading.{op_at}

unfoldable pub single_op_at : Frees → ℕ → State → Outcome (Op × ContextModel)
single_op_at free last s = op_at free last most_levels s >>= λ x. of_option (after End x.1.bytes) >>= λ rest. Read (x.0, x.1.things)
