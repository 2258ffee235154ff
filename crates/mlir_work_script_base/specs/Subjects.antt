-- The subjects of a partial report: an operation or a value.
use Rattle.std.specs.Prelude.{ℕ, List, Option, Some, None}
use Rattle.std.specs.Option.{option_map}
use Rattle.ir_event.specs.trees.declared.value.Value.{Value}
use Rattle.mlir_work_script_base.specs.Values.{op_of, value_of}
use Rattle.ir_event.specs.declared.subject.Subject.{Subject}
use Rattle.ir_event.specs.declared.subject.Subject.TheVariants.{Op, Val}

abbrev pub subject_from : Option ℕ → Option Value → Option Subject
subject_from (Some op) value = Some (Op op)
subject_from None value = option_map Val value

-- the operation or value with this name
abbrev pub subject_in : List ℕ → Option Subject
subject_in word = subject_from (op_of word) (value_of word)
