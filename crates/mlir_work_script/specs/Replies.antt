-- The lines of a run's output. Each ends in a line feed.
use Rattle.std.specs.Prelude.{ℕ, List, ◌++◌, Option, Some, None, codes}
use Rattle.std.specs.Fmt.{decimal}
use Rattle.ir_event.specs.types.Refusals.{text_of}
use Rattle.ir_event.specs.types.declared.refusal.Refusal.{Refusal}
use Rattle.rewriter_machine.specs.Machine.{Outcome}
use Rattle.mlir_work_script_base.specs.Kinds.{kind_word}
use Rattle.mlir_work_script.specs.Outcomes.{outcome_word, outcome_count}
use Rattle.mlir_work_script_base.specs.Values.{op_text}

-- `1 ok`
abbrev pub ok_line : ℕ → List ℕ
ok_line n = decimal n ++ codes " ok\n"

-- `1 ok #12`
abbrev pub made_line : ℕ → ℕ → List ℕ
made_line n op = decimal n ++ (codes " ok " ++ (op_text op ++ codes "\n"))

-- `1 swept 2`, `1 converged 3`, `1 limit 1`, `1 converted 2`, `1 applied 1`
abbrev pub outcome_line : ℕ → Outcome → List ℕ
outcome_line n outcome =
    decimal n ++ (codes " " ++ (outcome_word outcome ++ (codes " " ++ (decimal (outcome_count outcome) ++ codes "\n"))))

-- `1 refused 22 HasUses`
abbrev pub refused_line : ℕ → Refusal → List ℕ
refused_line n refusal = decimal n ++ (codes " refused " ++ (text_of refusal ++ codes "\n"))

-- `1 refused 51 NotLegalised #2`
abbrev pub refused_on_line : ℕ → Refusal → ℕ → List ℕ
refused_on_line n refusal op =
    decimal n ++ (codes " refused " ++ (text_of refusal ++ (codes " " ++ (op_text op ++ codes "\n"))))

-- the offset of a refused text, in bytes from its start
abbrev pub at_offset : Option ℕ → List ℕ
at_offset (Some offset) = codes " at " ++ (decimal offset ++ codes "\n")
at_offset None = codes "\n"

-- `1 refused 3 UnknownValue at 17`
abbrev pub refused_at_line : ℕ → Refusal → ℕ → List ℕ
refused_at_line n refusal offset = decimal n ++ (codes " refused " ++ (text_of refusal ++ at_offset (Some offset)))

-- `1 expected 22 HasUses`, after the reply to a command that wasn't refused as expected
abbrev pub expected_line : ℕ → Refusal → List ℕ
expected_line n refusal = decimal n ++ (codes " expected " ++ (text_of refusal ++ codes "\n"))

-- `module refused 7 BadValue at 16`, or without an offset
abbrev pub module_refused_line : Refusal → Option ℕ → List ℕ
module_refused_line refusal offset = codes "module refused " ++ (text_of refusal ++ at_offset offset)

-- `attach uses refused 36 Memory`
abbrev pub attach_refused_line : ℕ → Refusal → List ℕ
attach_refused_line kind refusal =
    codes "attach " ++ (kind_word kind ++ (codes " refused " ++ (text_of refusal ++ codes "\n")))

-- `-- uses`, the heading of report rows
abbrev pub kind_line : ℕ → List ℕ
kind_line kind = codes "-- " ++ (kind_word kind ++ codes "\n")

-- `-- uses stale`, in place of the rows
abbrev pub stale_line : ℕ → List ℕ
stale_line kind = codes "-- " ++ (kind_word kind ++ codes " stale\n")

-- `-- uses memory`, in place of rows that found no memory
abbrev pub kind_memory_line : ℕ → List ℕ
kind_memory_line kind = codes "-- " ++ (kind_word kind ++ codes " memory\n")

-- the line in place of a module text that found no memory
abbrev pub module_memory_line : List ℕ
module_memory_line = codes "-- module memory\n"
