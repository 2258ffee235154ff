-- Sweeping erases the private symbols that nothing reaches, in reverse pre-order (Symbols and Symbol Tables, "Symbol
-- Visibility").
use Rattle.std.specs.Prelude.{ℕ, List, [], ◌∷◌, length, reverse, false, Option, Some, None, Result, Ok, Err}
use Rattle.ir_event.specs.types.declared.refusal.Refusal.{Refusal}
use Rattle.ir_event.specs.Modules.{Module}
use Rattle.listeners.specs.Unreached.{unreached_of}
use Rattle.conversion.specs.rewriter.Contents.{edited, edit_reason}
use Rattle.conversion.specs.rewriter.Edits.{Erase}
use Rattle.conversion.specs.rewriter.Machine.{Fault, Outcome, Reply, Refused, DoneWith, Swept, Transformation}

-- the refusal if there is one, and the next result otherwise
abbrev pub unless_refused : {X : Type 0} → Option Refusal → Result X Refusal → Result X Refusal
unless_refused None next = next
unless_refused (Some refusal) next = Err refusal

-- the module after the operations were erased one by one, or the first refusal
abbrev pub all_erased : List ℕ → Module → Result Module Refusal
all_erased [] m = Ok m
all_erased (x ∷ xs) m = unless_refused (edit_reason (Erase x) m) (all_erased xs (edited (Erase x) m))

-- the result of sweeping `n` operations
abbrev pub counted : ℕ → Result Module Refusal → Result (Outcome × Module) Fault
counted n (Ok m) = Ok (Swept n, m)
counted n (Err refusal) = Err (record { refusal = refusal; op = None })

-- the number of swept operations and the module after the sweep, or the first refusal
abbrev pub sweep_of : Module → Result (Outcome × Module) Fault
sweep_of m = let xs = unreached_of m.tree in counted (length xs) (all_erased (reverse xs) m)

-- the transformation
abbrev pub sweeping : Transformation
sweeping = record { transformed = sweep_of; interns = false }

-- the reply to a sweep
abbrev pub sweep_reply : Result ℕ Refusal → Reply
sweep_reply (Ok n) = DoneWith (Swept n)
sweep_reply (Err refusal) = Refused refusal
