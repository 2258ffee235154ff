-- One step of the expansion.
use Rattle.std.specs.Prelude.{◌≡◌, List, ◌++◌, ℕ, Some, None, drop}
use Rattle.ir_text_tokens.specs.declared.fault.Fault.{Fault}
use Rattle.ir_text_aliases.specs.declared.scan_state.Bracket.{Bracket}
use Rattle.ir_text_aliases.specs.declared.scan_state.ScanState.{ScanState}
use Rattle.ir_text_aliases.specs.declared.mark.Mark.{Mark}
use Rattle.ir_text_aliases.specs.Walk.{Move}

-- the step agrees with the move: its output, its marks, the rest of the text and the scan state
abbrev pub Moved : Move → (scanned : ScanState) (outer : List Bracket) (tail rest old new : List ℕ) (marks more : List Mark) → Type 0
Moved m scanned outer tail rest old new marks more =
    (m.fault ≡ None) × (scanned ≡ m.scanned) × (outer ≡ m.outer) × (rest ≡ drop m.len tail) × (new ≡ old ++ m.put) × (more ≡ marks ++ m.marks)

-- the step returns the move's fault and writes nothing
abbrev pub Stuck : Move → Fault → (old new : List ℕ) (marks more : List Mark) → Type 0
Stuck m fault old new marks more = (m.fault ≡ Some fault) × (new ≡ old) × (more ≡ marks)
