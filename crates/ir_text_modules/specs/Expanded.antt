-- The expansion of a text: without aliases and locations.
use Rattle.std.specs.Prelude.{ℕ, ◌-◌, not, nat_lt, if◌then◌else◌, List, [], ◌∷◌, ◌++◌, length, Option, Some, None}
use Rattle.ir_text_tokens.specs.declared.refusal.TextRefusal.{TextRefusal}
use Rattle.ir_text_tokens.specs.declared.fault.Fault.{Fault}
use Rattle.ir_text_tokens.specs.Bodies.{is_none}
use Rattle.ir_text_aliases.specs.declared.scan_state.BracketContents.TheVariants.{Operations}
use Rattle.ir_text_aliases.specs.declared.mark.Mark.{Mark}
use Rattle.ir_text_aliases.specs.declared.part.TextPart.{TextPart}
use Rattle.ir_text_aliases.specs.Uses.{Aliases}
use Rattle.ir_text_aliases.specs.Walk.{Walked, walk_text}
use Rattle.ir_text_modules.specs.Definitions.{Defined, definitions}
use Rattle.ir_text_modules.specs.Endings.{endings}
use Rattle.ir_text_modules.specs.Marks.{carried}

-- the expanded text with its marks, and the fault at which it ends, if there is one
pub record Expanded : Type 0 where
  pub text : List ℕ
  pub marks : List Mark
  pub fault : Option Fault

-- the operations of a text; aliases are replaced only if there are values
abbrev pub operations_part : List ℕ → TextPart
operations_part values = record { before = 0; left = 0; reads = not (is_none values) }

abbrev pub or_else : Option Fault → Option Fault → Option Fault
or_else None other = other
or_else (Some fault) other = Some fault

-- the expansion with a mark at the end of the operations
abbrev pub with_end : Aliases → Walked → Expanded
with_end env w = record {
  text = w.text;
  marks = w.marks ++ record { scanned = length w.text; past = length w.text; left = length w.rest } ∷ [];
  fault = or_else w.fault (endings env 0 w.rest);
}

abbrev pub operations_expanded : List ℕ → Aliases → List ℕ → Expanded
operations_expanded values env bytes = with_end env (walk_text (operations_part values) values env Operations bytes [] [])

-- the expansion after the definitions
abbrev pub trailing : Option Fault → Defined → Expanded
trailing (Some fault) d = record { text = []; marks = []; fault = Some fault }
trailing None d = operations_expanded d.values d.aliases d.rest

-- definitions, operations, and definitions of locations
abbrev pub expanded : List ℕ → Expanded
expanded bytes = trailing (definitions [] [] bytes 0 bytes).fault (definitions [] [] bytes 0 bytes)

-- ---- a fault of the expansion

-- the offset at which the expansion of a text of `len` bytes ends
abbrev pub end_of : ℕ → Option Fault → ℕ
end_of len None = len
end_of len (Some fault) = len - fault.left

-- the offset in the text of a byte of the expansion
abbrev pub place_in : ℕ → Expanded → ℕ → ℕ
place_in len e at = carried len e.marks (end_of len e.fault) at

-- the leftmost of two faults: the expansion's, or another one at an offset of the text
abbrev pub extra_left : ℕ → Option Fault → TextRefusal × ℕ → TextRefusal × ℕ
extra_left len None x = x
extra_left len (Some fault) x = if nat_lt x.1 (len - fault.left) then x else (fault.refusal, len - fault.left)

-- the refusal to report for a fault in the expanded text, and its offset in the original text
abbrev pub located_refusal : List ℕ → Expanded → Fault → TextRefusal × ℕ
located_refusal bytes e f = extra_left (length bytes) e.fault (f.refusal, place_in (length bytes) e (length e.text - f.left))
