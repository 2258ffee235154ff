-- The module that a text denotes.
use Rattle.std.specs.Prelude.{◌≡◌, ℕ, List, Bool, true, false, Option, None}
use Rattle.ir_tree.specs.Meaning.{Operation}
use Rattle.ir_text_tokens.specs.declared.fault.Fault.{Fault}
use Rattle.ir_text.specs.Public.{Spells}
use Rattle.ir_text_modules.specs.Expanded.{expanded}

-- the text to parse: without opaque types and attributes the whole text, otherwise its expansion, without aliases and
-- locations
abbrev pub read_text : Bool → List ℕ → List ℕ
read_text false text = text
read_text true text = (expanded text).text

-- the fault of the expansion, if there is one
abbrev pub read_fault : Bool → List ℕ → Option Fault
read_fault false text = None
read_fault true text = (expanded text).fault

-- the text denotes the tree
pub record SpellsModule (opaque : Bool) (text : List ℕ) (t : Operation) : Type 0 where
  pub whole : read_fault opaque text ≡ None
  pub spells : Spells opaque (read_text opaque text) t
