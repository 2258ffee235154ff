-- The state of the grammar of operations: the rest of the text, the names with their values, and the next id.
use Rattle.std.specs.Prelude.{◌≡◌, ℕ, Bool, List, None, []}
use Rattle.ir_types.specs.Terms.{TypeTerm}
use Rattle.ir_tree.specs.declared.value.Value.{Value}
use Rattle.ir_text_tokens.specs.declared.token.Mark.{Mark}
use Rattle.ir_text_tokens.specs.Scopes.{Scopes, find, bound, entered, left}
use Rattle.ir_text_types.specs.Grammars.{Grammar, IsMark}

-- a value and its type
pub record BoundTerm : Type 0 where
  pub value : Value
  pub type : TypeTerm

-- the values of a name: one value, or as many as its count
abbrev pub PackTerm : Type 0
PackTerm = List BoundTerm

pub record ParseState : Type 0 where
  pub bytes : List ℕ
  pub scopes : Scopes PackTerm
  pub next : ℕ

abbrev pub state_with_rest : ParseState → List ℕ → ParseState
state_with_rest s rest = record { bytes = rest; scopes = s.scopes; next = s.next }

abbrev pub state_with_scopes : ParseState → Scopes PackTerm → ParseState
state_with_scopes s scopes = record { bytes = s.bytes; scopes = scopes; next = s.next }

abbrev pub state_inside : Bool → ParseState → ParseState
state_inside isolated s = state_with_scopes s (entered isolated s.scopes)

abbrev pub state_outside : ParseState → ParseState
state_outside s = state_with_scopes s (left s.scopes)

-- the state at the start of a text
abbrev pub initial_state : ℕ → List ℕ → ParseState
initial_state next bytes = record { bytes = bytes; scopes = record { here = []; outer = [] }; next = next }

abbrev pub IsMarkToken : Mark → ParseState → ParseState → Type 0
IsMarkToken m old new = (rest : List ℕ) × IsMark m old.bytes rest × (new ≡ state_with_rest old rest)

-- a derivation that depends on the text alone
abbrev pub InText : {B : Type 0} → Grammar (List ℕ) B → Grammar ParseState B
InText P y old new = (rest : List ℕ) × P y old.bytes rest × (new ≡ state_with_rest old rest)

-- a new name is bound to the pack
abbrev pub IsBound : List ℕ → PackTerm → (old new : Scopes PackTerm) → Type 0
IsBound name b old new = (find name old.here ≡ None) × (new ≡ bound name b old)
