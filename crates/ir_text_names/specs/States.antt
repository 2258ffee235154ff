-- The state of a parser of operations: the rest of the text, the names, the next id, and the context.
use Rattle.std.specs.Prelude.{ℕ, Bool, List, [], Option, option_map}
use Rattle.ir_types.specs.Things.{ContextModel}
use Rattle.ir_text_tokens.specs.declared.token.Mark.{Mark}
use Rattle.ir_text_tokens.specs.Scopes.{Scopes, entered, left}
use Rattle.ir_text_types.specs.Marks.{after}
use Rattle.ir_text_types.specs.Typed.{Typed}
use Rattle.ir_text_names.specs.declared.bound.TypedValue.{TypedValue}
use Rattle.ir_text_names.specs.declared.scope.Scope.{Scope}

pub record State : Type 0 where
  pub bytes : List ℕ
  pub scopes : Scopes (List TypedValue)
  pub next : ℕ
  pub things : ContextModel

abbrev pub state_of : List ℕ → Scope → ContextModel → State
state_of bytes s c = record { bytes = bytes; scopes = s.names; next = s.next; things = c }

-- the state with another rest of the text
abbrev pub to_bytes : State → List ℕ → State
to_bytes s rest = record { bytes = rest; scopes = s.scopes; next = s.next; things = s.things }

abbrev pub after_in : Mark → State → Option State
after_in m s = option_map (to_bytes s) (after m s.bytes)

-- the text and the context of a state, and a state with new ones
abbrev pub typed : State → Typed
typed s = (s.bytes, s.things)

abbrev pub with_typed : State → Typed → State
with_typed s t = record { bytes = t.0; scopes = s.scopes; next = s.next; things = t.1 }

abbrev pub with_scopes : State → Scopes (List TypedValue) → State
with_scopes s scopes = record { bytes = s.bytes; scopes = scopes; next = s.next; things = s.things }

-- a region begins, and ends
abbrev pub inside : Bool → State → State
inside isolated s = with_scopes s (entered isolated s.scopes)

abbrev pub outside : State → State
outside s = with_scopes s (left s.scopes)

-- the state at the start of a text
abbrev pub fresh : ℕ → List ℕ → ContextModel → State
fresh next bytes c = record { bytes = bytes; scopes = record { here = []; outer = [] }; next = next; things = c }
