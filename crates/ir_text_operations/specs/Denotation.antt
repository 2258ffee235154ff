-- What the ids of a context and the state of a parser denote.
use Rattle.std.specs.Prelude.{◌≡◌, ℕ, List, Option, Some, None, IsTrue}
use Rattle.std.specs.List.{list_all}
use Rattle.ir_text_tokens.specs.Scopes.{Binding, Scopes}
use Rattle.ir_types.specs.Things.{ContextModel}
use Rattle.ir_types.specs.Terms.{name_term, type_term, attr_term}
use Rattle.ir_tree.specs.Tree.{Op, Region}
use Rattle.ir_tree.specs.Limits.{region_every, arguments_pass}
use Rattle.ir_tree.specs.Maps.{map_region}
use Rattle.ir_tree.specs.Passing.{op_passes}
use Rattle.ir_tree.specs.Meaning.{Operation, meaning, is_name, is_type, is_attr, is_known}
use Rattle.ir_text_types.specs.Denotation.{NameDenotes, TypeDenotes, AttrDenotes}
use Rattle.ir_text_types.specs.Laws.{Each}
use Rattle.ir_text_attributes.specs.AttrGrammar.{EntryTerm}
use Rattle.ir_text_names.specs.declared.bound.TypedValue.{TypedValue}
use Rattle.ir_text_names.specs.States.{State}
use Rattle.ir_text_operations.specs.PrecedingReading.{Frees, Start}
use Rattle.ir_text_operations.specs.ParseState.{BoundTerm, PackTerm, ParseState}
use Rattle.ir_text_operations.specs.OpGrammar.{FreeTerms, StartTerm, RegionTerm}

-- a value denotes itself
abbrev pub Equals : {A : Type 0} → ContextModel → A → A → Type 0
Equals z x y = x ≡ y

-- both are `Some` and related, or both are `None`
abbrev pub Both : {A B : Type 0} → (ContextModel → A → B → Type 0) → ContextModel → Option A → Option B → Type 0
Both R z None None = Unit {0}
Both R z None (Some y) = ⊥
Both R z (Some x) None = ⊥
Both R z (Some x) (Some y) = R z x y

-- ---- names

-- the same value, of the same type
abbrev pub BoundDenotes : ContextModel → TypedValue → BoundTerm → Type 0
BoundDenotes z b y = (b.value ≡ y.value) × TypeDenotes z b.ty y.type

abbrev pub PackDenotes : ContextModel → List TypedValue → PackTerm → Type 0
PackDenotes = Each BoundDenotes

abbrev pub BindingDenotes : ContextModel → Binding (List TypedValue) → Binding PackTerm → Type 0
BindingDenotes z b y = (b.name ≡ y.name) × PackDenotes z b.value y.value

abbrev pub HereDenotes : ContextModel → List (Binding (List TypedValue)) → List (Binding PackTerm) → Type 0
HereDenotes = Each BindingDenotes

abbrev pub ScopesDenote : ContextModel → Scopes (List TypedValue) → Scopes PackTerm → Type 0
ScopesDenote z s t = HereDenotes z s.here t.here × Each HereDenotes z s.outer t.outer

-- free names denote the same values
abbrev pub FreeDenotes : ContextModel → Frees → FreeTerms → Type 0
FreeDenotes z free outer = (name : List ℕ) → Both BoundDenotes z (free name) (outer name)

-- the states of the parser and of the grammar agree
abbrev pub StateDenotes : ContextModel → State → ParseState → Type 0
StateDenotes z s t = (s.bytes ≡ t.bytes) × ScopesDenote z s.scopes t.scopes × (s.next ≡ t.next)

-- ---- operations

abbrev pub StartDenotes : ContextModel → Start → StartTerm → Type 0
StartDenotes z h y = (h.results ≡ y.results) × (h.name ≡ y.name) × Each BoundDenotes z h.operands y.operands

abbrev pub EntryDenotes : ContextModel → ℕ × ℕ → EntryTerm → Type 0
EntryDenotes z e y = NameDenotes z e.0 y.0 × AttrDenotes z e.1 y.1

-- the tree of ids denotes the tree
abbrev pub OpDenotes : ContextModel → Op → Operation → Type 0
OpDenotes z o y = IsTrue (is_known z o) × (meaning z o ≡ y)

-- the region of ids denotes the region
abbrev pub RegionDenotes : ContextModel → Region → RegionTerm → Type 0
RegionDenotes z g y =
    IsTrue (arguments_pass (list_all (is_type z)) g) × IsTrue (region_every (op_passes (is_name z) (is_type z) (is_attr z)) g) × (map_region (name_term z) (type_term z) (attr_term z) g ≡ y)
