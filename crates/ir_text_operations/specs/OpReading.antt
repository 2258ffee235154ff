-- Parses operations.
use Rattle.std.specs.Prelude.{ℕ, zero, suc, ◌+◌, Bool, nat_lt, if◌then◌else◌, List, [], ◌∷◌, ◌++◌, length, map, Option, Some, None}
use Rattle.std.specs.Str.{bytes_eq}
use Rattle.ir_text_tokens.specs.declared.token.Mark.{Mark}
use Rattle.ir_text_tokens.specs.declared.token.Mark.TheVariants.{OpenRound, CloseRound, OpenCurly, CloseCurly, Colon}
use Rattle.ir_types.specs.Things.{ContextModel}
use Rattle.ir_tree.specs.declared.value.Value.{Value}
use Rattle.ir_tree.specs.Tree.{Op, Region}
use Rattle.ir_tree.specs.Limits.{most_ops, most_regions}
use Rattle.ir_tree.specs.Meaning.{isolated_in, key_before_in}
use Rattle.ir_text_types.specs.Outcomes.{Outcome, Read, Wrong, ◌>>=◌, of_option, Parse}
use Rattle.ir_text_types.specs.Lists.{more_at}
use Rattle.ir_text_types.specs.Typed.{Typed, after_typed, name_step}
use Rattle.ir_text_types.specs.TypeReading.{function_type_at}
use Rattle.ir_text_names.specs.declared.bound.TypedValue.{TypedValue}
use Rattle.ir_text_names.specs.BlockReading.{finish, head_at}
use Rattle.ir_text_names.specs.States.{State, after_in, typed, with_typed, with_scopes, inside, outside}
use Rattle.ir_text_operations.specs.PrecedingReading.{Frees, Start, start_at}
use Rattle.ir_text_operations.specs.Made.{region_of, made}
use Rattle.ir_text_attributes.specs.AttrReading.{Entries}
use Rattle.ir_text_operations.specs.EntryReading.{is_property_in, properties_at, attributes_at}

-- ---- operations up to a closing mark

module _ (close : Mark) (p : Parse State Op) where
  abbrev pub ops_from : (List Op → Parse State (List Op)) → List Op → State → Option State → Outcome (List Op × State)
  ops_from go items s (Some end) = Read (items, end)
  ops_from go items s None = p s >>= λ x. go (items ++ x.0 ∷ []) x.1

  unfoldable pub ops_at : ℕ → List Op → Parse State (List Op)
  ops_at zero items s = Wrong
  ops_at (suc headroom) items s = ops_from (ops_at headroom) items s (after_in close s)

-- the names of a region go out of scope at its end
unfoldable pub region_at : Parse State (List Op) → ℕ → Bool → List Region → Parse State Region
region_at p id isolated before s = do
  c ← of_option (after_in OpenCurly s)
  h ← head_at id (length before) (inside isolated c)
  os ← p h.1
  Read (region_of h.0 os.0, outside os.1)

abbrev pub regions_from : Parse State (List Op) → ℕ → Bool → State → Option State → Outcome (List Region × State)
regions_from p id isolated s None = Read ([], s)
regions_from p id isolated s (Some c) = more_at after_in CloseRound (region_at p id isolated) most_regions [] c

unfoldable pub regions_at : Parse State (List Op) → ℕ → Bool → Parse State (List Region)
regions_at p id isolated s = regions_from p id isolated s (after_in OpenRound s)

-- ---- operations

-- the types and values of operands
abbrev pub bound_types : List TypedValue → List ℕ
bound_types = map (λ b. b.ty)

abbrev pub values_of : List TypedValue → List Value
values_of = map (λ b. b.value)

abbrev pub op_of : ContextModel → ℕ → ℕ → List TypedValue → Entries → Entries → List ℕ → List Region → Op
op_of c id name operands properties attributes outputs regions =
    made (is_property_in c (Some name)) (key_before_in c) id name (values_of operands) properties attributes outputs regions

-- a function type; the context's flag says whether opaque types are allowed
abbrev pub signature_here : Parse Typed (List ℕ × List ℕ)
signature_here s = function_type_at s.1.opaque s

-- an operation after its regions
unfoldable pub tail_at : ℕ → ℕ → Start → Entries → List Region → Parse State Op
tail_at id name h properties regions s = do
  e ← attributes_at name properties (typed s)
  c ← of_option (after_typed Colon e.1)
  t ← signature_here c
  scopes ← (if bytes_eq (bound_types h.operands) t.0.0 then finish id h.results t.0.1 s.scopes else Wrong)
  Read (op_of t.1.1 id name h.operands properties e.0 t.0.1 regions, with_scopes (with_typed s t.1) scopes)

-- the state after the properties, with the next id
abbrev pub begun : State → Typed → State
begun s t = record { bytes = t.0; scopes = s.scopes; next = s.next + 1; things = t.1 }

unfoldable pub op_with : Frees → Parse State (List Op) → Parse State Op
op_with free p s = do
  h ← start_at free s.scopes.here s.bytes
  n ← name_step h.0.name s.things
  e ← properties_at (h.1, n.1)
  rs ← regions_at p s.next (isolated_in n.1 n.0) (begun s e.1)
  tail_at s.next n.0 h.0 e.0 rs.0 rs.1

-- an operation of at most this many levels, including its own; ids are less than `last`
unfoldable pub op_at : Frees → ℕ → ℕ → Parse State Op
op_at free last zero s = Wrong
op_at free last (suc depth) s = if nat_lt s.next last then op_with free (ops_at CloseCurly (op_at free last depth) most_ops []) s else Wrong
