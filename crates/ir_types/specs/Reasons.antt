-- The reasons against interning an item: the first one in the order of the numbers, if there is one.
use Rattle.std.specs.Prelude.{◌≡◌, ℕ, Bool, true, nat_lt, nat_le, ◌&&◌, not, List, map, length, Option, Some, None, Result, Ok, Err, IfErr, if◌then◌else◌}
use Rattle.std.specs.List.{list_any, list_all}
use Rattle.std.specs.Str.{bytes_eq}
use Rattle.ir_types.specs.declared.node.TypeNode.{TypeNode}
use Rattle.ir_types.specs.declared.node.AttrNode.{AttrNode}
use Rattle.ir_types.specs.declared.node.AttrNode.TheVariants as attr
use Rattle.ir_types.specs.declared.refusal.Refusal.{Refusal}
use Rattle.ir_types.specs.declared.refusal.Refusal.TheVariants.{BadWidth, BadValue, TooDeep, TooMany, DuplicateKey, Memory}
use Rattle.ir_types.specs.Things.{ContextModel}
use Rattle.ir_types.specs.Terms.{TypeTerm, Integer, Memref, AttrTerm, IntegerOf, DenseArray, type_node_term, attr_node_term}
use Rattle.ir_types.specs.Depths.{type_depth, attr_depth}
use Rattle.ir_types.specs.Limits.{most_things, most_entries, most_depth, most_width, most_dimension}
use Rattle.ir_types.specs.Ranges.{is_value_number}
use Rattle.ir_types.specs.Readings.{is_bits_of}
use Rattle.ir_types.specs.Same.{same_type, same_attr}
use Rattle.ir_types.specs.Dictionaries.{kept, has_duplicate}

-- the first of two reasons
abbrev pub first_reason : Option Refusal → Option Refusal → Option Refusal
first_reason None next = next
first_reason (Some refusal) next = Some refusal

-- a call is refused for its reason, if there is one; otherwise it is accepted, or memory ran out
abbrev pub IsRefusedFor : {A : Type 0} → Option Refusal → Result A Refusal → Type 0
IsRefusedFor (Some refusal) result = result ≡ Err refusal
IsRefusedFor None result = IfErr result (λ refusal. refusal ≡ Memory)

-- a value, unless there is a reason
abbrev pub checked : {A : Type 0} → Option Refusal → A → Result A Refusal
checked (Some refusal) value = Err refusal
checked None value = Ok value

-- the context is full, and the item is new
abbrev pub full_reason : {A : Type 0} → (A → Bool) → List A → Option Refusal
full_reason is things = if not (list_any is things) && nat_le most_things (length things) then Some TooMany else None

abbrev pub name_reason : List ℕ → ContextModel → Option Refusal
name_reason bytes c = full_reason (bytes_eq bytes) c.names

-- widths and dimensions are limited
abbrev pub is_width : ℕ → Bool
is_width w = nat_lt 0 w && nat_le w most_width

abbrev pub is_dimension : Option ℕ → Bool
is_dimension None = true
is_dimension (Some size) = nat_le size most_dimension

abbrev pub size_reason : TypeTerm → Option Refusal
size_reason (Integer sign width) = if is_width width then None else Some BadWidth
size_reason (Memref dims elem) = if list_all is_dimension dims then None else Some BadValue
size_reason _ = None

-- depths of types and attributes are limited
abbrev pub depth_reason : ℕ → Option Refusal
depth_reason depth = if nat_le depth most_depth then None else Some TooDeep

-- the reason against a type
abbrev pub type_fault : TypeTerm → Option Refusal
type_fault ty = first_reason (size_reason ty) (depth_reason (type_depth ty))

abbrev pub type_reason : TypeNode → ContextModel → Option Refusal
type_reason node c = first_reason (type_fault (type_node_term c node)) (full_reason (same_type node) c.types)

-- an integer's bits are in the range of its type; the items of a dense array are values of the element type in printed
-- form
abbrev pub value_reason : AttrTerm → Option Refusal
value_reason (IntegerOf ty bits) = if is_bits_of ty bits then None else Some BadValue
value_reason (DenseArray elem values) = if list_all (is_value_number elem) values then None else Some BadValue
value_reason _ = None

-- the reason against an attribute
abbrev pub attr_fault : AttrTerm → Option Refusal
attr_fault a = first_reason (value_reason a) (depth_reason (attr_depth a))

-- the number of entries of a dictionary is limited
abbrev pub count_reason : AttrNode → Option Refusal
count_reason (attr.Dict entries) = if nat_le (length entries) most_entries then None else Some TooMany
count_reason _ = None

-- each key occurs once
abbrev pub key_reason : AttrNode → Option Refusal
key_reason (attr.Dict entries) = if has_duplicate (map (λ (e : ℕ × ℕ). e.0) entries) then Some DuplicateKey else None
key_reason _ = None

-- the reason against a dictionary in a context with this many attributes: a dictionary with a duplicate key is never
-- known
abbrev pub instead : ℕ → Option Refusal → Option Refusal
instead count None = None
instead count (Some refusal) = if nat_le most_things count then Some TooMany else Some refusal

abbrev pub dictionary_reason : ℕ → AttrNode → Option Refusal
dictionary_reason count node = first_reason (count_reason node) (instead count (key_reason node))

abbrev pub attr_reason : AttrNode → ContextModel → Option Refusal
attr_reason node c =
    first_reason (attr_fault (attr_node_term c node))
    (first_reason (count_reason node)
    (first_reason (full_reason (same_attr (kept c.names node)) c.attrs)
    (key_reason node)))
