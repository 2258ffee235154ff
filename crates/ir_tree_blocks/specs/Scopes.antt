-- Scopes: how a nested tree writes blocks and successors. A scope is an operation `cf.block` that holds one block which
-- isn't an entry block. `order` is the label of that block. `cf.successors` has the labels of successors.
use Rattle.std.specs.Prelude.{ℕ, ℤ, pos, negsuc, List, [], ◌∷◌, codes, map, eqb, Bool, true, false, ◌&&◌, if◌then◌else◌, Option, Some, None, option_map, option_and_then}
use Rattle.std.specs.Str.{bytes_eq}
use Rattle.ir_tree.specs.types.declared.node.Sign.{Sign}
use Rattle.ir_tree.specs.types.declared.node.Sign.TheVariants.{Signless, Signed, Unsigned}
use Rattle.ir_tree.specs.types.Terms.{TypeTerm, Integer, AttrTerm, IntegerOf, Flag, DenseArray}
use Rattle.ir_tree.specs.Meaning.{key_before}
use Rattle.ir_tree.specs.Edits.{put_entry, drop_entry, entry_at}
use Rattle.ir_tree_blocks.specs.Flat.{Head}

-- the type i32
abbrev pub i32 : TypeTerm
i32 = Integer Signless 32

abbrev pub is_signless : Sign → Bool
is_signless Signless = true
is_signless Signed = false
is_signless Unsigned = false

abbrev pub is_i32 : TypeTerm → Bool
is_i32 (Integer s w) = is_signless s && eqb w 32
is_i32 t = false

-- the number of an attribute `N : i32`
unfoldable pub number_in : AttrTerm → Option ℕ
number_in (IntegerOf t n) = if is_i32 t then Some n else None
number_in a = None

-- the numbers of an attribute `array<i32: N, ..>`
abbrev pub naturals : List ℤ → Option (List ℕ)
naturals [] = Some []
naturals (pos n ∷ zs) = option_map (λ ns. n ∷ ns) (naturals zs)
naturals (negsuc n ∷ zs) = None

-- its integers, which may be negative
abbrev pub i32_numbers : AttrTerm → Option (List ℤ)
i32_numbers (DenseArray t zs) = if is_i32 t then Some zs else None
i32_numbers a = None

unfoldable pub numbers_in : AttrTerm → Option (List ℕ)
numbers_in (DenseArray t zs) = if is_i32 t then naturals zs else None
numbers_in a = None

-- whether there is an attribute
abbrev pub is_some : Option AttrTerm → Bool
is_some None = false
is_some (Some a) = true

-- whether an operation is a scope
unfoldable pub is_scope : Head → Bool
is_scope h = bytes_eq h.name (codes "cf.block")

-- the label of the block of a scope
unfoldable pub order_of : Head → Option ℕ
order_of h = option_and_then number_in (entry_at key_before (codes "order") h.attributes)

-- whether a scope has the attribute `unreachable`
unfoldable pub is_unreachable : Head → Bool
is_unreachable h = is_some (entry_at key_before (codes "unreachable") h.attributes)

-- the labels of the successors of an operation, if it has the attribute
unfoldable pub successors_in : Head → Option (List ℕ)
successors_in h = option_and_then numbers_in (entry_at key_before (codes "cf.successors") h.attributes)

-- whether an operation has the attribute for successors
unfoldable pub has_successors_key : Head → Bool
has_successors_key h = is_some (entry_at key_before (codes "cf.successors") h.attributes)

abbrev pub or_zero : Option ℕ → ℕ
or_zero None = 0
or_zero (Some n) = n

abbrev pub or_none : Option (List ℕ) → List ℕ
or_none None = []
or_none (Some ns) = ns

-- the label of a scope; 0 if it has none
abbrev pub label_of : Head → ℕ
label_of h = or_zero (order_of h)

-- the labels of the successors of an operation; none if it has no such attribute
abbrev pub successors_of : Head → List ℕ
successors_of h = or_none (successors_in h)

-- the attributes of an operation, with the attribute for successors if there are any
unfoldable pub attributes_with : Head → List ℕ → List (List ℕ × AttrTerm)
attributes_with h [] = h.attributes
attributes_with h (s ∷ ss) = put_entry key_before (codes "cf.successors") (DenseArray i32 (map pos (s ∷ ss))) h.attributes

abbrev pub with_successors : Head → List ℕ → Head
with_successors h ss = record h { attributes = attributes_with h ss }

-- a head without the attribute for successors
unfoldable pub other_attributes : Head → List (List ℕ × AttrTerm)
other_attributes h = drop_entry key_before (codes "cf.successors") h.attributes

abbrev pub without_successors : Head → Head
without_successors h = record h { attributes = other_attributes h }

-- the attributes of a scope: its label, and whether it is marked as unreachable
abbrev pub scope_attributes : ℕ → Bool → List (List ℕ × AttrTerm)
scope_attributes l false = (codes "order", IntegerOf i32 l) ∷ []
scope_attributes l true = (codes "order", IntegerOf i32 l) ∷ (codes "unreachable", Flag) ∷ []

-- the head of a scope with this id, label and mark
unfoldable pub scope_head : ℕ → ℕ → Bool → Head
scope_head x l u = record { id = x; name = codes "cf.block"; operands = []; results = []; properties = []; attributes = scope_attributes l u }
