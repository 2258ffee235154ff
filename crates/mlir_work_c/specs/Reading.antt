-- The results of calls that read operations, entries, uses and texts.
use Rattle.std.specs.Prelude.{◌≡◌, ℕ, List, Bool, true, false, length, ◌⊎◌, Option, Some, None}
use Rattle.ir_event.specs.trees.Ids.{ids}
use Rattle.ir_event.specs.trees.declared.value.Value.{Value}
use Rattle.ir_event.specs.tree_laws.Values.{type_of_value}
use Rattle.mlir_work_c_read.specs.declared.numbers.Counts.{Counts}
use Rattle.mlir_work_c_read.specs.declared.numbers.EntryNumbers.{EntryNumbers}
use Rattle.mlir_work_c_read.specs.declared.numbers.UseNumbers.{UseNumbers}
use Rattle.mlir_work_c_read.specs.Filled.{over}
use Rattle.mlir_work_c_read.specs.Operations.{argument_count, counts_of, name_of, region_of}
use Rattle.mlir_work_c_read.specs.Entries.{attribute_at, attribute_by_key, property_at, property_by_key}
use Rattle.mlir_work_c_read.specs.Texts.{attribute_text, integer_read, name_number, name_text, type_text}
use Rattle.mlir_work_c_read.specs.Uses.{WritesUses}
use Rattle.mlir_work_c_read.specs.declared.numbers.IntegerNumbers.{IntegerNumbers}
use Rattle.mlir_work_c.specs.Numbers.{no_memory}
use Rattle.mlir_work_c_read.specs.Numbers.{no_number}
use Rattle.mlir_work_c.specs.Queries.{context_of, tree_of}
use Rattle.mlir_work_c.specs.declared.session.Session.{Session}

abbrev pub name_in : ℕ → Session → Option ℕ
name_in op s = name_of op (tree_of s)

abbrev pub counts_in : ℕ → Session → Option Counts
counts_in op s = counts_of op (tree_of s)

abbrev pub argument_count_in : ℕ → ℕ → Session → Option ℕ
argument_count_in op region s = argument_count op region (tree_of s)

abbrev pub region_in : ℕ → Session → Option ℕ
region_in op s = region_of op (tree_of s)

abbrev pub type_in : Value → Session → Option ℕ
type_in value s = type_of_value value (tree_of s)

abbrev pub property_in : ℕ → ℕ → Session → Option (ℕ × ℕ)
property_in op k s = property_at op k (tree_of s)

abbrev pub attribute_in : ℕ → ℕ → Session → Option (ℕ × ℕ)
attribute_in op k s = attribute_at op k (tree_of s)

abbrev pub property_of_key_in : ℕ → ℕ → Session → Option ℕ
property_of_key_in op key s = property_by_key op key (tree_of s)

abbrev pub attribute_of_key_in : ℕ → ℕ → Session → Option ℕ
attribute_of_key_in op key s = attribute_by_key op key (tree_of s)

abbrev pub name_number_in : List ℕ → Session → Option ℕ
name_number_in text s = name_number text (context_of s)

abbrev pub name_text_in : ℕ → Session → Option (List ℕ)
name_text_in n s = name_text n (context_of s)

abbrev pub type_text_in : ℕ → Session → Option (List ℕ)
type_text_in n s = type_text n (context_of s)

abbrev pub attribute_text_in : ℕ → Session → Option (List ℕ)
attribute_text_in n s = attribute_text n (context_of s)

abbrev pub integer_in : ℕ → Session → Option IntegerNumbers
integer_in n s = integer_read n (context_of s)

-- an entry as a C struct
abbrev pub entry_numbers : ℕ × ℕ → EntryNumbers
entry_numbers e = record { key = e.0; attribute = e.1 }

-- whether there is a result, which is written; without one the struct doesn't change
abbrev pub Writes : {A : Type 0} → Option A → A → A → Bool → Type 0
Writes None old new found = (found ≡ false) × (new ≡ old)
Writes (Some a) old new found = (found ≡ true) × (new ≡ a)

-- the items are written, as many as there is space for, and their number is returned; without items nothing is written
abbrev pub WritesItems : Option (List ℕ) → List ℕ → List ℕ → ℕ → Type 0
WritesItems None old new count = (count ≡ no_number) × (new ≡ old)
WritesItems (Some items) old new count = (count ≡ length items) × (new ≡ over items old)

-- the same, or memory ran out and nothing is written
abbrev pub MayWrite : Option (List ℕ) → List ℕ → List ℕ → ℕ → Type 0
MayWrite items old new count = WritesItems items old new count ⊎ ((count ≡ no_memory) × (new ≡ old))

-- all operations of the module, in pre-order
abbrev pub operations_in : Option Session → Option (List ℕ)
operations_in None = None
operations_in (Some s) = Some (ids (tree_of s))

abbrev pub WritesOperations : Option Session → List ℕ → List ℕ → ℕ → Type 0
WritesOperations s old new count = MayWrite (operations_in s) old new count

-- the uses of a value in the handle's session, each once; a closed handle has none
abbrev pub WritesUsesOf : Value → Option Session → List UseNumbers → List UseNumbers → ℕ → Type 0
WritesUsesOf value None old new count = (count ≡ 0) × (new ≡ old)
WritesUsesOf value (Some s) old new count = WritesUses value (tree_of s) old new count
