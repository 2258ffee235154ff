-- New operations from C arrays. Their dictionaries are those that the reader makes of an operation text with these
-- entries.
use Rattle.std.specs.Prelude.{◌≡◌, ℕ, ◌==◌, nat_eq, Bool, true, false, not, ◌||◌, List, [], ◌∷◌, ◌++◌, map, if◌then◌else◌, Option, Some, None, Result, Ok, Err, ◌⊎◌}
use Rattle.ir_event.specs.types.Things.{ContextModel}
use Rattle.ir_event.specs.types.declared.refusal.Refusal.{Refusal}
use Rattle.ir_event.specs.types.declared.refusal.Refusal.TheVariants.{DuplicateKey, Memory, TooMany}
use Rattle.ir_event.specs.trees.Meaning.{key_before_in}
use Rattle.ir_event.specs.trees.Tree.{Op, op, no_regions}
use Rattle.ir_text_operations.specs.attributes.AttrReading.{Entries}
use Rattle.ir_text_operations.specs.attributes.Keyed.{has_key}
use Rattle.ir_text_operations.specs.Entries.{attributes_of, properties_of}
use Rattle.ir_text_operations.specs.EntryReading.{is_property_in, refused_in}
use Rattle.mlir_work_c_read.specs.declared.numbers.ValueNumbers.{ValueNumbers}
use Rattle.mlir_work_c_read.specs.Numbers.{value_of}
use Rattle.mlir_work_c_read.specs.declared.header.NewEntry.{NewEntry}

-- whether two truth values are equal
abbrev pub same_truth : Bool → Bool → Bool
same_truth a b = if a then b else not b

-- whether an entry is a property
abbrev pub is_property : NewEntry → Bool
is_property e = not (e.is_property == 0)

-- the entries that are given as properties, or the others
abbrev pub entries_of : Bool → List NewEntry → Entries
entries_of properties [] = []
entries_of properties (e ∷ es) =
    if same_truth (is_property e) properties then (e.key, e.attribute) ∷ entries_of properties es else entries_of properties es

-- ---- refused entries

-- why an entry with the key can't follow these entries, after these properties. The reader refuses the same ones
abbrev pub entry_fault : ContextModel → Option ℕ → Entries → ℕ → Entries → Option Refusal
entry_fault c named properties k before =
    if refused_in c named properties k before
    then Some (if has_key nat_eq k properties || has_key nat_eq k before then DuplicateKey else TooMany)
    else None

-- the first refusal, if there is one
abbrev pub first_of : Option Refusal → Option Refusal → Option Refusal
first_of (Some refusal) other = Some refusal
first_of None other = other

-- why the first entry that is refused can't follow the entries before it
abbrev pub entries_fault : ContextModel → Option ℕ → Entries → Entries → Entries → Option Refusal
entries_fault c named properties before [] = None
entries_fault c named properties before (e ∷ es) =
    first_of (entry_fault c named properties e.0 before) (entries_fault c named properties (before ++ e ∷ []) es)

-- why an operation of this name can't have these properties and attributes: in a text the properties come first
abbrev pub dictionaries_fault : ContextModel → ℕ → Entries → Entries → Option Refusal
dictionaries_fault c name properties attributes =
    first_of (entries_fault c None [] [] properties) (entries_fault c (Some name) properties [] attributes)

-- ---- operations

abbrev pub or_fault : {A : Type 0} → Option Refusal → A → Result A Refusal
or_fault (Some refusal) it = Err refusal
or_fault None it = Ok it

-- the properties and the attributes of an operation of this name, or why it can't have these entries
abbrev pub dictionaries : ContextModel → ℕ → List NewEntry → Result (Entries × Entries) Refusal
dictionaries c name entries =
    let given = entries_of true entries in
    let others = entries_of false entries in
    or_fault (dictionaries_fault c name given others) (
      properties_of (is_property_in c (Some name)) (key_before_in c) given others,
      attributes_of (is_property_in c (Some name)) (key_before_in c) others,
    )

abbrev pub with_dictionaries : ℕ → List ValueNumbers → List ℕ → Result (Entries × Entries) Refusal → Result Op Refusal
with_dictionaries name operands results (Err refusal) = Err refusal
with_dictionaries name operands results (Ok found) = Ok (op (record {
  id = 0;
  name = name;
  operands = map value_of operands;
  results = results;
  properties = found.0;
  attributes = found.1;
}) no_regions)

-- the operation with these numbers, without regions, or why it can't have these entries
abbrev pub header : ContextModel → ℕ → List ValueNumbers → List ℕ → List NewEntry → Result Op Refusal
header c name operands results entries = with_dictionaries name operands results (dictionaries c name entries)

-- the result is the one given, or memory ran out
abbrev pub IsOrMemory : {A B : Type 0} → (A → B) → Result B Refusal → Result A Refusal → Type 0
IsOrMemory view reported (Err refusal) = (refusal ≡ Memory) ⊎ (reported ≡ Err refusal)
IsOrMemory view reported (Ok found) = reported ≡ Ok (view found)
