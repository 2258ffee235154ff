-- Operations as JSON objects, one a line.
use Rattle.std.specs.Prelude.{ℕ, List, [], ◌∷◌, ◌++◌, Option, Some, None, codes}
use Rattle.ir_event.specs.trees.Meaning.{Operation}
use Rattle.ir_event.specs.trees.Tree.{HeadOf, op, RegionsOf, no_regions, region, RegionOf, empty, block}
use Rattle.ir_event.specs.trees.declared.value.Value.{Value}
use Rattle.ir_event.specs.types.Terms.{AttrTerm, TypeTerm}
use Rattle.ir_text.specs.AttrText.{attr_text}
use Rattle.ir_text.specs.TypeText.{type_text}
use Rattle.ir_text_tokens.specs.Printing.{raw_text}
use Rattle.mlir_work_script_base.specs.Values.{op_text, value_text}
use Rattle.mlir_work_session_base.specs.PlacedOps.{PlacedOf, page, placed}
use Rattle.mlir_work_session_base.specs.declared.place.Place.{Place}
use Rattle.serde_json.specs.Data.{Data, null, number, unsigned, string, array, object, Items, no_items, item, Members, no_members, member}
use Rattle.serde_json.specs.Written.{compact_text}

-- types, as they are printed
abbrev pub type_items : List TypeTerm → Items
type_items [] = no_items
type_items (t ∷ ts) = item (string (type_text t)) (type_items ts)

-- values, by the names that commands use
abbrev pub value_items : List Value → Items
value_items [] = no_items
value_items (v ∷ vs) = item (string (value_text v)) (value_items vs)

-- a dictionary: keys as they are printed between quotes, and attributes as they are printed
abbrev pub entry_members : List (List ℕ × AttrTerm) → Members
entry_members [] = no_members
entry_members (e ∷ es) = member (raw_text e.0) (string (attr_text e.1)) (entry_members es)

-- the types of the arguments of a region's block
abbrev pub argument_types : {N T A : Type 0} → RegionOf N T A → List T
argument_types empty = []
argument_types (block args os) = args

abbrev pub region_items : {N A : Type 0} → RegionsOf N TypeTerm A → Items
region_items no_regions = no_items
region_items (region g rs) = item (array (type_items (argument_types g))) (region_items rs)

-- the parent of an operation, the number of the region, and the index in the block; all are null for the root
abbrev pub parent_data : Option Place → Data
parent_data None = null
parent_data (Some p) = string (op_text p.parent)

abbrev pub region_data : Option Place → Data
region_data None = null
region_data (Some p) = number (unsigned p.region)

abbrev pub index_data : Option Place → Data
index_data None = null
index_data (Some p) = number (unsigned p.index)

-- the members after `operands`
abbrev pub last_members : Option Place → HeadOf (List ℕ) TypeTerm AttrTerm → RegionsOf (List ℕ) TypeTerm AttrTerm → Members
last_members at h rs =
    member (codes "parent") (parent_data at)
    (member (codes "place") (index_data at)
    (member (codes "properties") (object (entry_members h.properties))
    (member (codes "region") (region_data at)
    (member (codes "regions") (array (region_items rs))
    (member (codes "results") (array (type_items h.results)) no_members)))))

-- the members up to `operands`, and the members `ms` after them
abbrev pub first_members : HeadOf (List ℕ) TypeTerm AttrTerm → Members → Members
first_members h ms =
    member (codes "attributes") (object (entry_members h.attributes))
    (member (codes "id") (string (op_text h.id))
    (member (codes "kind") (string (codes "operation"))
    (member (codes "name") (string (raw_text h.name))
    (member (codes "operands") (array (value_items h.operands)) ms))))

-- the object of an operation
abbrev pub operation_data : Option Place → Operation → Data
operation_data at (op h rs) = object (first_members h (last_members at h rs))

-- the lines of operations
abbrev pub objects_text : List (PlacedOf (List ℕ) TypeTerm AttrTerm) → List ℕ
objects_text [] = []
objects_text (p ∷ ps) = (compact_text (operation_data p.place p.operation) ++ codes "\n") ++ objects_text ps

-- the lines of all operations of a module, and of at most `count` operations from operation x on
abbrev pub all_objects_text : Operation → List ℕ
all_objects_text t = objects_text (placed None t)

abbrev pub page_text : ℕ → ℕ → Operation → List ℕ
page_text x count t = objects_text (page x count (placed None t))
