-- The contents of the slots, as plain data.
use Rattle.std.specs.Prelude.{◌≡◌, ℕ, List, [], ◌∷◌, map, Bool, true, false, get_or, is_some, Option, refl}
use Rattle.std.specs.Coded.{Coded, code_by, coded×, coded_list, coded_option, coded_ℕ, coded_bool}
use Rattle.ir_store_arena.specs.trees.declared.place.Part.{Part}
use Rattle.ir_store_arena.specs.trees.declared.value.Value.{Value}
use Rattle.ir_store_arena.specs.trees.Code.{head_code}
use Rattle.ir_store_arena.specs.trees.Edits.{put_operand, part_of, change_part, change_entry}
use Rattle.ir_store_arena.specs.trees.Tree.{Head}
use Rattle.ir_store_arena.specs.Slots.{Slots, gone_after}
use Rattle.ir_store_arena.specs.declared.slot_kind.SlotKind.{SlotKind}
use Rattle.ir_store_arena.specs.declared.slot_kind.SlotKind.TheVariants.{Free}
use Rattle.ir_store_arena.specs.declared.slot_kind.Slot.{Slot as Kept}
use Rattle.ir_store_arena.specs.declared.op_arena.OpArena.{OpArena}
use Rattle.ir_store_arena.specs.Contents.{Contents}
use Rattle.ir_store_arena.specs.Gone.{Gone, gone_code, none_gone, gone_in, change_gone}
use Rattle.ir_store_arena.specs.Shapes.{RegionShape}
use Rattle.ir_store_arena.specs.Registry.{found, contents_at, is_key}

pub record Row : Type 0 where
  pub used : Bool
  pub live : Bool
  pub head : Head
  pub gone : Gone
  pub shapes : List RegionShape
  pub owner : ℕ
  pub region : ℕ
  -- the use node of the first operand
  pub uses : ℕ
  -- the head of the use list of the first result, or of a block's first argument
  pub values : ℕ

abbrev pub row_code : Coded Row
row_code =
    code_by (Bool × (Bool × (Head × (Gone × (List RegionShape × (ℕ × (ℕ × (ℕ × ℕ))))))))
    (coded× coded_bool (coded× coded_bool (coded× head_code (coded× gone_code (coded× (coded_list (coded_option (coded× (coded_list coded_ℕ) coded_ℕ))) (coded× coded_ℕ (coded× coded_ℕ (coded× coded_ℕ coded_ℕ))))))))
    (λ r. (r.used, (r.live, (r.head, (r.gone, (r.shapes, (r.owner, (r.region, (r.uses, r.values)))))))))
    (λ p. record { used = p.0; live = p.1.0; head = p.1.1.0; gone = p.1.1.1.0; shapes = p.1.1.1.1.0; owner = p.1.1.1.1.1.0; region = p.1.1.1.1.1.1.0; uses = p.1.1.1.1.1.1.1.0; values = p.1.1.1.1.1.1.1.1 })
    (λ _. refl)

abbrev pub no_head : Head
no_head = record { id = 0; name = 0; operands = []; results = []; properties = []; attributes = [] }

abbrev pub no_row : Row
no_row = record { used = false; live = false; head = no_head; gone = none_gone; shapes = []; owner = 0; region = 0; uses = 0; values = 0 }

-- the head of an operation with these contents
abbrev pub kept_head : ℕ → ℕ → Contents → Head
kept_head id name c = record { id = id; name = name; operands = c.operands; results = c.results; properties = c.properties.present; attributes = c.attributes.present }

-- a row with these contents
abbrev pub row_like : Bool → Bool → ℕ → ℕ → ℕ → ℕ → Contents → Row
row_like used live id name uses values c = record {
  used = used;
  live = live;
  head = kept_head id name c;
  gone = record { properties = c.properties.gone; attributes = c.attributes.gone };
  shapes = c.shapes;
  owner = c.owner;
  region = c.region;
  uses = uses;
  values = values;
}

abbrev pub row_with : Kept → Contents → Row
row_with n = row_like n.used n.live n.id n.name n.uses n.values

-- a row with the data under its key
abbrev pub row_in : OpArena → Kept → Row
row_in s n = row_with n (contents_at s n.held)

abbrev pub rows_in : OpArena → List Kept → List Row
rows_in s = map (row_in s)

abbrev pub row_at : List Row → ℕ → Row
row_at slots k = get_or slots k no_row

-- the kind of slot k, with its key
abbrev pub held_at : List Kept → ℕ → SlotKind
held_at slots k = get_or (map (λ n. n.held) slots) k (Free 0)

-- there is data under the key of each row, keys of different rows differ, and there is no other data
pub record IsSound (s : OpArena) (slots : List Kept) : Type 0 where
  pub stands : (k : ℕ) → is_some (found s (held_at slots k)) ≡ true
  pub apart : (j k : ℕ) → is_key (held_at slots j) ≡ true → held_at slots j ≡ held_at slots k → j ≡ k
  pub owned : (h : SlotKind) → is_key h ≡ true → is_some (found s h) ≡ true → (k : ℕ) × (held_at slots k ≡ h)

-- the row of a slot without an operation: the head of a block has an owner and a region
abbrev pub row_spare : ℕ → ℕ → ℕ → Row
row_spare owner number values = record no_row { owner = owner; region = number; values = values }

-- the row of a held operation
abbrev pub row_held : ℕ → Head → List RegionShape → ℕ → ℕ → Row
row_held x h shapes uses values = record no_row { used = true; head = record h { id = x }; shapes = shapes; uses = uses; values = values }

-- a row with v as operand j
abbrev pub row_with_operand : ℕ → Value → Row → Row
row_with_operand j v r = record r { head = put_operand j v r.head }

-- one dictionary of a row, with the slots of removed keys
abbrev pub slots_in : Part → Row → Slots
slots_in part r = record { present = part_of part r.head; gone = gone_in part r.gone }

-- a row with key k of one dictionary set to attribute a, or removed
abbrev pub row_with_entry : (ℕ → ℕ → Bool) → Part → ℕ → Option ℕ → Row → Row
row_with_entry before part k a r = record r { head = change_part part (change_entry before k a) r.head; gone = change_gone part (gone_after k a) r.gone }

-- a row after its operation is freed: only the id, the name and the nodes remain
abbrev pub vacated : Row → Row
vacated r = record r { used = false; head = record no_head { id = r.head.id; name = r.head.name }; gone = none_gone; shapes = [] }
