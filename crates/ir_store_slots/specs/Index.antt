-- The invariants of the use lists, in slots.
use Rattle.std.specs.Prelude.{◌≡◌, ℕ, zero, suc, ◌+◌, ◌<◌, List, [], ◌∷◌, map, length, nat_lt, eqb, get_or, slice_get, slice_set, Bool, true, false, not, ◌&&◌, if◌then◌else◌, Option, Some, None, option_and_then, is_some}
use Rattle.ir_store_lists.specs.Lists.{Lists, IsHead, IsItem, IsFree, list_at, home_at, free}
use Rattle.ir_store_arena.specs.trees.declared.value.Value.{Value}
use Rattle.ir_store_arena.specs.trees.declared.value.Value.TheVariants.{Result, Arg}
use Rattle.ir_store_arena.specs.trees.Ids.{HasDistinctIds, op_count}
use Rattle.ir_store_arena.specs.trees.Tree.{Op}
use Rattle.ir_store_arena.specs.trees.Frames.{owner_of}
use Rattle.ir_store_slots.specs.declared.row.UseNode.{UseNode}
use Rattle.ir_store_slots.specs.Rows.{Row, RegionShape, row_at, live_slot}
use Rattle.ir_store_slots.specs.Right.{Live, Used, Right}
use Rattle.ir_store_slots.specs.Plans.{is_nil}
use Rattle.ir_store_slots.specs.Marks.{Marked}

-- the slot and the operand of each node
abbrev pub cells_of : List UseNode → List (ℕ × ℕ)
cells_of = map (λ c. (c.row, c.place))

abbrev pub cell_at : List (ℕ × ℕ) → ℕ → ℕ × ℕ
cell_at cells u = get_or cells u (0, 0)

-- operand j of the operation in slot k
abbrev pub operand_at : List Row → ℕ → ℕ → Option Value
operand_at slots k j = slice_get (row_at slots k).head.operands j

-- the node of operand j
abbrev pub use_at : List Row → ℕ → ℕ → ℕ
use_at slots k j = (row_at slots k).uses + j

-- the head of the use list of a result, and of a block argument
abbrev pub result_head : ℕ → Row → Option ℕ
result_head i r = if nat_lt i (length r.head.results) then Some (r.values + i) else None

abbrev pub argument_head : List Row → ℕ → RegionShape → Option ℕ
argument_head slots i None = None
argument_head slots i (Some a) = if nat_lt i (length a.0) then Some ((row_at slots a.1).values + i) else None

-- the head of the use list of a value whose operation is in slot q
abbrev pub slot_head : List Row → Value → ℕ → Option ℕ
slot_head slots (Result x i) q = result_head i (row_at slots q)
slot_head slots (Arg x r i) q = option_and_then (argument_head slots i) (slice_get (row_at slots q).shapes r)

-- the head of the use list of a value of an operation that has a slot
abbrev pub value_head : List Row → (ℕ → Option ℕ) → Value → Option ℕ
value_head slots slot_map v = option_and_then (slot_head slots v) (slot_map (owner_of v).0)

-- node u is the node of operand j of the operation in slot k, and the operand is v
pub record UseOf (slots : List Row) (u k j : ℕ) (v : Value) : Type 0 where
  pub used : Used slots k
  pub operand : operand_at slots k j ≡ Some v
  pub node : use_at slots k j ≡ u

-- node u has the cell of operand j of slot k
pub record CellOf (homes : List ℕ) (cells : List (ℕ × ℕ)) (u k j : ℕ) : Type 0 where
  pub inside : u < length homes
  pub cell : cell_at cells u ≡ (k, j)

-- node u is in the use list of v
pub record LinkedTo (slots : List Row) (keys : ℕ → Option ℕ) (homes : List ℕ) (u : ℕ) (v : Value) : Type 0 where
  pub item : IsItem homes u
  pub home : value_head slots keys v ≡ Some (home_at homes u)

-- a node in a use list is the node of an operand that is linked
pub record Stands (slots : List Row) (on : ℕ → ℕ → Bool) (u : ℕ) : Type 0 where
  pub row : ℕ
  pub place : ℕ
  pub value : Value
  pub use_of : UseOf slots u row place value
  pub put : on row place ≡ true

-- exactly the operands that `on` selects are in the use lists of their values
pub record Index (slots : List Row) (keys : ℕ → Option ℕ) (homes : List ℕ) (cells : List (ℕ × ℕ)) (on : ℕ → ℕ → Bool) : Type 0 where
  pub counted : length cells ≡ length homes
  pub cell : (k j : ℕ) (v : Value) → Used slots k → operand_at slots k j ≡ Some v → CellOf homes cells (use_at slots k j) k j
  pub linked : (k j : ℕ) (v : Value) → Used slots k → operand_at slots k j ≡ Some v → on k j ≡ true → LinkedTo slots keys homes (use_at slots k j) v
  pub unlinked_home : (k j : ℕ) (v : Value) → Used slots k → operand_at slots k j ≡ Some v → on k j ≡ false → home_at homes (use_at slots k j) ≡ free
  pub users : (u : ℕ) → IsItem homes u → Stands slots on u
  pub heads : (v : Value) (h : ℕ) → value_head slots keys v ≡ Some h → IsHead homes h
  pub one : (v w : Value) (h : ℕ) → value_head slots keys v ≡ Some h → value_head slots keys w ≡ Some h → v ≡ w

-- the operands of the module's operations are linked
abbrev pub lives : List Row → ℕ → ℕ → Bool
lives slots k j = (row_at slots k).live

-- the operands of the module's operations, with those of slot k only from index a on, and before b
abbrev pub operands_between : List Row → ℕ → ℕ → ℕ → ℕ → ℕ → Bool
operands_between slots k a b q j = if eqb q k then not (nat_lt j a) && nat_lt j b else (row_at slots q).live

-- the lists of n heads from b on are empty
abbrev pub all_idle : List (List ℕ) → ℕ → ℕ → Bool
all_idle lists b zero = true
all_idle lists b (suc n) = is_nil (list_at lists b) && all_idle lists (b + 1) n

-- the use lists of the arguments of blocks are empty
abbrev pub args_idle : List Row → List (List ℕ) → List RegionShape → Bool
args_idle slots lists [] = true
args_idle slots lists (None ∷ xs) = args_idle slots lists xs
args_idle slots lists (Some a ∷ xs) = all_idle lists (row_at slots a.1).values (length a.0) && args_idle slots lists xs

-- the use lists of the values of the operation in slot k are empty
abbrev pub row_idle : List Row → List (List ℕ) → ℕ → Bool
row_idle slots lists k = all_idle lists (row_at slots k).values (length (row_at slots k).head.results) && args_idle slots lists (row_at slots k).shapes

-- n nodes from b on are free
abbrev pub freed : ℕ → ℕ → List ℕ → List ℕ
freed b zero homes = homes
freed b (suc n) homes = freed (b + 1) n (slice_set homes b free)

-- nodes from b on are in the lists of the heads of values
abbrev pub led_to : ℕ → Option ℕ → List ℕ → List ℕ
led_to b None homes = homes
led_to b (Some h) homes = slice_set homes b h

abbrev pub LeadsTo : List ℕ → Option ℕ → Type 0
LeadsTo homes None = ⊥
LeadsTo homes (Some h) = IsHead homes h × (length homes < free)

abbrev pub all_led : (Value → Option ℕ) → ℕ → List Value → List ℕ → List ℕ
all_led head b [] homes = homes
all_led head b (v ∷ vs) homes = all_led head (b + 1) vs (led_to b (head v) homes)

-- the precondition of `led_to`
abbrev pub CanLead : (Value → Option ℕ) → ℕ → List Value → List ℕ → Type 0
CanLead head b [] homes = length homes < free
CanLead head b (v ∷ vs) homes = IsFree homes b × (LeadsTo homes (head v) × CanLead head (b + 1) vs (led_to b (head v) homes))

-- the precondition of `freed`
pub record CanFree (b n : ℕ) (homes : List ℕ) : Type 0 where
  pub few : length homes < free
  pub items : (i : ℕ) → i < n → IsItem homes (b + i)

pub record AreHeads (b n : ℕ) (homes : List ℕ) : Type 0 where
  pub few : length homes < free
  pub heads : (i : ℕ) → i < n → IsHead homes (b + i)

-- the heads of the arguments of blocks are list heads
abbrev pub ArgHeads : List Row → List ℕ → List RegionShape → Type 0
ArgHeads slots homes [] = Unit {0}
ArgHeads slots homes (None ∷ xs) = ArgHeads slots homes xs
ArgHeads slots homes (Some a ∷ xs) = AreHeads (row_at slots a.1).values (length a.0) homes × ArgHeads slots homes xs

-- the heads of the values of the operation in slot k are list heads
pub record HasHeads (slots : List Row) (homes : List ℕ) (k : ℕ) : Type 0 where
  pub results : AreHeads (row_at slots k).values (length (row_at slots k).head.results) homes
  pub arguments : ArgHeads slots homes (row_at slots k).shapes

-- the operation of each value that the module's operations use is in the module
abbrev pub HasOwners : List Row → (ℕ → Option ℕ) → Type 0
HasOwners slots keys = (k j : ℕ) (v : Value) → Live slots k → operand_at slots k j ≡ Some v → is_some (live_slot slots keys (owner_of v).0) ≡ true

-- the ids of the module's operations are below a bound
abbrev pub HasIdsBelow : ℕ → List Row → Type 0
HasIdsBelow n slots = (k : ℕ) → Live slots k → (row_at slots k).head.id < n

-- the cells of the heads of values have their owners: a result's cell has the slot of the operation, an argument's cell
-- that of the block's head
pub record Celled (slots : List Row) (cells : List (ℕ × ℕ)) : Type 0 where
  pub results : (k i : ℕ) → Used slots k → i < length (row_at slots k).head.results → cell_at cells ((row_at slots k).values + i) ≡ (k, i)
  pub arguments : (k r i : ℕ) (a : List ℕ × ℕ) → Used slots k → slice_get (row_at slots k).shapes r ≡ Some (Some a) → i < length a.0 → cell_at cells ((row_at slots a.1).values + i) ≡ (a.1, i)

-- the slots and the use lists are consistent
pub record Fits (slots : List Row) (keys : ℕ → Option ℕ) (sibs : Lists) (root : ℕ) (t : Op) (homes : List ℕ) (cells : List (ℕ × ℕ)) (count free_id : ℕ) (marks : List ℕ) : Type 0 where
  pub right : Right slots keys sibs root t
  pub few : length homes < free
  pub index : Index slots keys homes cells (lives slots)
  pub distinct : HasDistinctIds t
  pub counted : count ≡ op_count t
  pub below : HasIdsBelow free_id slots
  pub owned : HasOwners slots keys
  pub marked : Marked slots marks
  pub celled : Celled slots cells

-- the type of a value of an operation that has a slot
abbrev pub shape_type : ℕ → RegionShape → Option ℕ
shape_type i None = None
shape_type i (Some a) = slice_get a.0 i

abbrev pub slot_type : List Row → Value → ℕ → Option ℕ
slot_type slots (Result x i) q = slice_get (row_at slots q).head.results i
slot_type slots (Arg x r i) q = option_and_then (shape_type i) (slice_get (row_at slots q).shapes r)

abbrev pub type_in : List Row → (ℕ → Option ℕ) → Value → Option ℕ
type_in slots slot_map v = option_and_then (slot_type slots v) (slot_map (owner_of v).0)
