-- The operations of a tree as a list with their parents, and the table of their effects.
use Rattle.std.specs.Prelude.{◌≡◌, ℕ, ◌+◌, List, [], ◌∷◌, ◌++◌, eqb, nat_lt, Bool, false, ◌&&◌, if◌then◌else◌, Option}
use Rattle.std.specs.Prelude.{Some, None}
use Rattle.ir_event.specs.tree_laws.Members.{In}
use Rattle.ir_event.specs.trees.Tree.{OpOf, op, RegionsOf, no_regions, region}
use Rattle.ir_event.specs.trees.Tree.{RegionOf, empty, block, OpsOf, no_ops, next}
use Rattle.effects.specs.declared.effect_kinds.EffectKinds.{EffectKinds}
use Rattle.op_registry.specs.declared.own.Own.{Own}
use Rattle.effects.specs.declared.row.Counts.{Counts}
use Rattle.effects.specs.declared.row.Row.{Row}
use Rattle.effects.specs.Effects.{Effect, unknown, allocate, free, read, write, has, own_kinds, is_recursive}

-- an operation, its parent, and its own effects
pub record Point : Type 0 where
  pub id : ℕ
  pub parent : Option ℕ
  pub own : Own

-- the operations of a tree in pre-order; p is the parent of the root
abbrev mutual
  pub points : {N T A : Type 0} → (N → Own) → Option ℕ → OpOf N T A → List Point
  points own p (op h rs) = record { id = h.id; parent = p; own = own h.name } ∷ regions_points own h.id rs

  pub regions_points : {N T A : Type 0} → (N → Own) → ℕ → RegionsOf N T A → List Point
  regions_points own p no_regions = []
  regions_points own p (region r rs) = region_points own p r ++ regions_points own p rs

  pub region_points : {N T A : Type 0} → (N → Own) → ℕ → RegionOf N T A → List Point
  region_points own p empty = []
  region_points own p (block args os) = ops_points own p os

  pub ops_points : {N T A : Type 0} → (N → Own) → ℕ → OpsOf N T A → List Point
  ops_points own p no_ops = []
  ops_points own p (next o os) = points own (Some p) o ++ ops_points own p os

-- 1 if b, and 0 otherwise
abbrev pub one_if : Bool → ℕ
one_if b = if b then 1 else 0

-- whether the parent of an operation is x
abbrev pub is_in : ℕ → Option ℕ → Bool
is_in x None = false
is_in x (Some p) = eqb p x

-- how many children of x have an effect
abbrev pub weight : (ℕ → Bool) → ℕ → List Point → ℕ
weight f x [] = 0
weight f x (n ∷ ns) = one_if (is_in x n.parent && f n.id) + weight f x ns

-- no operation of a list has id x
abbrev pub Lacks : ℕ → List Point → Type 0
Lacks x [] = Unit {0}
Lacks x (n ∷ ns) = (n.id ≡ x → ⊥) × Lacks x ns

-- no operation of the list has the parent x
abbrev pub Childless : ℕ → List Point → Type 0
Childless x [] = Unit {0}
Childless x (n ∷ ns) = (is_in x n.parent ≡ false) × Childless x ns

-- the ids of the list are distinct
abbrev pub Apart : List Point → Type 0
Apart [] = Unit {0}
Apart (n ∷ ns) = Lacks n.id ns × Apart ns

-- whether an operation has an effect, given how many of its children have it
abbrev pub given : Effect → Own → ℕ → Bool
given e own count = if is_recursive own then nat_lt 0 count else has e (own_kinds own)

-- the count of an effect
abbrev pub count_of : Effect → Counts → ℕ
count_of unknown c = c.unknown
count_of allocate c = c.allocate
count_of free c = c.free
count_of read c = c.read
count_of write c = c.write

-- a table: the entry of an operation, if it has one
abbrev pub Rows : Type 0
Rows = ℕ → Option Row

-- whether an entry has an effect
abbrev pub row_has : Effect → Option Row → Bool
row_has e None = false
row_has e (Some r) = has e r.has

-- how many children have an effect, by the entry
abbrev pub row_count : Effect → Option Row → ℕ
row_count e None = 0
row_count e (Some r) = count_of e r.counts

-- whether an operation has an effect by the table, and how many of its children have it
abbrev pub has_at : Effect → Rows → ℕ → Bool
has_at e rows x = row_has e (rows x)

abbrev pub count_at : Effect → Rows → ℕ → ℕ
count_at e rows x = row_count e (rows x)

-- the table with entry r for x
abbrev pub with_row : ℕ → Option Row → Rows → Rows
with_row x r rows y = if eqb x y then r else rows y

-- the table keeps the operation
pub record Keeps (rows : Rows) (n : Point) : Type 0 where
  pub row : Row
  pub is : rows n.id ≡ Some row
  pub parent : row.parent ≡ n.parent
  pub recursive : row.recursive ≡ is_recursive n.own

-- the table keeps exactly the operations of the list, with their effects by the counts; each count is right, except
-- that the counts of p lack one for each of `more` and have one too many for each of `less`
pub record Holds (rows : Rows) (ns : List Point) (p : Option ℕ) (more less : EffectKinds) : Type 0 where
  pub known : (n : Point) → In n ns → Keeps rows n
  pub only : (x : ℕ) → Lacks x ns → rows x ≡ None
  pub counts : (e : Effect) (n : Point) → In n ns →
      count_at e rows n.id + one_if (is_in n.id p && has e more)
      ≡ weight (has_at e rows) n.id ns + one_if (is_in n.id p && has e less)
  pub each : (e : Effect) (n : Point) → In n ns → has_at e rows n.id ≡ given e n.own (count_at e rows n.id)
