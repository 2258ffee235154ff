-- The list of a tree's operations with their paths. The other functions of a tree are functions of this list.
use Rattle.std.specs.Prelude.{ℕ, ◌+◌, max, List, [], ◌∷◌, ◌++◌, length, map, eqb, Bool, false, not, ◌&&◌, ◌||◌, if◌then◌else◌, Option, Some, None}
use Rattle.std.specs.List.{list_any, filter}
use Rattle.ir_tree.specs.declared.value.Value.{Value}
use Rattle.ir_tree.specs.declared.place.Place.{Place}
use Rattle.ir_tree.specs.Tree.{HeadOf, OpOf, op, RegionsOf, no_regions, region, RegionOf, empty, block, OpsOf, no_ops, next, head}
use Rattle.ir_tree.specs.Ids.{first_of}
use Rattle.ir_tree.specs.Places.{first_id, each_list, ops_each_list, drop_op}
use Rattle.ir_tree.specs.Edits.{each_head, ops_each_head}
use Rattle.ir_tree.specs.Sites.{Frame, arguments, Site, shows, results_of, inside}

-- one step of a path, a position in a block: the parent, the index of its region, the arguments of the block, the
-- operations before the position, and the operations after it
pub record StepOf (N T A : Type 0) : Type 0 where
  pub parent : OpOf N T A
  pub region : ℕ
  pub args : List T
  pub preceding : List (OpOf N T A)
  pub rest : OpsOf N T A

-- an operation with its path: its own position and those of its ancestors, innermost first; empty for the root
pub record OpWithPathOf (N T A : Type 0) : Type 0 where
  pub here : OpOf N T A
  pub path : List (StepOf N T A)

-- the id of the operation
abbrev pub op_with_path_id : {N T A : Type 0} → OpWithPathOf N T A → ℕ
op_with_path_id s = (head s.here).id

-- each operation with its path, in pre-order
abbrev mutual
  pub stands : {N T A : Type 0} → List (StepOf N T A) → OpOf N T A → List (OpWithPathOf N T A)
  stands path (op h rs) = record { here = op h rs; path = path } ∷ regions_stands (op h rs) path 0 rs

  pub regions_stands : {N T A : Type 0} → OpOf N T A → List (StepOf N T A) → ℕ → RegionsOf N T A → List (OpWithPathOf N T A)
  regions_stands p path r no_regions = []
  regions_stands p path r (region g rs) = region_stands p path r g ++ regions_stands p path (r + 1) rs

  pub region_stands : {N T A : Type 0} → OpOf N T A → List (StepOf N T A) → ℕ → RegionOf N T A → List (OpWithPathOf N T A)
  region_stands p path r empty = []
  region_stands p path r (block args os) = ops_stands p path r args [] os

  pub ops_stands : {N T A : Type 0} → OpOf N T A → List (StepOf N T A) → ℕ → List T → List (OpOf N T A) → OpsOf N T A → List (OpWithPathOf N T A)
  ops_stands p path r args preceding no_ops = []
  ops_stands p path r args preceding (next o os) =
      stands (record { parent = p; region = r; args = args; preceding = preceding; rest = os } ∷ path) o ++ ops_stands p path r args (preceding ++ o ∷ []) os

-- the first member of the list with this id
abbrev pub find_op_with_path : {N T A : Type 0} → ℕ → List (OpWithPathOf N T A) → Option (OpWithPathOf N T A)
find_op_with_path x [] = None
find_op_with_path x (s ∷ ss) = if eqb (op_with_path_id s) x then Some s else find_op_with_path x ss

-- operation x of a tree, with its path
abbrev pub op_with_path : {N T A : Type 0} → ℕ → OpOf N T A → Option (OpWithPathOf N T A)
op_with_path x t = find_op_with_path x (stands [] t)

-- the concatenation of the lists that a function returns for the members of a list
abbrev pub gather : {X Y : Type 0} → (X → List Y) → List X → List Y
gather f [] = []
gather f (x ∷ xs) = f x ++ gather f xs

-- the first result that a function returns for a member of a list
abbrev pub first_some : {X Y : Type 0} → (X → Option Y) → List X → Option Y
first_some f [] = None
first_some f (x ∷ xs) = first_of (f x) (first_some f xs)

-- the maximum of a function over a list
abbrev pub greatest : {X : Type 0} → (X → ℕ) → List X → ℕ
greatest f [] = 0
greatest f (x ∷ xs) = max (f x) (greatest f xs)

-- the place at the end of a path
abbrev pub place_in : {N T A : Type 0} → List (StepOf N T A) → Option Place
place_in [] = None
place_in (a ∷ path) = Some (record { parent = (head a.parent).id; region = a.region; before = first_id a.rest })

-- the nearest ancestor whose name passes a test
abbrev pub table_in : {N T A : Type 0} → (N → Bool) → List (StepOf N T A) → Option ℕ
table_in is_table [] = None
table_in is_table (a ∷ path) = if is_table (head a.parent).name then Some (head a.parent).id else table_in is_table path

-- the scope at the end of a path
abbrev pub scope_of : {N T A : Type 0} → (N → Bool) → List (StepOf N T A) → List Frame
scope_of isolated [] = []
scope_of isolated (a ∷ path) =
    (inside isolated (head a.parent) (scope_of isolated path) ++ arguments (head a.parent).id a.region (length a.args) ∷ []) ++ map results_of a.preceding

-- whether a value is visible at the end of a path: it is a result of an earlier operation of the block, or an argument
-- of the block, or it is visible at the parent and the parent isn't isolated from above
abbrev pub dominated_by : {N T A : Type 0} → (N → Bool) → List (StepOf N T A) → Value → Bool
dominated_by isolated [] v = false
dominated_by isolated (a ∷ path) v =
    list_any (λ o. shows v (results_of o)) a.preceding || (shows v (arguments (head a.parent).id a.region (length a.args)) || not (isolated (head a.parent).name) && dominated_by isolated path v)

-- an operation of the list with its scope
abbrev pub site_of : {N T A : Type 0} → (N → Bool) → OpWithPathOf N T A → Site N T A
site_of isolated s = record { here = s.here; scope = scope_of isolated s.path }

-- the place of operation x, if this is x and it isn't the root
abbrev pub place_at : {N T A : Type 0} → ℕ → OpWithPathOf N T A → Option Place
place_at x s = if eqb (op_with_path_id s) x then place_in s.path else None

-- whether the operation at the end of a path is operation x or within it, if x isn't the root
abbrev pub gone_in : {N T A : Type 0} → ℕ → OpOf N T A → List (StepOf N T A) → Bool
gone_in x o [] = false
gone_in x o (a ∷ path) = eqb (head o).id x || gone_in x a.parent path

-- the same, of an operation with its path
abbrev pub is_gone : {N T A : Type 0} → ℕ → OpWithPathOf N T A → Bool
is_gone x s = gone_in x s.here s.path

-- a step of a path, in the tree with its heads changed
abbrev pub edit_step : {N T A : Type 0} → (HeadOf N T A → HeadOf N T A) → StepOf N T A → StepOf N T A
edit_step f a = record { parent = each_head f a.parent; region = a.region; args = a.args; preceding = map (each_head f) a.preceding; rest = ops_each_head f a.rest }

-- an operation with its path, in the tree with its heads changed
abbrev pub edit_stand : {N T A : Type 0} → (HeadOf N T A → HeadOf N T A) → OpWithPathOf N T A → OpWithPathOf N T A
edit_stand f s = record { here = each_head f s.here; path = map (edit_step f) s.path }

-- the edit of lists that removes operation x
abbrev pub dropping : {N T A : Type 0} → ℕ → ℕ → ℕ → OpsOf N T A → OpsOf N T A
dropping x = λ p r os. drop_op x os

-- a step of a path, in the tree without operation x
abbrev pub left_step : {N T A : Type 0} → ℕ → StepOf N T A → StepOf N T A
left_step x a = record {
  parent = each_list (dropping x) a.parent;
  region = a.region;
  args = a.args;
  preceding = filter (λ o. not (eqb (head o).id x)) (map (each_list (dropping x)) a.preceding);
  rest = drop_op x (ops_each_list (dropping x) a.rest);
}

-- an operation with its path, in the tree without operation x
abbrev pub left_stand : {N T A : Type 0} → ℕ → OpWithPathOf N T A → OpWithPathOf N T A
left_stand x s = record { here = each_list (dropping x) s.here; path = map (left_step x) s.path }
