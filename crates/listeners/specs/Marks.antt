-- The marking in a table of roles, in numbers.
use Rattle.std.specs.Prelude.{◌≡◌, ◌⊎◌, ◌*◌, ◌+◌, ℕ, List, [], ◌∷◌, ◌++◌, map, length, eqb, true, if◌then◌else◌, Option}
use Rattle.std.specs.Prelude.{Some, None, option_map, is_some, Vec}
use Rattle.std.specs.Ordering.{nat_cmp}
use Rattle.std.specs.BTreeMap.{BTreeMap, btree_map_len}
use Rattle.std.specs.BTreeMap as tree
use Rattle.ir_event.specs.tree_laws.Members.{In}
use Rattle.listeners_symbols.specs.Roles.{RoleOf}
use Rattle.listeners_symbols.specs.Symbols.{RoleAt, DefinitionOf}
use Rattle.listeners.specs.Reached.{IsReached}
use Rattle.listeners.specs.Unreached.{private_name, says_definition, reached_from}
use Rattle.listeners.specs.Marking.{Left, Marks, Removed, Considered, Dropped}

-- the parent of an operation, by its role
abbrev pub parent_at : {N T A : Type 0} → Option (RoleOf N T A) → Option ℕ
parent_at None = None
parent_at (Some r) = r.parent

-- an operation is under itself, and under everything that its parent is under
pub data IsUnder (roles : RoleAt ℕ ℕ ℕ) : ℕ → ℕ → Type 0 where
  itself : (y : ℕ) → IsUnder roles y y
  around : (y q p : ℕ) → parent_at (roles y) ≡ Some q → IsUnder roles q p → IsUnder roles y p

-- a private definition
abbrev pub IsDefinition : RoleAt ℕ ℕ ℕ → ℕ → Type 0
IsDefinition roles x = says_definition (roles x) ≡ true

-- the operations reached from an operation, by a table of roles
abbrev pub Reaches : RoleAt ℕ ℕ ℕ → List (DefinitionOf ℕ) → ℕ → ℕ → Type 0
Reaches roles ds y x = In x (reached_from eqb roles ds (roles y))

abbrev pub ReachedBy : RoleAt ℕ ℕ ℕ → List (DefinitionOf ℕ) → ℕ → Type 0
ReachedBy roles ds = IsReached (IsDefinition roles) (IsUnder roles) (Reaches roles ds)

-- ---- in code

-- the map of unmarked definitions, and the queue of pending operations
abbrev pub Waitings : Type 0 → Type 0
Waitings Y = BTreeMap ℕ (Vec ℕ Y)

abbrev pub Queue : Type 0 → Type 0 → Type 0
Queue Y Z = Vec (Vec ℕ Y) Z

abbrev pub left_at : {Y : Type 0} → Waitings Y → Left
left_at {Y} m x = option_map (λ (v : Vec ℕ Y). v.items) (tree.get nat_cmp m x)

abbrev pub queue_of : {Y Z : Type 0} → Queue Y Z → List (List ℕ)
queue_of {Y} q = map (λ (v : Vec ℕ Y). v.items) q.items

-- the same with the relations of a table of roles
abbrev pub MarksIn : {Y Z : Type 0} → RoleAt ℕ ℕ ℕ → List (DefinitionOf ℕ) → List ℕ → Queue Y Z → Waitings Y → Type 0
MarksIn roles ds todo q m =
    Marks (IsDefinition roles) (IsUnder roles) (Reaches roles ds) todo (queue_of q) (left_at m)

abbrev pub RemovedIn : {Y Z : Type 0} → RoleAt ℕ ℕ ℕ → List (DefinitionOf ℕ) → List ℕ → Queue Y Z → Waitings Y
    → Queue Y Z → Waitings Y → Type 0
RemovedIn roles ds xs q m r n =
    Removed (IsDefinition roles) (IsUnder roles) (Reaches roles ds) xs (queue_of q) (left_at m) (queue_of r)
    (left_at n)

abbrev pub ConsideredIn : {Y Z : Type 0} → RoleAt ℕ ℕ ℕ → List (DefinitionOf ℕ) → List ℕ → Queue Y Z → Waitings Y
    → Queue Y Z → Waitings Y → Type 0
ConsideredIn roles ds ys q m r n =
    Considered (IsDefinition roles) (IsUnder roles) (Reaches roles ds) ys (queue_of q) (left_at m) (queue_of r)
    (left_at n)

-- x was marked if it was unmarked, and the operations that waited for it are pending
abbrev pub TakesOut : ℕ → List (List ℕ) → Left → List (List ℕ) → Left → Type 0
TakesOut x q left r after =
    ((left x ≡ None) × (r ≡ q) × ((z : ℕ) → after z ≡ left z))
    ⊎ ((ws : List ℕ) × (left x ≡ Some ws) × (r ≡ q ++ ws ∷ []) × Dropped x left after)

-- a measure that each step lowers: two for each unmarked definition, one for each pending list
abbrev pub size : {Y Z : Type 0} → Waitings Y → Queue Y Z → ℕ
size m q = 2 * btree_map_len m + length q.items

-- an unmarked definition that the operation is under, if there is one
abbrev pub IsAbove : RoleAt ℕ ℕ ℕ → Left → ℕ → Option ℕ → Type 0
IsAbove roles left y None = (p : ℕ) → IsUnder roles y p → left p ≡ None
IsAbove roles left y (Some p) = IsUnder roles y p × (is_some (left p) ≡ true)

-- the unmarked definitions are those that aren't reached
pub record IsMarked (roles : RoleAt ℕ ℕ ℕ) (ds : List (DefinitionOf ℕ)) (left : Left) : Type 0 where
  pub sound : (x : ℕ) → IsDefinition roles x → left x ≡ None → ReachedBy roles ds x
  pub complete : (x : ℕ) → ReachedBy roles ds x → left x ≡ None
  pub only : (x : ℕ) (ws : List ℕ) → left x ≡ Some ws → IsDefinition roles x

-- the same for an operation, if there is one
abbrev pub TakesFound : Option ℕ → List (List ℕ) → Left → List (List ℕ) → Left → Type 0
TakesFound None q left r after = (r ≡ q) × ((z : ℕ) → after z ≡ left z)
TakesFound (Some x) q left r after = TakesOut x q left r after

-- the entry of z after x was added, if x is a private definition with this name
abbrev pub added : ℕ → Option ℕ → ℕ → Option (List ℕ) → Option (List ℕ)
added x None z o = o
added x (Some name) z o = if eqb x z then Some [] else o

-- the same, by the role of x
abbrev pub added_at : ℕ → Option (RoleOf ℕ ℕ ℕ) → ℕ → Option (List ℕ) → Option (List ℕ)
added_at x None z o = o
added_at x (Some r) z o = added x (private_name r) z o

-- the same after several operations were added in order
abbrev pub those_added : RoleAt ℕ ℕ ℕ → ℕ → List ℕ → Option (List ℕ) → Option (List ℕ)
those_added roles z [] o = o
those_added roles z (x ∷ xs) o = those_added roles z xs (added_at x (roles x) z o)

-- at first all private definitions are unmarked, and nothing waits
abbrev pub StartsIn : RoleAt ℕ ℕ ℕ → Left → Type 0
StartsIn roles left = (x : ℕ) → left x ≡ (if says_definition (roles x) then Some [] else None)

-- in the end no operation is to be visited
abbrev pub SettledIn : {Y : Type 0} → RoleAt ℕ ℕ ℕ → List (DefinitionOf ℕ) → Waitings Y → Type 0
SettledIn roles ds m = Marks (IsDefinition roles) (IsUnder roles) (Reaches roles ds) [] [] (left_at m)
