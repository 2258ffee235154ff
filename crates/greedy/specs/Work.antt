-- The worklist: the operations at which an entry of the pattern set may apply.
use Rattle.std.specs.Prelude.{◌≡◌, ◌⊎◌, ◌<◌, ◌+◌, length, ℕ, List, [], ◌∷◌, Bool, true, false, ◌||◌, eqb, if◌then◌else◌}
use Rattle.ir_event.specs.trees.Ids.{ids, find, has_id, HasDistinctIds}
use Rattle.ir_event.specs.trees.Meaning.{Operation}
use Rattle.ir_event.specs.tree_laws.Reads.{is_within, precedes}
use Rattle.ir_event.specs.Modules.{Module}
use Rattle.patterns_base.specs.Rewrites.{none}
use Rattle.greedy.specs.Orders.{Orderly}
use Rattle.greedy.specs.LocalContext.{is_listed}
use Rattle.greedy.specs.PatternSet.{PatternSetModel}

-- ---- the worklist

-- whether an operation waits: it comes after the passed operation, or it is in `again`
abbrev pub waits : ℕ → List ℕ → Operation → ℕ → Bool
waits passed again t x = precedes passed x t || is_listed x again

-- operations in reverse pre-order, without duplicates
abbrev pub Falls : Operation → List ℕ → Type 0
Falls t [] = Unit {0}
Falls t (y ∷ ys) = ((z : ℕ) → is_listed z ys ≡ true → precedes z y t ≡ true) × Falls t ys

-- a worklist in a tree: the passed operation and those of `again` are in the tree; `again` is in reverse pre-order
-- without duplicates, and none of it comes after the passed operation
pub record IsWork (passed : ℕ) (again : List ℕ) (t : Operation) : Type 0 where
  pub there : has_id passed t ≡ true
  pub inside : (y : ℕ) → is_listed y again ≡ true → has_id y t ≡ true
  pub trailing : (y : ℕ) → is_listed y again ≡ true → precedes passed y t ≡ false
  pub falls : Falls t again

-- no entry of the pattern set applies at an operation that doesn't wait
abbrev pub Covers : PatternSetModel → ℕ → List ℕ → Module → Type 0
Covers a passed again m =
    (x : ℕ) → has_id x m.tree ≡ true → waits passed again m.tree x ≡ false → a.comes m x ≡ none

-- a worklist of a module, for a pattern set
pub record Right (a : PatternSetModel) (passed : ℕ) (again : List ℕ) (m : Module) : Type 0 where
  pub work : IsWork passed again m.tree
  pub covers : Covers a passed again m

-- the number of entries after the first a in a list, and a bound on the number of waiting operations
abbrev pub count_after : ℕ → List ℕ → ℕ
count_after a [] = 0
count_after a (x ∷ xs) = if eqb x a then length xs else count_after a xs

abbrev pub left : ℕ → List ℕ → Operation → ℕ
left passed again t = count_after passed (ids t) + length again

-- ---- its calls

-- operation x was taken from a worklist: no waiting operation comes before x, and the others still wait
pub record Taken (x passed : ℕ) (again : List ℕ) (passed2 : ℕ) (again2 : List ℕ) (t : Operation) : Type 0 where
  pub there : has_id x t ≡ true
  pub first : (z : ℕ) → precedes z x t ≡ true → waits passed again t z ≡ false
  pub others : (z : ℕ) → has_id z t ≡ true → waits passed again t z ≡ true → (z ≡ x) ⊎ (waits passed2 again2 t z ≡ true)
  pub work : IsWork passed2 again2 t
  -- the passed operation stays the same, or it came before x
  pub nearby : (passed2 ≡ passed) ⊎ (precedes passed x t ≡ true)
  pub fewer : left passed2 again2 t < left passed again t

-- no operation waits
abbrev pub NoneWaits : ℕ → List ℕ → Operation → Type 0
NoneWaits passed again t = (z : ℕ) → has_id z t ≡ true → waits passed again t z ≡ false

-- an operation that waited in one tree, and is in another, waits there
abbrev pub StillWaits : ℕ → List ℕ → Operation → ℕ → List ℕ → Operation → Type 0
StillWaits passed again t passed2 again2 u = (z : ℕ) → has_id z t ≡ true → has_id z u ≡ true
    → waits passed again t z ≡ true → waits passed2 again2 u z ≡ true

-- a list in reverse pre-order, split by operation x: the entries that x comes before, and the others
pub record Parted (x : ℕ) (t : Operation) (point back : List ℕ) : Type 0 where
  pub later : (z : ℕ) → is_listed z point ≡ true → precedes x z t ≡ true
  pub others : (z : ℕ) → is_listed z back ≡ true → precedes x z t ≡ false

-- no entry of the pattern set applies at an operation that doesn't wait, except perhaps at operation x
abbrev pub CoversBut : PatternSetModel → ℕ → ℕ → List ℕ → Module → Type 0
CoversBut a x passed again m = (z : ℕ) → has_id z m.tree ≡ true → waits passed again m.tree z ≡ false
    → (z ≡ x) ⊎ (a.comes m z ≡ none)

-- all operations of a list are in a tree
abbrev pub AllIn : Operation → List ℕ → Type 0
AllIn t xs = (z : ℕ) → is_listed z xs ≡ true → has_id z t ≡ true

-- no operation of a list is operation x or inside it
abbrev pub AreApart : ℕ → List ℕ → Operation → Type 0
AreApart x xs t = (z : ℕ) → is_listed z xs ≡ true → is_within z (find x t) ≡ false

-- a worklist from which operation x was taken, and a rewrite at x from m to n
pub record Rewritten (x before : ℕ) (m n : Module) : Type 0 where
  pub distinct : HasDistinctIds m.tree
  pub orderly : Orderly x m n
  pub nearby : precedes before x m.tree ≡ true

-- whether a list begins with operation x
abbrev pub begins_with : ℕ → List ℕ → Bool
begins_with x [] = false
begins_with x (y ∷ ys) = eqb y x
