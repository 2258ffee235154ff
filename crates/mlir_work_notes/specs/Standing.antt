-- Nesting of operations, and the values that they use.
use Rattle.std.specs.Prelude.{ℕ, zero, suc, List, eqb, Bool, false, not, ◌&&◌, ◌||◌, Option, Some, None}
use Rattle.std.specs.List.{filter, list_any}
use Rattle.ir_event.specs.trees.declared.value.Value.{Value}
use Rattle.ir_event.specs.trees.Frames.{owner_of}
use Rattle.ir_event.specs.trees.Ids.{find, ids, op_count}
use Rattle.ir_event.specs.trees.Sites.{visible}
use Rattle.ir_event.specs.trees.Tree.{OpOf, head}
use Rattle.ir_event.specs.trees.Uses.{same_value}
use Rattle.ir_event.specs.tree_laws.Reads.{parent_of}

-- whether there is a number and it satisfies `p`
abbrev pub has_such : (ℕ → Bool) → Option ℕ → Bool
has_such p None = false
has_such p (Some x) = p x

-- whether operation `y` or one of its first `n` ancestors is `x`
abbrev pub is_within_ancestors : {N T A : Type 0} → ℕ → ℕ → OpOf N T A → ℕ → Bool
is_within_ancestors zero x t y = eqb y x
is_within_ancestors (suc n) x t y = eqb y x || has_such (is_within_ancestors n x t) (parent_of y t)

-- whether operation `y` is `x` or is nested in it; an operation has fewer ancestors than the tree has operations
abbrev pub is_inside : {N T A : Type 0} → ℕ → OpOf N T A → ℕ → Bool
is_inside x t y = is_within_ancestors (op_count t) x t y

-- whether a value belongs to operation `x` or to one nested in it
abbrev pub comes_from : {N T A : Type 0} → ℕ → OpOf N T A → Value → Bool
comes_from x t v = is_inside x t (owner_of v).0

-- whether an operation, if it exists, uses such a value
abbrev pub takes_from : {N T A : Type 0} → ℕ → OpOf N T A → Option (OpOf N T A) → Bool
takes_from x t None = false
takes_from x t (Some o) = list_any (comes_from x t) (head o).operands

-- whether operation `y` is outside `x` and uses such a value
abbrev pub uses_from_outside : {N T A : Type 0} → ℕ → OpOf N T A → ℕ → Bool
uses_from_outside x t y = takes_from x t (find y t) && not (is_inside x t y)

-- the operations outside `x` that use a value of `x` or of an operation nested in it, in pre-order
abbrev pub outside_users : {N T A : Type 0} → ℕ → OpOf N T A → List ℕ
outside_users x t = filter (uses_from_outside x t) (ids t)

-- whether an operation, if it exists, uses a value
abbrev pub takes : {N T A : Type 0} → Value → Option (OpOf N T A) → Bool
takes v None = false
takes v (Some o) = list_any (same_value v) (head o).operands

-- whether operation `y` uses `old` while `new` isn't visible there
abbrev pub is_blind : {N T A : Type 0} → (N → Bool) → Value → Value → OpOf N T A → ℕ → Bool
is_blind isolated old new t y = takes old (find y t) && not (visible isolated t y new)

-- the operations that use `old` while `new` isn't visible there, in pre-order
abbrev pub blind_users : {N T A : Type 0} → (N → Bool) → Value → Value → OpOf N T A → List ℕ
blind_users isolated old new t = filter (is_blind isolated old new t) (ids t)
