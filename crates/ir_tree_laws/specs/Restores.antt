-- The preconditions of an undo: an operation to insert again has its place and its operands; an operation to take out
-- is empty and unused.
use Rattle.std.specs.Prelude.{◌≡◌, ℕ, ◌+◌, ◌<◌, eqb, Bool, true, false}
use Rattle.std.specs.List.{list_all}
use Rattle.ir_tree.specs.declared.place.Place.{Place}
use Rattle.ir_tree.specs.Tree.{OpOf, head}
use Rattle.ir_tree.specs.Ids.{HasDistinctIds, find, has_id}
use Rattle.ir_tree.specs.Limits.{most_next}
use Rattle.ir_tree.specs.WellFormed.{ModuleOf}
use Rattle.ir_tree_laws.specs.Values.{has_value}
use Rattle.ir_tree_laws.specs.Reasons.{has_place, holds_none, unused}

-- the place and the operands of o are in the module; x is the next free id and isn't the last possible one, or is below
-- the next free id
pub record MayRestore {N T A : Type 0} (x : ℕ) (place : Place) (fresh : Bool) (o : OpOf N T A) (m : ModuleOf N T A) : Type 0 where
  pub point : has_place place m.tree ≡ true
  pub values : list_all (λ v. has_value v m.tree) (head o).operands ≡ true
  pub newest : fresh ≡ true → m.next ≡ x
  pub headroom : fresh ≡ true → x < most_next
  pub below : fresh ≡ false → x < m.next

-- operation x is in the module and isn't the root, holds no operation, and has no uses
pub record MayRetract {N T A : Type 0} (x : ℕ) (fresh : Bool) (m : ModuleOf N T A) : Type 0 where
  pub there : has_id x m.tree ≡ true
  pub inner : eqb (head m.tree).id x ≡ false
  pub empty : holds_none (find x m.tree) ≡ true
  pub unused : unused x m.tree ≡ true
  pub newest : fresh ≡ true → m.next ≡ x + 1

-- an operation that may be inserted at a place: the place is in the tree, and all ids are distinct
pub record MayPut {N T A : Type 0} (place : Place) (o t : OpOf N T A) : Type 0 where
  pub distinct : HasDistinctIds t
  pub own : HasDistinctIds o
  pub apart : (y : ℕ) → has_id y o ≡ true → has_id y t ≡ false
  pub point : has_place place t ≡ true
