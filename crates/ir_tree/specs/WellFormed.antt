-- Modules, and well-formedness.
use Rattle.std.specs.Prelude.{ℕ, ◌<◌, ◌≤◌, All, nat_le, Bool, if◌then◌else◌, IsTrue, Option, Some, None, refl}
use Rattle.std.specs.Coded.{Coded, code_by, coded_ℕ, coded×}
use Rattle.ir_types.specs.declared.refusal.Refusal.{Refusal}
use Rattle.ir_types.specs.declared.refusal.Refusal.TheVariants.{UnknownValue, TooDeep, TooMany}
use Rattle.ir_tree.specs.Tree.{OpOf, Op}
use Rattle.ir_tree.specs.Code.{op_code}
use Rattle.ir_tree.specs.Ids.{ids, HasDistinctIds}
use Rattle.ir_tree.specs.Sites.{operands_visible}
use Rattle.ir_tree.specs.Limits.{depth, counts_fit, most_around, most_next}

-- a module: a tree, and the next free id
pub record ModuleOf (N T A : Type 0) : Type 0 where
  pub tree : OpOf N T A
  pub next : ℕ

-- the modules whose names, types and attributes are ids of a context
abbrev pub Module : Type 0
Module = ModuleOf ℕ ℕ ℕ

abbrev pub module_code : Coded Module
module_code = code_by (Op × ℕ) (coded× op_code coded_ℕ) (λ m. (m.tree, m.next)) (λ p. record { tree = p.0; next = p.1 }) (λ _. refl)

-- every operand is visible, no operation exceeds the depth limit, and no count exceeds its limit
pub record IsValidTree {N T A : Type 0} (isolated : N → Bool) (t : OpOf N T A) : Type 0 where
  pub visible : IsTrue (operands_visible isolated t)
  pub shallow : depth t ≤ most_around
  pub counts : IsTrue (counts_fit t)

-- a module is well-formed if its tree is valid, all ids are distinct and below the next free id, and that one is within
-- its limit
pub record IsWellFormed {N T A : Type 0} (isolated : N → Bool) (m : ModuleOf N T A) : Type 0 where
  pub distinct : HasDistinctIds m.tree
  pub below : All (λ x. x < m.next) (ids m.tree)
  pub next : m.next ≤ most_next
  pub wellformed : IsValidTree isolated m.tree

-- the first fault of a tree, if there is one: an operand that isn't visible, an operation beyond the depth limit, a
-- count beyond its limit
abbrev pub fault : {N T A : Type 0} → (N → Bool) → OpOf N T A → Option Refusal
fault isolated t =
    if operands_visible isolated t then (if nat_le (depth t) most_around then (if counts_fit t then None else Some TooMany) else Some TooDeep) else Some UnknownValue
