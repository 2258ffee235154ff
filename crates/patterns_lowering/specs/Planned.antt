-- Correct plans of lowering rules.
use Rattle.std.specs.Prelude.{◌≡◌, ℕ, List, map, Option, Some, None, option_map, true}
use Rattle.ir_event.specs.types.Terms.{type_term}
use Rattle.ir_event.specs.trees.declared.place.Place.{Place}
use Rattle.ir_event.specs.trees.Tree.{Op, head}
use Rattle.ir_event.specs.trees.Ids.{find}
use Rattle.ir_event.specs.trees.Meaning.{Operation}
use Rattle.ir_event.specs.declared.world.World.{World}
use Rattle.ir_event.specs.Modules.{module_in}
use Rattle.patterns_soundness.specs.base.Contents.{Edit}
use Rattle.patterns_soundness.specs.base.Looks.{Ended, is_verified, is_index_value}
use Rattle.patterns_soundness.specs.base.Lowering.{indices}
use Rattle.patterns_soundness.specs.base.Rules.{rule}
use Rattle.patterns_soundness.specs.base.declared.rule.Rule.{Rule}
use Rattle.patterns_lowering.specs.declared.plan.Indexed.{Indexed}
use Rattle.patterns_lowering.specs.declared.plan.MovedOps.{MovedOps}
use Rattle.patterns_lowering.specs.declared.plan.Lowering.{Lowering}
use Rattle.patterns_lowering.specs.Bare.{bare}
use Rattle.patterns_lowering.specs.Meanings.{lowering_meaning}

-- a rule: its edits at an operation of a tree, for a next free id and the place before the operation, if it applies
abbrev pub Making : Type 0
Making = Operation → ℕ → Place → Operation → Option (List Edit)

-- a plan, or none, is that of a rule at operation x of a world's module, if x is in the module, for any next id and
-- any place of x
abbrev pub IsLoweredBy : Making → World → ℕ → Option Lowering → Type 0
IsLoweredBy makes w x p = (o : Operation) → find x (module_in w).tree ≡ Some o → (n : ℕ) (point : Place)
    → option_map (lowering_meaning w.ctx n point) p ≡ makes (module_in w).tree n point o

-- the same for rule r
abbrev pub IsLoweredAt : Rule → World → ℕ → Option Lowering → Type 0
IsLoweredAt r w x p = IsLoweredBy (rule r) w x p

-- operation x of a world's module is verified, if x is in the module
abbrev pub IsVerifiedAt : World → ℕ → Type 0
IsVerifiedAt w x = (o : Operation) → find x (module_in w).tree ≡ Some o → is_verified (module_in w).tree (head o) ≡ true

-- what is read of operation o of a world's module: the operation without the operations inside its blocks, and which
-- of its operands and results have type index
pub record IsReadIn (w : World) (o : Op) (i : Indexed) : Type 0 where
  pub op : i.op ≡ bare o
  pub operands : i.index_operands.items ≡ map (is_index_value (module_in w).tree) (head o).operands
  pub results : i.index_results.items ≡ indices (map (type_term w.ctx) (head o).results)

-- what is read of operation x, if x is in the module
abbrev pub IsReadOf : World → ℕ → Indexed → Type 0
IsReadOf w x i = (o : Op) → find x w.store.module_of.tree ≡ Some o → IsReadIn w o i

-- what is read of a block
pub record IsTaken (e : Ended) (b : MovedOps) : Type 0 where
  pub before : b.before.items ≡ e.before
  pub last : b.last ≡ e.last.id
  pub handed : b.handed.items ≡ e.last.operands

-- what is read of an optional block
abbrev pub AreTaken : Option Ended → Option MovedOps → Type 0
AreTaken None None = Unit {0}
AreTaken (Some e) (Some b) = IsTaken e b
AreTaken _ _ = ⊥
