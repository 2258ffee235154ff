-- Replacing a value, operand by operand.
use Rattle.std.specs.Prelude.{ℕ, List, [], ◌∷◌}
use Rattle.ir_event.specs.trees.declared.value.Value.{Value}
use Rattle.ir_event.specs.trees.Tree.{OpOf}
use Rattle.ir_event.specs.trees.Edits.{with_operand}

-- a tree with some operands set to a value, one after another; an operand is given by its operation and its index
abbrev pub all_set : {N T A : Type 0} → Value → List (ℕ × ℕ) → OpOf N T A → OpOf N T A
all_set v [] t = t
all_set v (u ∷ us) t = all_set v us (with_operand u.0 u.1 v t)
