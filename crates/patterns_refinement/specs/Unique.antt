-- The outcomes of a module are determined by the outcomes of the values that it doesn't compute.
use Rattle.std.specs.Prelude.{◌≡◌, ℕ, ◌==◌, Bool, false, ◌&&◌}
use Rattle.ir_types.specs.Words.{is_isolated}
use Rattle.ir_tree.specs.declared.value.Value.{Value}
use Rattle.ir_tree.specs.declared.value.Value.TheVariants.{Arg, Result}
use Rattle.ir_tree.specs.WellFormed.{IsWellFormed}
use Rattle.ir_tree.specs.Meaning.{Operation}
use Rattle.ir_event.specs.Modules.{Module}
use Rattle.patterns_refinement.specs.Meaning.{Assignment, FitsAll}
use Rattle.patterns_refinement.specs.Better.{gives}

-- Returns whether a value is the first result of an executed arithmetic operation.
abbrev pub is_determined : (ℕ → Bool) → Operation → Value → Bool
is_determined done t (Result x k) = (k == 0) && gives done t (Result x k)
is_determined done t (Arg x r k) = false

-- Two assignments that fit a well-formed module are equal, if they agree on all values that the module doesn't
-- compute.
abbrev pub OutcomesAreUnique : Type 0
OutcomesAreUnique =
    (m : Module) (a b : Assignment) (done : ℕ → Bool) → IsWellFormed is_isolated m → FitsAll a done m.tree → FitsAll b done m.tree
    → ((v : Value) → is_determined done m.tree v ≡ false → a v ≡ b v) → (v : Value) → a v ≡ b v
