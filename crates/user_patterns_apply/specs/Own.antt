-- The rewrite of a user pattern at an operation of a module.
use Rattle.std.specs.Prelude.{◌≡◌, ℕ, List, [], ◌∷◌, ◌++◌, map, Bool, true, false, Option, Some, None}
use Rattle.ir_event.specs.types.Words.{is_isolated}
use Rattle.ir_event.specs.trees.declared.place.Place.{Place}
use Rattle.ir_event.specs.trees.Tree.{head}
use Rattle.ir_event.specs.trees.Ids.{find}
use Rattle.ir_event.specs.trees.WellFormed.{IsWellFormed}
use Rattle.ir_event.specs.Modules.{Module}
use Rattle.patterns_lowering.specs.Contents.{Edit}
use Rattle.patterns_lowering.specs.Lists.{Free}
use Rattle.rewriter_machine.specs.Edits.{Make}
use Rattle.patterns_base.specs.Keeps.{given}
use Rattle.patterns_base.specs.Looks.{insertion_of, is_verified, when}
use Rattle.patterns_base.specs.Makes.{give}
use Rattle.patterns_base.specs.Rewrites.{Rewrite, becomes, carried_out, rewrite_by}
use Rattle.user_patterns_data.specs.Planning.{Plan}
use Rattle.user_patterns_data.specs.Shapes.{PatternModel}
use Rattle.user_patterns_apply.specs.Built.{plan_of}

-- the list has exactly one item
abbrev pub is_one : {X : Type 0} → List X → Bool
is_one [] = false
is_one (x ∷ []) = true
is_one (x ∷ y ∷ xs) = false

-- the edits that insert new operations just before x, replace the result of x, and erase x
abbrev pub edits_for : Place → ℕ → Option Plan → Option (List Edit)
edits_for point x None = None
edits_for point x (Some p) = Some (map (λ o. Make point o) p.0 ++ give x p.1)

-- the edits of a pattern at operation x, which has one result and isn't the module's root
unfoldable pub user_pattern_edits : PatternModel → Module → ℕ → Option (List Edit)
user_pattern_edits p m x = given (find x m.tree)
    (λ o. given (insertion_of x m.tree) (λ point. when (is_one (head o).results)
    (edits_for point x (plan_of m.tree (is_verified m.tree) m.next p x))))

-- the rewrite of a pattern at operation x
unfoldable pub user_pattern_rewrite : PatternModel → Module → ℕ → Rewrite
user_pattern_rewrite p m x = rewrite_by (user_pattern_edits p m x) m

-- a well-formed module accepts each edit of a pattern at an operation, if the new operations are within the limits
abbrev pub UserPatternsAreAccepted : Type 0
UserPatternsAreAccepted =
    (p : PatternModel) (m : Module) (x : ℕ) → IsWellFormed is_isolated m
    → (es : List Edit) (n : Module) → user_pattern_edits p m x ≡ Some es → carried_out es m ≡ becomes n → Free es m
