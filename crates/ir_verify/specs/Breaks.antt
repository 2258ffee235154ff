-- The rules that an operation breaks.
use Rattle.std.specs.Prelude.{ℕ, ◌+◌, List, [], ◌∷◌, Bool, true, false, ◌&&◌, Option, Some, None}
use Rattle.op_registry.specs.Rows.{Row}
use Rattle.op_registry.specs.Registry.{row_of}
use Rattle.ir_verify_base.specs.Fits.{Surroundings}
use Rattle.ir_verify_base.specs.Shapes.{breaks_1, breaks_3, breaks_5, breaks_12, breaks_13, is_well_shaped}
use Rattle.ir_verify_base.specs.TypeRules.{breaks_2, breaks_4, breaks_7, breaks_14, breaks_18, breaks_19, breaks_20}
use Rattle.ir_verify_base.specs.TypeRules.{breaks_24}
use Rattle.ir_verify.specs.BlockRules.{breaks_6, breaks_8, breaks_9, breaks_21, breaks_22}
use Rattle.ir_verify.specs.PlaceRules.{breaks_10, breaks_11, breaks_15, breaks_16, breaks_17, breaks_23}

-- for each rule in order, whether a listed operation breaks it; for an operation that isn't well-shaped, only the
-- rules on its own form and on its position count
abbrev pub counted_rules : Row → Surroundings → List Bool
counted_rules row s =
    breaks_1 row s.node
    ∷ (is_well_shaped row s.node && breaks_2 row s)
    ∷ breaks_3 row s.node
    ∷ (is_well_shaped row s.node && breaks_4 row s)
    ∷ breaks_5 row s.node
    ∷ (is_well_shaped row s.node && breaks_6 row s)
    ∷ (is_well_shaped row s.node && breaks_7 row s)
    ∷ (is_well_shaped row s.node && breaks_8 s)
    ∷ (is_well_shaped row s.node && breaks_9 s)
    ∷ breaks_10 s
    ∷ breaks_11 row s
    ∷ breaks_12 row s.node
    ∷ breaks_13 row s.node
    ∷ (is_well_shaped row s.node && breaks_14 s)
    ∷ (is_well_shaped row s.node && breaks_15 s)
    ∷ (is_well_shaped row s.node && breaks_16 s)
    ∷ (is_well_shaped row s.node && breaks_17 s)
    ∷ (is_well_shaped row s.node && breaks_18 s)
    ∷ (is_well_shaped row s.node && breaks_19 s)
    ∷ (is_well_shaped row s.node && breaks_20 s)
    ∷ (is_well_shaped row s.node && breaks_21 s)
    ∷ (is_well_shaped row s.node && breaks_22 s)
    ∷ breaks_23 s
    ∷ (is_well_shaped row s.node && breaks_24 s)
    ∷ []

-- an operation that isn't listed breaks none
abbrev pub broken_rules_in : Option Row → Surroundings → List Bool
broken_rules_in None s = []
broken_rules_in (Some row) s = counted_rules row s

-- the numbers of the true items, counted from n
abbrev pub numbers_from : ℕ → List Bool → List ℕ
numbers_from n [] = []
numbers_from n (true ∷ bs) = n ∷ numbers_from (n + 1) bs
numbers_from n (false ∷ bs) = numbers_from (n + 1) bs

-- the numbers of the rules that an operation breaks, in ascending order
abbrev pub broken : Surroundings → List ℕ
broken s = numbers_from 1 (broken_rules_in (row_of s.node.head.name) s)
