-- The edits of plans make the counted number of operations.
use Rattle.std.specs.Prelude.{◌≡◌, ℕ}
use Rattle.ir_event.specs.types.Things.{ContextModel}
use Rattle.ir_event.specs.trees.declared.place.Place.{Place}
use Rattle.patterns_soundness.specs.base.Makes.{made_by}
use Rattle.patterns_lowering.specs.declared.plan.Lowering.{Lowering}
use Rattle.patterns_lowering.specs.Meanings.{lowering_meaning}
use Rattle.patterns_lowering.specs.Plans.{LoweringIsOf, lowering_makes}

-- the edits of a plan make the counted number of operations, whatever the next id and the place are
abbrev pub CountsAreMade : Type 0
CountsAreMade = (c : ContextModel) (n : ℕ) (point : Place) (p : Lowering) → LoweringIsOf c p
    → made_by (lowering_meaning c n point p) ≡ lowering_makes p
