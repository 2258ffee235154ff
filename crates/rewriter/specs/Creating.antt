-- Headers inserted one after another, until one is refused.
use Rattle.std.specs.Prelude.{◌≡◌, ℕ, List, ◌∷◌, ◌++◌, true, Some, ◌⊎◌, Result, Ok, Err}
use Rattle.ir_event.specs.types.Things.{ContextModel}
use Rattle.ir_event.specs.types.declared.refusal.Refusal.{Refusal}
use Rattle.ir_event.specs.types.declared.refusal.Refusal.TheVariants.{Memory}
use Rattle.ir_event.specs.trees.declared.place.Place.{Place}
use Rattle.ir_event.specs.trees.Tree.{Op, regions}
use Rattle.ir_event.specs.trees.Meaning.{IsSoundIn}
use Rattle.ir_event.specs.trees.WellFormed.{Module}
use Rattle.ir_event.specs.tree_laws.Reasons.{hold_none, put_reason}
use Rattle.rewriter.specs.Edits.{TestsOf}
use Rattle.rewriter_machine.specs.Inserting.{all_made}

-- each of these operations is of a context, and has empty blocks
abbrev pub AreHeadersOf : ContextModel → List (Place × Op) → Type 0
AreHeadersOf c hs = (us vs : List (Place × Op)) (u : Place × Op) → us ++ u ∷ vs ≡ hs
    → IsSoundIn c u.1 × (hold_none (regions u.1) ≡ true)

-- the headers are inserted in order, and one of them is refused for this reason
pub record IsRefusedAmong (w : TestsOf ℕ ℕ) (hs : List (Place × Op)) (m : Module) (reason : Refusal) : Type 0 where
  pub made : List (Place × Op)
  pub refused : Place × Op
  pub rest : List (Place × Op)
  pub parts : made ++ refused ∷ rest ≡ hs
  pub why : put_reason w.isolated refused.0 refused.1 (all_made w made m).next (all_made w made m).tree ≡ Some reason

-- headers were inserted into a module, in order, with the other module as the result; or the insertion was given up
-- because memory ran out, or because one header was refused
abbrev pub InsertsEach : {A : Type 0} → TestsOf ℕ ℕ → List (Place × Op) → Module → Result A Refusal → Module → Type 0
InsertsEach w hs m (Ok a) n = n ≡ all_made w hs m
InsertsEach w hs m (Err e) n = (e ≡ Memory) ⊎ IsRefusedAmong w hs m e
