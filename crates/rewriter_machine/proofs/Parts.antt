-- Members of concatenated lists, and tests that are passed one after another.
use Rattle.std.proofs.Common.{◌≡◌, refl, ap, ◌∙◌, Bool, true, List, [], ◌∷◌, ◌++◌, Option, None, inl, inr}
use Rattle.ir_event.specs.types.declared.refusal.Refusal.{Refusal}
use Rattle.ir_event.specs.tree_laws.Members.{In}
use Rattle.ir_event.specs.tree_laws.Reasons.{unless}
use Rattle.ir_event.proofs.of_tree_laws.Reverted.{passed}

pub in_middle : {X : Type 0} (us vs : List X) (u : X) → In u (us ++ u ∷ vs)
in_middle [] vs u = inl refl
in_middle (x ∷ us) vs u = inr (in_middle us vs u)
