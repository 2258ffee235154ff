-- Changes of places, inverted.
use Rattle.std.proofs.Common.{◌≡◌, ap, sym, ◌∙◌, ℕ, Bool, Some}
use Rattle.ir_tree.specs.declared.place.Place.{Place}
use Rattle.ir_tree.specs.Tree.{OpOf}
use Rattle.ir_tree.specs.Ids.{HasDistinctIds, find}
use Rattle.ir_tree.specs.Places.{put, put_found, shifted}
use Rattle.ir_tree.specs.WellFormed.{ModuleOf}
use Rattle.ir_tree.proofs.Returns.{put_take}
use Rattle.ir_tree_laws.specs.Changes.{Shifts, Takes}
use Rattle.ir_tree_laws.proofs.Members.{stand_found}
use Rattle.ir_tree_laws.proofs.Around.{member_of_place}

module _ {N T A : Type 0} where
  -- an operation that was taken out is inserted again
  pub taken_back : (x : ℕ) (place : Place) (fresh : Bool) (m n : ModuleOf N T A) → HasDistinctIds m.tree → Takes x place fresh m n → (o : OpOf N T A) → find x m.tree ≡ Some o → put place o n.tree ≡ m.tree
  taken_back x place fresh m n d c o f = ap (put place o) c.left ∙ put_take x place o m.tree d c.there f

  -- an operation that was shifted is shifted back
  pub shifted_back : (is_table : N → Bool) (x : ℕ) (old new : Place) (m n : ModuleOf N T A) → HasDistinctIds m.tree → Shifts is_table x old new m n → shifted x old n.tree ≡ m.tree
  shifted_back is_table x old new m n d c =
      let s = member_of_place x old m.tree c.was in
      let found : find x m.tree ≡ Some s.0.here = ap (λ z. find z m.tree) (sym s.2) ∙ stand_found m.tree d s.0 s.1 in
      (λ i. put_found old ((c.same ∙ found) i) (c.rest i)) ∙ put_take x old s.0.here m.tree d c.was found
