-- Preconditions on trees that are used in many places.
use Rattle.ir_store.specs.trees.Ids.{find, has_id}
use Rattle.ir_store.specs.trees.Meaning.{Operation}
use Rattle.ir_store.specs.trees.Tree.{OpOf, OpsOf, head, next, op}
use Rattle.ir_store.proofs.of_tree_laws.Around.{stand_present}
use Rattle.ir_store.proofs.of_tree_laws.Members.{found_stands, joined_ops, stand}
use Rattle.std.proofs.Common.{[], List, Some, ap, inl, refl, sym, true, ℕ, ◌&&◌, ◌++◌, ◌+◌, ◌<◌, ◌||◌, ◌∙◌, ◌∷◌, ◌≡◌, ◌≤◌, ◌⊎◌}

pub found_id : (x : ℕ) (t o : Operation) → find x t ≡ Some o → (head o).id ≡ x
found_id x t o f = let r = found_stands x t o f in ap (λ (q : Operation). (head q).id) (sym r.3) ∙ r.2

module _ {N T A : Type 0} where
  pub joined_more : (preceding : List (OpOf N T A)) (o : OpOf N T A) (os : OpsOf N T A) → joined_ops preceding (next o os) ≡ joined_ops (preceding ++ o ∷ []) os
  joined_more [] o os = refl
  joined_more (f ∷ fs) o os = ap (next f) (joined_more fs o os)

  pub own_id : (o : OpOf N T A) → has_id (head o).id o ≡ true
  own_id (op h rs) = stand_present [] (op h rs) (stand (op h rs) []) (inl refl)
