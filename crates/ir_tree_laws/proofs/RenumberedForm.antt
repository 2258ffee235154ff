-- A tree with other ids is well-formed if the original tree is.
use Rattle.std.proofs.Common.{◌≡◌, sym, ◌∙◌, subst, ℕ, ◌≤◌, Bool}
use Rattle.ir_tree.specs.declared.value.Value.{Value}
use Rattle.ir_tree.specs.Tree.{OpOf}
use Rattle.ir_tree.specs.Ids.{ids}
use Rattle.ir_tree.specs.Limits.{most_around}
use Rattle.ir_tree.specs.Sites.{visible}
use Rattle.ir_tree.specs.WellFormed.{IsValidTree}
use Rattle.ir_tree_laws.specs.Renumbered.{value_with_id, with_ids, place_in, renumbered, MapsApart}
use Rattle.ir_tree_laws.proofs.RenumberedPlaces.{places_tell}
use Rattle.ir_tree_laws.proofs.RenumberedSame.{depth_with, counts_with}
use Rattle.ir_tree_laws.proofs.RenumberedDominance.{visible_with, operands_visible_with}

module _ {N T A : Type 0} (isolated : N → Bool) where
  pub wellformed_with : (f : ℕ → ℕ) (t : OpOf N T A) → MapsApart f (ids t) → IsValidTree isolated t → IsValidTree isolated (with_ids f t)
  wellformed_with f t k w = record {
    visible = operands_visible_with f isolated t k ∙ w.visible;
    shallow = subst (λ n. n ≤ most_around) (sym (depth_with f t)) w.shallow;
    counts = counts_with f t ∙ w.counts;
  }

  pub wellformed_renumbered : (t : OpOf N T A) → IsValidTree isolated t → IsValidTree isolated (renumbered t)
  wellformed_renumbered t w = wellformed_with (place_in (ids t)) t (places_tell (ids t)) w

  pub visible_renumbered : (t : OpOf N T A) (x : ℕ) (v : Value) → visible isolated (renumbered t) (place_in (ids t) x) (value_with_id (place_in (ids t)) v) ≡ visible isolated t x v
  visible_renumbered t x v = visible_with (place_in (ids t)) isolated t (places_tell (ids t)) x v
