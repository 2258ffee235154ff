-- An insertion point names the same place in a tree of term numbers and in the tree that the numbers denote.
use Rattle.std.proofs.Common.{◌≡◌, ◌∙◌, ap, sym, refl, ℕ, eqb, Option, Some, None, cond}
use Rattle.std.specs.Prelude.{is_some, option_map, option_and_then, Result}
use Rattle.std.specs.Option.{option_eq}
use Rattle.ir_event.specs.types.Things.{ContextModel}
use Rattle.ir_event.specs.types.Terms.{name_term, type_term, attr_term}
use Rattle.ir_event.specs.types.declared.refusal.Refusal.{Refusal}
use Rattle.ir_event.specs.trees.declared.place.Place.{Place}
use Rattle.ir_event.specs.trees.Tree.{OpOf, Op, OpsOf, no_ops, next}
use Rattle.ir_event.specs.trees.Ids.{has_id}
use Rattle.ir_event.specs.trees.Maps.{map_tree, map_ops}
use Rattle.ir_event.specs.trees.Meaning.{meaning}
use Rattle.ir_event.specs.trees.Places.{place_of, first_id}
use Rattle.ir_event.proofs.of_trees.Mapped.{map_place}
use Rattle.ir_event.specs.tree_laws.Reads.{next_of, first_at, ops_at}
use Rattle.ir_event.proofs.of_tree_laws.Contents.{map_has_id, same_id, map_ops_at}
use Rattle.ir_event.specs.store.Stored.{Stored}
use Rattle.mlir_work_transforms.specs.rewriter.Held.{TransactionModel, module_held}
use Rattle.mlir_work_transforms.specs.rewriter.Points.{Point, Before, After, Start, End, passing, coming, trailing, next_to, in_block, point_place}

module _ {N T A M U B : Type 0} (f : N → M) (g : T → U) (h : A → B) where
  map_has_block : (p r : ℕ) (t : OpOf N T A) → is_some (ops_at p r (map_tree f g h t)) ≡ is_some (ops_at p r t)
  map_has_block p r t = ap is_some ((map_ops_at f g h) p r t) ∙ go (ops_at p r t)
    where
      go : (o : Option (OpsOf N T A)) → is_some (option_map (map_ops f g h) o) ≡ is_some o
      go None = refl
      go (Some os) = refl

  map_first_at : (p r : ℕ) (t : OpOf N T A) → first_at p r (map_tree f g h t) ≡ first_at p r t
  map_first_at p r t = ap (option_and_then first_id) ((map_ops_at f g h) p r t) ∙ go (ops_at p r t)
    where
      go : (o : Option (OpsOf N T A)) → option_and_then first_id (option_map (map_ops f g h) o) ≡ option_and_then first_id o
      go None = refl
      go (Some no_ops) = refl
      go (Some (next o os)) = ap Some (same_id f g h o)

  map_next_of : (x : ℕ) (t : OpOf N T A) → next_of x (map_tree f g h t) ≡ next_of x t
  map_next_of x t = ap (option_and_then (λ p. p.before)) (map_place f g h x t)

  map_passing : (x : Option ℕ) (b : Option ℕ) (t : OpOf N T A) → passing x b (map_tree f g h t) ≡ passing x b t
  map_passing None b t = refl
  map_passing (Some x) b t = ap (λ o. cond (option_eq eqb b (Some x)) o b) (map_next_of x t)

  map_after : (x : Option ℕ) (t : OpOf N T A) (p : Option Place) → option_map (trailing x (map_tree f g h t)) p ≡ option_map (trailing x t) p
  map_after x t None = refl
  map_after x t (Some p) = ap (λ b. Some (coming b p)) (map_passing x p.before t)

  pub map_point : (x : Option ℕ) (point : Point) (t : OpOf N T A) → point_place x point (map_tree f g h t) ≡ point_place x point t
  map_point x (Before y) t = λ i. next_to (map_has_id f g h y t i) (option_map (coming (Some y)) (map_place f g h y t i))
  map_point x (After y) t =
      (λ i. next_to (map_has_id f g h y t i) (option_map (trailing x (map_tree f g h t)) (map_place f g h y t i)))
      ∙ ap (next_to (has_id y t)) (map_after x t (place_of y t))
  map_point x (Start y r) t =
      (λ i. in_block (map_has_id f g h y t i) (map_has_block y r t i) (record { parent = y; region = r; before = passing x (map_first_at y r t i) (map_tree f g h t) }))
      ∙ ap (λ b. in_block (has_id y t) (is_some (ops_at y r t)) (record { parent = y; region = r; before = b })) (map_passing x (first_at y r t) t)
  map_point x (End y r) t = λ i. in_block (map_has_id f g h y t i) (map_has_block y r t i) (record { parent = y; region = r; before = None })

pub point_means : (c : ContextModel) (x : Option ℕ) (point : Point) (t : Op) → point_place x point (meaning c t) ≡ point_place x point t
point_means c x point t = map_point (name_term c) (type_term c) (attr_term c) x point t

-- an insertion point in the rewriter's module resolves as in the store of its IR state
pub point_next_to : (h : TransactionModel) (s : Stored) (x : Option ℕ) (point : Point) (r : Result Place Refusal) → s ≡ h.store → point_place x point s.module_of.tree ≡ r → point_place x point (module_held h).tree ≡ r
point_next_to h s x point r same e = point_means h.ctx x point h.store.module_of.tree ∙ (ap (λ (s : Stored). point_place x point s.module_of.tree) (sym same) ∙ e)
