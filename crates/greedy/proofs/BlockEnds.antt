-- Operations that end blocks, as the store reads them.
use Rattle.std.proofs.Common.{◌≡◌, refl, ap, sym, ◌∙◌, subst, ℕ, ◌<◌, Bool, true, true≢false, eqb-true, List, [], ◌∷◌, Option, Some, None}
use Rattle.std.specs.Prelude.{option_map, option_and_then}
use Rattle.ir_event.specs.trees.Tree.{HeadOf, OpOf, RegionOf, OpsOf, no_ops, next, head, regions, region_count}
use Rattle.ir_event.specs.trees.Ids.{HasDistinctIds, find}
use Rattle.ir_event.specs.trees.Places.{place_of, first_id}
use Rattle.ir_event.specs.store.Nodes.{NodeOf, node_of}
use Rattle.ir_event.specs.tree_laws.Values.{region_at}
use Rattle.ir_event.specs.tree_laws.Reads.{ops_in, last_id, last_at}
use Rattle.ir_event.specs.tree_laws.Stands.{StepOf, OpWithPathOf, op_with_path_id, stands, op_with_path}
use Rattle.ir_event.specs.tree_laws.Members.{In}
use Rattle.ir_event.proofs.of_tree_laws.Members.{stand, member}
use Rattle.ir_event.proofs.of_tree_laws.Around.{place_of_member}
use Rattle.listeners_support.specs.Surroundings.{surround, ended_by}
use Rattle.listeners_support.proofs.Points.{last_is}
use Rattle.greedy.specs.Reached.{ends, ends_of}
use Rattle.listeners_support.proofs.Reading.{head_shown}
use Rattle.ir_event.proofs.of_tree_laws.Facts.{region_below}

module _ {N T A : Type 0} where
  -- an operation that ends a block is in that block, with no operation after it
  pub record Ending (p y : ℕ) (t : OpOf N T A) : Type 0 where
    pub here : OpOf N T A
    pub step : StepOf N T A
    pub path : List (StepOf N T A)
    pub there : In (stand here (step ∷ path)) (stands [] t)
    pub id : (head here).id ≡ y
    pub last : step.rest ≡ no_ops
    pub parent : (head step.parent).id ≡ p

  pub ending : (p y : ℕ) (t : OpOf N T A) → ends p y t ≡ true → Ending p y t
  ending p y t e = go (op_with_path y t) refl
    where
      by_end : (s : OpWithPathOf N T A) → Option (NodeOf N T A) → Bool
      by_end s z = ends_of p (Some (record { node = node_of s.here; lasts = []; types = []; outer = Some (record { name = (head s.here).name; ended = z }) }))

      by_rest : (s : OpWithPathOf N T A) → In s (stands [] t) → op_with_path_id s ≡ y → (a : StepOf N T A) (q : List (StepOf N T A)) → s.path ≡ a ∷ q → (os : OpsOf N T A) → a.rest ≡ os → by_end s (ended_by a.parent os) ≡ true → Ending p y t
      by_rest s h i a q j no_ops k f = record {
        here = s.here;
        step = a;
        path = q;
        there = subst (λ l. In (stand s.here l) (stands [] t)) j h;
        id = i;
        last = k;
        parent = ap (λ (z : HeadOf N T A). z.id) (sym (head_shown a.parent)) ∙ eqb-true (node_of a.parent).head.id p f;
      }
      by_rest s h i a q j (next o os) k f = absurd (true≢false (sym f))

      by_path : (s : OpWithPathOf N T A) → In s (stands [] t) → op_with_path_id s ≡ y → (l : List (StepOf N T A)) → s.path ≡ l → ends_of p (Some (surround t (stand s.here l))) ≡ true → Ending p y t
      by_path s h i [] j f = absurd (true≢false (sym f))
      by_path s h i (a ∷ q) j f = by_rest s h i a q j a.rest refl f

      go : (f : Option (OpWithPathOf N T A)) → op_with_path y t ≡ f → Ending p y t
      go None i = absurd (true≢false (sym e ∙ ap (λ f. ends_of p (option_map (surround t) f)) i))
      go (Some s) i =
          let m = member y (stands [] t) s i in
          by_path s m.0 m.1 s.path refl (sym (ap (λ f. ends_of p (option_map (surround t) f)) i) ∙ e)

  module _ (t : OpOf N T A) (d : HasDistinctIds t) where
    -- the place of such an operation
    pub ending_place : (p y : ℕ) → ends p y t ≡ true → (r : ℕ) × (place_of y t ≡ Some (record { parent = p; region = r; before = None }))
    ending_place p y e =
        let z = ending p y t e in (
          z.step.region,
          ap (λ k. place_of k t) (sym z.id) ∙ place_of_member t d z.here z.step z.path z.there ∙ (λ i. Some (record { parent = z.parent i; region = z.step.region; before = first_id (z.last i) })),
        )

    -- the store reads it as the last operation of its region
    pub ending_last : (p y : ℕ) → ends p y t ≡ true → (r : ℕ) × (last_at p r t ≡ Some y)
    ending_last p y e =
        let z = ending p y t e in
        (z.step.region, ap (λ k. last_at k z.step.region t) (sym z.parent) ∙ last_is t d z.here z.step z.path z.there z.last ∙ ap Some z.id)

  -- if a block has a last operation, the operation around the block is in the tree
  pub last_below : (p r y : ℕ) (t : OpOf N T A) → last_at p r t ≡ Some y → (o : OpOf N T A) × (find p t ≡ Some o) × (r < region_count (regions o))
  last_below p r y t e = go (find p t) refl e
    where
      inside : (o : OpOf N T A) (g : Option (RegionOf N T A)) → region_at r (regions o) ≡ g → option_and_then last_id (option_and_then ops_in g) ≡ Some y → r < region_count (regions o)
      inside o None i k = absurd cc
      inside o (Some g) i k = region_below r (regions o) g i

      go : (f : Option (OpOf N T A)) → find p t ≡ f → option_and_then last_id (option_and_then (λ o. option_and_then ops_in (region_at r (regions o))) f) ≡ Some y → (o : OpOf N T A) × (find p t ≡ Some o) × (r < region_count (regions o))
      go None i k = absurd cc
      go (Some o) i k = (o, i, inside o (region_at r (regions o)) refl k)
