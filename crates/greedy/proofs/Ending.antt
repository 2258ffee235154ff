-- Operations that end a block.
use Rattle.std.proofs.Common.{◌≡◌, refl, ap, sym, ◌∙◌, subst, ℕ, true, eqb, eq-eqb, List, [], ◌∷◌, Option, Some, None}
use Rattle.std.specs.Prelude.{option_map, option_and_then}
use Rattle.ir_event.specs.trees.Tree.{OpOf, op, empty, block, OpsOf, no_ops, head, regions}
use Rattle.ir_event.specs.trees.Ids.{HasDistinctIds, find}
use Rattle.ir_event.specs.store.Nodes.{node_of}
use Rattle.ir_event.specs.tree_laws.Values.{region_at}
use Rattle.ir_event.specs.tree_laws.Reads.{last_id, ops_in, last_at}
use Rattle.ir_event.specs.tree_laws.Stands.{StepOf, stands, op_with_path}
use Rattle.ir_event.specs.tree_laws.Members.{In}
use Rattle.ir_event.proofs.of_tree_laws.Readings.{step}
use Rattle.ir_event.proofs.of_tree_laws.Members.{stand, stand_of_member, found_stands}
use Rattle.listeners_support.specs.Surroundings.{surround}
use Rattle.listeners_support.proofs.Lasts.{split_last, last_stands}
use Rattle.greedy.specs.Reached.{ends, ends_of}

module _ {N T A : Type 0} (t : OpOf N T A) (d : HasDistinctIds t) where
  -- the last operation of a block ends it
  pub last_ends : (p : OpOf N T A) (path : List (StepOf N T A)) (r : ℕ) (args : List T) (os : OpsOf N T A) (y : ℕ) → In (stand p path) (stands [] t) → region_at r (regions p) ≡ Some (block args os) → last_id os ≡ Some y
      → ends (head p).id y t ≡ true
  last_ends p path r args os y h f e =
      let s = split_last y os e in
      let z = stand s.last (step p r args s.preceding no_ops ∷ path) in
      let there : op_with_path y t ≡ Some z = ap (λ k. op_with_path k t) (sym s.id) ∙ stand_of_member t d z (last_stands t d p path r args os y h f e) in
      ap (λ o. ends_of (head p).id (option_map (surround t) o)) there ∙ same p
    where
      same : (p : OpOf N T A) → eqb (node_of p).head.id (head p).id ≡ true
      same (op g rs) = eq-eqb g.id g.id refl

  -- the same, for the operation that the store reads as the last
  pub last_at_ends : (p r y : ℕ) → last_at p r t ≡ Some y → ends p y t ≡ true
  last_at_ends p r y e = go (find p t) refl e
    where
      inside : (o : OpOf N T A) → find p t ≡ Some o → (g : Option (OpsOf N T A)) → option_and_then ops_in (region_at r (regions o)) ≡ g → option_and_then last_id g ≡ Some y → ends p y t ≡ true
      inside o f None k e = absurd cc
      inside o f (Some os) k e = area (region_at r (regions o)) refl k
        where
          area : (g : Option _) → region_at r (regions o) ≡ g → option_and_then ops_in g ≡ Some os → ends p y t ≡ true
          area None i j = absurd cc
          area (Some empty) i j = absurd cc
          area (Some (block args us)) i j =
              let same : us ≡ os = cc in
              let s = found_stands p t o f in
              subst (λ q. ends q y t ≡ true) (ap (λ u. (head u).id) (sym s.3) ∙ s.2)
              (last_ends o s.0.path r args us y (subst (λ u. In (stand u s.0.path) (stands [] t)) s.3 s.1) i (ap last_id same ∙ e))

      go : (f : Option (OpOf N T A)) → find p t ≡ f → option_and_then last_id (option_and_then (λ o. option_and_then ops_in (region_at r (regions o))) f) ≡ Some y → ends p y t ≡ true
      go None k h = absurd cc
      go (Some o) k h = inside o k (option_and_then ops_in (region_at r (regions o))) refl h
