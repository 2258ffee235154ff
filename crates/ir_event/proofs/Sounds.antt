-- The operations of a sound tree are sound.
use Rattle.std.proofs.Common.{◌≡◌, refl, ap, sym, ◌∙◌, subst, ℕ, Bool, true, false, cond, eqb, Option, Some, None}
use Rattle.op_registry.specs.types.Things.{ContextModel}
use Rattle.ir_store.specs.trees.declared.place.Place.{Place}
use Rattle.ir_store.specs.trees.Tree.{Op, OpOf, op, RegionsOf, no_regions, region, RegionOf, empty, block, OpsOf, no_ops, next}
use Rattle.ir_store.specs.trees.Ids.{first_of, find, regions_find, region_find, ops_find}
use Rattle.ir_store.specs.trees.Limits.{every, regions_every, region_every, ops_every}
use Rattle.ir_store.specs.trees.Places.{put_found, shifted, without}
use Rattle.ir_store.specs.trees.Meaning.{IsSoundIn, dictionaries_rise, is_attr, is_name, is_type, key_before_in}
use Rattle.ir_store.specs.trees.Passing.{op_passes}
use Rattle.ir_store.proofs.of_trees.SoundEdits.{put_sound, without_sound}
use Rattle.ir_store.specs.tree_laws.Reasons.{with_id}
use Rattle.ir_store.proofs.of_tree_laws.Listed.{both}

module _ {N T A : Type 0} (p : OpOf N T A → Bool) (x : ℕ) where
  one_found : (a b : Option (OpOf N T A)) (P : OpOf N T A → Type 0) (o : OpOf N T A) → (a ≡ Some o → P o) → (b ≡ Some o → P o) → first_of a b ≡ Some o → P o
  one_found None b P o f g e = g e
  one_found (Some a) b P o f g e = f e

  -- a property of each operation of a tree is a property of each operation found there
  mutual
    pub every_found : (t o : OpOf N T A) → every p t ≡ true → find x t ≡ Some o → every p o ≡ true
    every_found (op h rs) o e f = go (regions_every_found rs o (both (p (op h rs)) (regions_every p rs) e).1) (eqb h.id x) refl
      where
        go : (regions_find x rs ≡ Some o → every p o ≡ true) → (b : Bool) → eqb h.id x ≡ b → every p o ≡ true
        go later true is = (let same : Some (op h rs) ≡ Some o = sym (ap (λ b. cond b (Some (op h rs)) (regions_find x rs)) is) ∙ f in
            let one : op h rs ≡ o = cc in
            subst (λ (u : OpOf N T A). every p u ≡ true) one e)
        go later false is = later (sym (ap (λ b. cond b (Some (op h rs)) (regions_find x rs)) is) ∙ f)

    regions_every_found : (rs : RegionsOf N T A) (o : OpOf N T A) → regions_every p rs ≡ true → regions_find x rs ≡ Some o → every p o ≡ true
    regions_every_found no_regions o e f = absurd cc
    regions_every_found (region g rs) o e f =
        let b = both (region_every p g) (regions_every p rs) e in
        one_found (region_find x g) (regions_find x rs) (λ o. every p o ≡ true) o (region_every_found g o b.0) (regions_every_found rs o b.1) f

    region_every_found : (g : RegionOf N T A) (o : OpOf N T A) → region_every p g ≡ true → region_find x g ≡ Some o → every p o ≡ true
    region_every_found empty o e f = absurd cc
    region_every_found (block args os) o e f = ops_every_found os o e f

    ops_every_found : (os : OpsOf N T A) (o : OpOf N T A) → ops_every p os ≡ true → ops_find x os ≡ Some o → every p o ≡ true
    ops_every_found no_ops o e f = absurd cc
    ops_every_found (next q os) o e f =
        let b = both (every p q) (ops_every p os) e in
        one_found (find x q) (ops_find x os) (λ o. every p o ≡ true) o (every_found q o b.0) (ops_every_found os o b.1) f

-- an operation of a sound tree is sound
pub found_sound : (c : ContextModel) (x : ℕ) (t o : Op) → IsSoundIn c t → find x t ≡ Some o → IsSoundIn c o
found_sound c x t o s f = record {
  known = every_found (op_passes (is_name c) (is_type c) (is_attr c)) x t o s.known f;
  sorted = every_found (dictionaries_rise (key_before_in c)) x t o s.sorted f;
}

-- the same with another id
pub renamed_sound : (c : ContextModel) (x : ℕ) (o : Op) → IsSoundIn c o → IsSoundIn c (with_id x o)
renamed_sound c x (op h rs) s = record { known = s.known; sorted = s.sorted }

-- moving an operation keeps a tree sound
pub shifted_sound : (c : ContextModel) (x : ℕ) (place : Place) (t : Op) → IsSoundIn c t → IsSoundIn c (shifted x place t)
shifted_sound c x place t s = go (find x t) refl
  where
    go : (o : Option Op) → find x t ≡ o → IsSoundIn c (put_found place o (without x t))
    go None f = without_sound c x t s
    go (Some o) f = put_sound c place o (without x t) (found_sound c x t o s f) (without_sound c x t s)
