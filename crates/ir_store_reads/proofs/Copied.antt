-- Copies of the tree that slots represent.
use Rattle.std.proofs.Common.{◌≡◌, ℕ, zero, suc, ◌+◌, ◌<◌, List, [], ◌∷◌, ◌++◌, map, take, get_or, sym, ap, ◌∙◌, subst, length, arith, Some, None}
use Rattle.std.proofs.lemmas.List.{take_more, map-append, map_more}
use Rattle.ir_store_slots.specs.trees.declared.tree.TreeRegion.{TreeRegion}
use Rattle.ir_store_slots.specs.trees.View.{region_view}
use Rattle.ir_store_slots.specs.trees.Tree.{Op, Region, regions_of, ops_of}
use Rattle.ir_store_slots.specs.RegionData.{RegionData}
use Rattle.ir_store_slots.specs.Rows.{Row, RegionShape, shape_of}
use Rattle.ir_store_slots.specs.Spells.{SpellsOp, SpellsRegions, SpellsRegion, SpellsOps}
use Rattle.ir_store_slots.specs.Plans.{AllHeads}

module _ (slots : List Row) (lists : List (List ℕ)) where
  regions_more : (xs : List RegionShape) (gs : List Region) (x : RegionShape) (g : Region) → SpellsRegions slots lists xs (regions_of gs) → SpellsRegion slots lists x g → SpellsRegions slots lists (xs ++ x ∷ []) (regions_of (gs ++ g ∷ []))
  regions_more [] [] x g s r = (r, tt)
  regions_more [] (h ∷ gs) x g s r = absurd s
  regions_more (y ∷ xs) [] x g s r = absurd s
  regions_more (y ∷ xs) (h ∷ gs) x g s r = (s.0, regions_more xs gs x g s.1 r)

  ops_more : (ks : List ℕ) (os : List Op) (k : ℕ) (o : Op) → SpellsOps slots lists ks (ops_of os) → SpellsOp slots lists k o → SpellsOps slots lists (ks ++ k ∷ []) (ops_of (os ++ o ∷ []))
  ops_more [] [] k o s r = (r, tt)
  ops_more [] (p ∷ os) k o s r = absurd s
  ops_more (j ∷ ks) [] k o s r = absurd s
  ops_more (j ∷ ks) (p ∷ os) k o s r = (s.0, ops_more ks os k o s.1 r)

  -- one more region
  pub copied_region : (areas : List RegionData) (n : ℕ) (x : RegionData) (gs gs' : List TreeRegion) (g : TreeRegion) → n < length areas → x ≡ get_or areas n x → SpellsRegions slots lists (map shape_of (take n areas)) (regions_of (map region_view gs))
      → SpellsRegion slots lists (shape_of x) (region_view g) → gs' ≡ gs ++ g ∷ [] → SpellsRegions slots lists (map shape_of (take (n + 1) areas)) (regions_of (map region_view gs'))
  copied_region areas n x gs gs' g l e s r eg =
      let more : map shape_of (take (n + 1) areas) ≡ map shape_of (take n areas) ++ shape_of x ∷ [] = map_more shape_of areas n x l ∙ ap (λ z. map shape_of (take n areas) ++ shape_of z ∷ []) (sym e) in
      let many : map region_view gs' ≡ map region_view gs ++ region_view g ∷ [] = ap (map region_view) eg ∙ map-append region_view gs (g ∷ []) in
      subst (λ z. SpellsRegions slots lists z (regions_of (map region_view gs'))) (sym more)
      (subst (λ z. SpellsRegions slots lists (map shape_of (take n areas) ++ shape_of x ∷ []) (regions_of z)) (sym many) (regions_more (map shape_of (take n areas)) (map region_view gs) (shape_of x) (region_view g) s r))

  -- one more operation
  pub copied_op : (ks : List ℕ) (n x : ℕ) (os os' : List Op) (o : Op) → n < length ks → x ≡ get_or ks n x → SpellsOps slots lists (take n ks) (ops_of os) → SpellsOp slots lists x o → os' ≡ os ++ o ∷ [] → SpellsOps slots lists (take (n + 1) ks) (ops_of os')
  copied_op ks n x os os' o l e s r eo =
      let more : take (n + 1) ks ≡ take n ks ++ x ∷ [] = take_more ks n x l ∙ ap (λ z. take n ks ++ z ∷ []) (sym e) in
      subst (λ z. SpellsOps slots lists z (ops_of os')) (sym more)
      (subst (λ z. SpellsOps slots lists (take n ks ++ x ∷ []) (ops_of z)) (sym eo) (ops_more (take n ks) os x o s r))

-- the head of one block
pub heads_at : (homes : List ℕ) (areas : List RegionData) (n : ℕ) (x : RegionData) → n < length areas → x ≡ get_or areas n x → AllHeads homes (map shape_of areas) → AllHeads homes (shape_of x ∷ [])
heads_at homes [] n x l e h = absurd (omega (arith, l))
heads_at homes (y ∷ areas) zero x l e h = subst (λ z. AllHeads homes (shape_of z ∷ [])) (sym e) (first (shape_of y) (map shape_of areas) h)
  where
    first : (a : RegionShape) (xs : List RegionShape) → AllHeads homes (a ∷ xs) → AllHeads homes (a ∷ [])
    first None xs h = tt
    first (Some a) xs h = (h.0, tt)
heads_at homes (y ∷ areas) (suc n) x l e h = heads_at homes areas n x (omega (arith, l)) e (others (shape_of y) (map shape_of areas) h)
  where
    others : (a : RegionShape) (xs : List RegionShape) → AllHeads homes (a ∷ xs) → AllHeads homes xs
    others None xs h = h
    others (Some a) xs h = h.1
