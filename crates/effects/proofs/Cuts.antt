-- The list of a tree's operations, with the subtree of one operation cut out.
use Rattle.std.proofs.Common.{◌≡◌, ℕ, ◌+◌, List, [], ◌∷◌, ◌++◌, Option, Some, None, refl, sym, ap, ◌∙◌, subst, map}
use Rattle.std.proofs.lemmas.List.{map-append}
use Rattle.ir_event.specs.trees.declared.place.Place.{Place}
use Rattle.ir_event.specs.trees.Tree.{HeadOf, OpOf, op, RegionsOf, no_regions, region, RegionOf, empty, block, OpsOf, no_ops, next, head}
use Rattle.ir_event.specs.trees.Ids.{find, HasDistinctIds}
use Rattle.ir_event.specs.trees.Places.{first_id, place_of, without}
use Rattle.ir_event.specs.tree_laws.Members.{In}
use Rattle.ir_event.specs.tree_laws.Stands.{StepOf, OpWithPathOf, op_with_path_id, stands, regions_stands, region_stands, ops_stands, place_in, left_step, left_stand, dropping}
use Rattle.ir_event.proofs.of_tree_laws.Readings.{step}
use Rattle.ir_event.proofs.of_tree_laws.Members.{stand, stand_found}
use Rattle.ir_event.proofs.of_tree_laws.Around.{member_of_place}
use Rattle.ir_event.proofs.of_tree_laws.Without.{same_head}
use Rattle.ir_event.proofs.of_tree_laws.Stretches.{part}
use Rattle.op_registry.specs.declared.own.Own.{Own}
use Rattle.effects.specs.Points.{Point, points, regions_points, region_points, ops_points}

-- the operation is found at a place; its subtree is in the list between `front` and `back`, and these two are the
-- list without it
pub record Cut {N T A : Type 0} (own : N → Own) (x : ℕ) (place : Place) (found : Option (OpOf N T A)) (whole left : List Point) : Type 0 where
  pub here : OpOf N T A
  pub is : found ≡ Some here
  pub id : (head here).id ≡ x
  pub preceding : List Point
  pub back : List Point
  pub was : whole ≡ preceding ++ (points own (Some place.parent) here ++ back)
  pub rest : left ≡ preceding ++ back

module _ {N T A : Type 0} (own : N → Own) where
  -- the innermost operation on a path
  abbrev pub around : List (StepOf N T A) → Option ℕ
  around [] = None
  around (a ∷ path) = Some (head a.parent).id

  abbrev pub point_in : OpWithPathOf N T A → Point
  point_in s = record { id = op_with_path_id s; parent = around s.path; own = own (head s.here).name }

  mutual
    pub stand_points : (path : List (StepOf N T A)) (t : OpOf N T A) → map point_in (stands path t) ≡ points own (around path) t
    stand_points path (op h rs) = ap (λ l. record { id = h.id; parent = around path; own = own h.name } ∷ l) (regions_stand_points (op h rs) path 0 rs)

    regions_stand_points : (p : OpOf N T A) (path : List (StepOf N T A)) (r : ℕ) (rs : RegionsOf N T A) → map point_in (regions_stands p path r rs) ≡ regions_points own (head p).id rs
    regions_stand_points p path r no_regions = refl
    regions_stand_points p path r (region g rs) =
        map-append point_in (region_stands p path r g) (regions_stands p path (r + 1) rs) ∙ λ i. region_stand_points p path r g i ++ regions_stand_points p path (r + 1) rs i

    region_stand_points : (p : OpOf N T A) (path : List (StepOf N T A)) (r : ℕ) (g : RegionOf N T A) → map point_in (region_stands p path r g) ≡ region_points own (head p).id g
    region_stand_points p path r empty = refl
    region_stand_points p path r (block args os) = ops_stand_points p path r args [] os

    ops_stand_points : (p : OpOf N T A) (path : List (StepOf N T A)) (r : ℕ) (args : List T) (preceding : List (OpOf N T A)) (os : OpsOf N T A) → map point_in (ops_stands p path r args preceding os) ≡ ops_points own (head p).id os
    ops_stand_points p path r args preceding no_ops = refl
    ops_stand_points p path r args preceding (next o os) =
        map-append point_in (stands (step p r args preceding os ∷ path) o) (ops_stands p path r args (preceding ++ o ∷ []) os)
        ∙ λ i. stand_points (step p r args preceding os ∷ path) o i ++ ops_stand_points p path r args (preceding ++ o ∷ []) os i

  -- a remaining operation has the same parent as before
  left_around : (x : ℕ) (path : List (StepOf N T A)) → around (map (left_step x) path) ≡ around path
  left_around x [] = refl
  left_around x (a ∷ path) = ap (λ (h : HeadOf N T A). Some h.id) (same_head x (dropping x) a.parent)

  left_points : (x : ℕ) (ss : List (OpWithPathOf N T A)) → map point_in (map (left_stand x) ss) ≡ map point_in ss
  left_points x [] = refl
  left_points x (s ∷ ss) = λ i. record { id = (same_head x (dropping x) s.here i).id; parent = left_around x s.path i; own = own (same_head x (dropping x) s.here i).name } ∷ left_points x ss i

  pub cut : (x : ℕ) (t : OpOf N T A) (place : Place) → HasDistinctIds t → place_of x t ≡ Some place → Cut own x place (find x t) (points own None t) (points own None (without x t))
  cut x t place d e = let u = member_of_place x place t e in go u.0.here u.0.path u.1 u.2 u.3
    where
      go : (o : OpOf N T A) (path : List (StepOf N T A)) → In (stand o path) (stands [] t) → (head o).id ≡ x → place_in path ≡ Some place → Cut own x place (find x t) (points own None t) (points own None (without x t))
      go o [] h id at = absurd cc
      go o (a ∷ q) h id at =
          let w = part t d o a q h in
          let one : record { parent = (head a.parent).id; region = a.region; before = first_id a.rest } ≡ place = some_is _ _ at in
          subst (λ y. Cut own y place (find y t) (points own None t) (points own None (without y t))) id
          record {
            here = o;
            is = stand_found t d (stand o (a ∷ q)) h;
            id = refl;
            preceding = map point_in w.preceding;
            back = map point_in w.back;
            was = sym (stand_points [] t)
                ∙ ap (map point_in) w.is
                ∙ map-append point_in w.preceding (stands (a ∷ q) o ++ w.back)
                ∙ ap (λ l. map point_in w.preceding ++ l) (map-append point_in (stands (a ∷ q) o) w.back ∙ ap (λ l. l ++ map point_in w.back) (stand_points (a ∷ q) o ∙ ap (λ (p : Place). points own (Some p.parent) o) one));
            rest = sym (stand_points [] (without (head o).id t)) ∙ ap (map point_in) w.left ∙ left_points (head o).id (w.preceding ++ w.back) ∙ map-append point_in w.preceding w.back;
          }
        where
          some_is : (p q : Place) → Some p ≡ Some q → p ≡ q
          some_is p q e = cc
