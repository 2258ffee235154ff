-- Properties that a mapped tree shares with the original tree.
use Rattle.std.proofs.Common.{◌≡◌, refl, ap, sym, ◌∙◌, ℕ, ◌+◌, max, Bool, true, false, cond, not, ◌&&◌, ◌||◌, eqb, List, [], ◌∷◌, ◌++◌, length, map, Option, Some, None, option_map}
use Rattle.std.specs.Prelude.{nat_le}
use Rattle.std.specs.List.{list_all}
use Rattle.std.proofs.lemmas.List.{length-map}
use Rattle.ir_tree.specs.declared.value.Value.{Value}
use Rattle.ir_tree.specs.Tree.{OpOf, op, RegionsOf, no_regions, region, RegionOf, empty, block, OpsOf, no_ops, next, head, region_count}
use Rattle.ir_tree.specs.Ids.{ids, regions_ids, region_ids, ops_ids, first_of, find, regions_find, region_find, ops_find}
use Rattle.ir_tree.specs.Limits.{depth, regions_depth, region_depth, ops_depth, every, regions_every, region_every, ops_every, most_ops, most_items, most_regions, items_fit, arguments_pass, all_arguments_pass, op_fits, counts_fit}
use Rattle.ir_tree.specs.Uses.{operand_uses, uses_of, regions_uses, region_uses, ops_uses}
use Rattle.ir_tree.specs.Sites.{Frame, results, arguments, shows, in_scope, results_of, visible, operands_visible}
use Rattle.ir_tree.specs.VisibleValues.{visible_at, regions_visible, region_visible, ops_visible}
use Rattle.ir_tree.specs.Scope.{operands_dominate, regions_operands_visible, region_operands_visible, ops_operands_visible}
use Rattle.ir_tree.specs.Places.{first_id, place_of, regions_place, region_place, ops_place}
use Rattle.ir_tree.specs.Maps.{map_entry, map_tree, map_regions, map_region, map_ops}
use Rattle.ir_tree.proofs.VisibleSites.{seen_visible}
use Rattle.ir_tree.proofs.Checked.{seen_operands_visible}

module _ {N T A M U B : Type 0} (f : N → M) (g : T → U) (h : A → B) where
  -- ids
  mutual
    pub map_ids : (t : OpOf N T A) → ids (map_tree f g h t) ≡ ids t
    map_ids (op x rs) = ap (λ l. x.id ∷ l) (map_regions_ids rs)

    pub map_regions_ids : (rs : RegionsOf N T A) → regions_ids (map_regions f g h rs) ≡ regions_ids rs
    map_regions_ids no_regions = refl
    map_regions_ids (region r rs) = λ i. map_region_ids r i ++ map_regions_ids rs i

    pub map_region_ids : (r : RegionOf N T A) → region_ids (map_region f g h r) ≡ region_ids r
    map_region_ids empty = refl
    map_region_ids (block args os) = map_ops_ids os

    pub map_ops_ids : (os : OpsOf N T A) → ops_ids (map_ops f g h os) ≡ ops_ids os
    map_ops_ids no_ops = refl
    map_ops_ids (next o os) = λ i. map_ids o i ++ map_ops_ids os i

  -- uses
  mutual
    pub map_uses : (v : Value) (t : OpOf N T A) → uses_of v (map_tree f g h t) ≡ uses_of v t
    map_uses v (op x rs) = ap (λ l. operand_uses v x.id 0 x.operands ++ l) (map_regions_uses v rs)

    map_regions_uses : (v : Value) (rs : RegionsOf N T A) → regions_uses v (map_regions f g h rs) ≡ regions_uses v rs
    map_regions_uses v no_regions = refl
    map_regions_uses v (region r rs) = λ i. map_region_uses v r i ++ map_regions_uses v rs i

    map_region_uses : (v : Value) (r : RegionOf N T A) → region_uses v (map_region f g h r) ≡ region_uses v r
    map_region_uses v empty = refl
    map_region_uses v (block args os) = map_ops_uses v os

    map_ops_uses : (v : Value) (os : OpsOf N T A) → ops_uses v (map_ops f g h os) ≡ ops_uses v os
    map_ops_uses v no_ops = refl
    map_ops_uses v (next o os) = λ i. map_uses v o i ++ map_ops_uses v os i

  -- depth
  mutual
    pub map_depth : (t : OpOf N T A) → depth (map_tree f g h t) ≡ depth t
    map_depth (op x rs) = map_regions_depth rs

    map_regions_depth : (rs : RegionsOf N T A) → regions_depth (map_regions f g h rs) ≡ regions_depth rs
    map_regions_depth no_regions = refl
    map_regions_depth (region r rs) = λ i. max (map_region_depth r i) (map_regions_depth rs i)

    map_region_depth : (r : RegionOf N T A) → region_depth (map_region f g h r) ≡ region_depth r
    map_region_depth empty = refl
    map_region_depth (block args os) = map_ops_depth os

    map_ops_depth : (os : OpsOf N T A) → ops_depth (map_ops f g h os) ≡ ops_depth os
    map_ops_depth no_ops = refl
    map_ops_depth (next o os) = λ i. max (map_depth o i + 1) (map_ops_depth os i)

  -- tests with the same answers
  module _ (p : OpOf N T A → Bool) (q : OpOf M U B → Bool) (same : (t : OpOf N T A) → q (map_tree f g h t) ≡ p t) where
    mutual
      pub map_every : (t : OpOf N T A) → every q (map_tree f g h t) ≡ every p t
      map_every (op x rs) = λ i. same (op x rs) i && map_regions_every rs i

      map_regions_every : (rs : RegionsOf N T A) → regions_every q (map_regions f g h rs) ≡ regions_every p rs
      map_regions_every no_regions = refl
      map_regions_every (region r rs) = λ i. map_region_every r i && map_regions_every rs i

      map_region_every : (r : RegionOf N T A) → region_every q (map_region f g h r) ≡ region_every p r
      map_region_every empty = refl
      map_region_every (block args os) = map_ops_every os

      map_ops_every : (os : OpsOf N T A) → ops_every q (map_ops f g h os) ≡ ops_every p os
      map_ops_every no_ops = refl
      map_ops_every (next o os) = λ i. map_every o i && map_ops_every os i

  -- counts
  pub map_region_count : (rs : RegionsOf N T A) → region_count (map_regions f g h rs) ≡ region_count rs
  map_region_count no_regions = refl
  map_region_count (region r rs) = ap (λ n. n + 1) (map_region_count rs)

  map_items : {X Y : Type 0} (k : X → Y) (xs : List X) → items_fit (map k xs) ≡ items_fit xs
  map_items k xs = ap (λ n. nat_le n most_items) (length-map xs k)

  map_arguments : (r : RegionOf N T A) → arguments_pass items_fit (map_region f g h r) ≡ arguments_pass items_fit r
  map_arguments empty = refl
  map_arguments (block args os) = map_items g args

  pub map_all_arguments : (rs : RegionsOf N T A) → all_arguments_pass items_fit (map_regions f g h rs) ≡ all_arguments_pass items_fit rs
  map_all_arguments no_regions = refl
  map_all_arguments (region r rs) = λ i. map_arguments r i && map_all_arguments rs i

  map_fits : (t : OpOf N T A) → op_fits (map_tree f g h t) ≡ op_fits t
  map_fits (op x rs) = λ i.
      (items_fit x.operands && (map_items g x.results i && (map_items (map_entry f h) x.properties i && map_items (map_entry f h) x.attributes i)))
      && (nat_le (map_region_count rs i) most_regions && map_all_arguments rs i)

  pub map_counts : (t : OpOf N T A) → counts_fit (map_tree f g h t) ≡ counts_fit t
  map_counts t = λ i. nat_le (length (map_ids t i)) most_ops && map_every op_fits op_fits map_fits t i

  -- finding
  pub map_first : {X Y : Type 0} (k : X → Y) (a b : Option X) → first_of (option_map k a) (option_map k b) ≡ option_map k (first_of a b)
  map_first k None b = refl
  map_first k (Some a) b = refl

  mutual
    pub map_find : (y : ℕ) (t : OpOf N T A) → find y (map_tree f g h t) ≡ option_map (map_tree f g h) (find y t)
    map_find y (op x rs) =
        ap (λ o. cond (eqb x.id y) (Some (map_tree f g h (op x rs))) o) (map_regions_find y rs)
        ∙ elim (eqb x.id y) as (λ b. cond b (Some (map_tree f g h (op x rs))) (option_map (map_tree f g h) (regions_find y rs)) ≡ option_map (map_tree f g h) (cond b (Some (op x rs)) (regions_find y rs)))
        [ true ↦ refl | false ↦ refl ]

    map_regions_find : (y : ℕ) (rs : RegionsOf N T A) → regions_find y (map_regions f g h rs) ≡ option_map (map_tree f g h) (regions_find y rs)
    map_regions_find y no_regions = refl
    map_regions_find y (region r rs) = (λ i. first_of (map_region_find y r i) (map_regions_find y rs i)) ∙ map_first (map_tree f g h) (region_find y r) (regions_find y rs)

    map_region_find : (y : ℕ) (r : RegionOf N T A) → region_find y (map_region f g h r) ≡ option_map (map_tree f g h) (region_find y r)
    map_region_find y empty = refl
    map_region_find y (block args os) = map_ops_find y os

    map_ops_find : (y : ℕ) (os : OpsOf N T A) → ops_find y (map_ops f g h os) ≡ option_map (map_tree f g h) (ops_find y os)
    map_ops_find y no_ops = refl
    map_ops_find y (next o os) = (λ i. first_of (map_find y o i) (map_ops_find y os i)) ∙ map_first (map_tree f g h) (find y o) (ops_find y os)

  -- places
  pub map_head_id : (o : OpOf N T A) → (head (map_tree f g h o)).id ≡ (head o).id
  map_head_id (op x rs) = refl

  map_first_id : (os : OpsOf N T A) → first_id (map_ops f g h os) ≡ first_id os
  map_first_id no_ops = refl
  map_first_id (next o os) = ap Some (map_head_id o)

  mutual
    pub map_place : (y : ℕ) (t : OpOf N T A) → place_of y (map_tree f g h t) ≡ place_of y t
    map_place y (op x rs) = map_regions_place y x.id 0 rs

    map_regions_place : (y p r : ℕ) (rs : RegionsOf N T A) → regions_place y p r (map_regions f g h rs) ≡ regions_place y p r rs
    map_regions_place y p r no_regions = refl
    map_regions_place y p r (region g' rs) = λ i. first_of (map_region_place y p r g' i) (map_regions_place y p (r + 1) rs i)

    map_region_place : (y p r : ℕ) (g' : RegionOf N T A) → region_place y p r (map_region f g h g') ≡ region_place y p r g'
    map_region_place y p r empty = refl
    map_region_place y p r (block args os) = map_ops_place y p r os

    map_ops_place : (y p r : ℕ) (os : OpsOf N T A) → ops_place y p r (map_ops f g h os) ≡ ops_place y p r os
    map_ops_place y p r no_ops = refl
    map_ops_place y p r (next o os) = λ i.
        cond (eqb (map_head_id o i) y) (Some (record { parent = p; region = r; before = map_first_id os i })) (first_of (map_place y o i) (map_ops_place y p r os i))

  -- scopes
  map_results : (o : OpOf N T A) → results_of (map_tree f g h o) ≡ results_of o
  map_results (op x rs) = ap (results x.id) (length-map x.results g)

  module _ (isolated : M → Bool) where
    isolated_here : N → Bool
    isolated_here n = isolated (f n)

    mutual
      map_seen : (y : ℕ) (v : Value) (b : Bool) (t : OpOf N T A) → visible_at isolated y v b (map_tree f g h t) ≡ visible_at (λ n. isolated (f n)) y v b t
      map_seen y v b (op x rs) = ap (λ c. eqb x.id y && b || c) (map_regions_visible y v (not (isolated (f x.name)) && b) x.id 0 rs)

      map_regions_visible : (y : ℕ) (v : Value) (b : Bool) (o r : ℕ) (rs : RegionsOf N T A) → regions_visible isolated y v b o r (map_regions f g h rs) ≡ regions_visible (λ n. isolated (f n)) y v b o r rs
      map_regions_visible y v b o r no_regions = refl
      map_regions_visible y v b o r (region g' rs) = λ i. map_region_visible y v b o r g' i || map_regions_visible y v b o (r + 1) rs i

      map_region_visible : (y : ℕ) (v : Value) (b : Bool) (o r : ℕ) (g' : RegionOf N T A) → region_visible isolated y v b o r (map_region f g h g') ≡ region_visible (λ n. isolated (f n)) y v b o r g'
      map_region_visible y v b o r empty = refl
      map_region_visible y v b o r (block args os) =
          ap (λ n. ops_visible isolated y v (b || shows v (arguments o r n)) (map_ops f g h os)) (length-map args g) ∙ map_ops_visible y v (b || shows v (arguments o r (length args))) os

      map_ops_visible : (y : ℕ) (v : Value) (b : Bool) (os : OpsOf N T A) → ops_visible isolated y v b (map_ops f g h os) ≡ ops_visible (λ n. isolated (f n)) y v b os
      map_ops_visible y v b no_ops = refl
      map_ops_visible y v b (next o os) =
          (λ i. map_seen y v b o i || ops_visible isolated y v (b || shows v (map_results o i)) (map_ops f g h os))
          ∙ ap (λ c. visible_at (λ n. isolated (f n)) y v b o || c) (map_ops_visible y v (b || shows v (results_of o)) os)

    mutual
      map_operands : (s : List Frame) (t : OpOf N T A) → operands_dominate isolated s (map_tree f g h t) ≡ operands_dominate (λ n. isolated (f n)) s t
      map_operands s (op x rs) = ap (λ c. list_all (in_scope s) x.operands && c) (map_regions_operands (cond (isolated (f x.name)) [] s) x.id 0 rs)

      map_regions_operands : (s : List Frame) (o r : ℕ) (rs : RegionsOf N T A) → regions_operands_visible isolated s o r (map_regions f g h rs) ≡ regions_operands_visible (λ n. isolated (f n)) s o r rs
      map_regions_operands s o r no_regions = refl
      map_regions_operands s o r (region g' rs) = λ i. map_region_operands s o r g' i && map_regions_operands s o (r + 1) rs i

      map_region_operands : (s : List Frame) (o r : ℕ) (g' : RegionOf N T A) → region_operands_visible isolated s o r (map_region f g h g') ≡ region_operands_visible (λ n. isolated (f n)) s o r g'
      map_region_operands s o r empty = refl
      map_region_operands s o r (block args os) =
          ap (λ n. ops_operands_visible isolated (s ++ arguments o r n ∷ []) (map_ops f g h os)) (length-map args g) ∙ map_ops_operands (s ++ arguments o r (length args) ∷ []) os

      map_ops_operands : (s : List Frame) (os : OpsOf N T A) → ops_operands_visible isolated s (map_ops f g h os) ≡ ops_operands_visible (λ n. isolated (f n)) s os
      map_ops_operands s no_ops = refl
      map_ops_operands s (next o os) =
          (λ i. map_operands s o i && ops_operands_visible isolated (s ++ map_results o i ∷ []) (map_ops f g h os))
          ∙ ap (λ c. operands_dominate (λ n. isolated (f n)) s o && c) (map_ops_operands (s ++ results_of o ∷ []) os)

    pub map_visible : (t : OpOf N T A) (y : ℕ) (v : Value) → visible isolated (map_tree f g h t) y v ≡ visible (λ n. isolated (f n)) t y v
    map_visible t y v = sym (seen_visible isolated (map_tree f g h t) y v) ∙ map_seen y v false t ∙ seen_visible (λ n. isolated (f n)) t y v

    pub map_operands_visible : (t : OpOf N T A) → operands_visible isolated (map_tree f g h t) ≡ operands_visible (λ n. isolated (f n)) t
    map_operands_visible t = sym (seen_operands_visible isolated (map_tree f g h t)) ∙ map_operands [] t ∙ seen_operands_visible (λ n. isolated (f n)) t
