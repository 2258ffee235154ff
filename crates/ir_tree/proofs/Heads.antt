-- What an edit of heads leaves unchanged.
use Rattle.std.proofs.Common.{◌≡◌, refl, ap, sym, ◌∙◌, ℕ, ◌+◌, max, Bool, true, false, cond, not, ◌&&◌, ◌||◌, eqb, List, [], ◌∷◌, ◌++◌, length, Option, Some, None, option_map}
use Rattle.std.specs.List.{list_all}
use Rattle.ir_tree.specs.declared.value.Value.{Value}
use Rattle.ir_tree.specs.declared.place.Part.{Part}
use Rattle.ir_tree.specs.declared.place.Part.TheVariants.{Props, Attrs}
use Rattle.ir_tree.specs.Tree.{HeadOf, OpOf, op, RegionsOf, no_regions, region, RegionOf, empty, block, OpsOf, no_ops, next, head}
use Rattle.ir_tree.specs.Ids.{ids, regions_ids, region_ids, ops_ids, first_of, find, regions_find, region_find, ops_find}
use Rattle.ir_tree.specs.Limits.{depth, regions_depth, region_depth, ops_depth}
use Rattle.ir_tree.specs.Uses.{operand_uses, uses_of, regions_uses, region_uses, ops_uses}
use Rattle.ir_tree.specs.Sites.{Frame, results, arguments, shows, in_scope, results_of, visible, operands_visible}
use Rattle.ir_tree.specs.VisibleValues.{visible_at, regions_visible, region_visible, ops_visible}
use Rattle.ir_tree.specs.Scope.{operands_dominate, regions_operands_visible, region_operands_visible, ops_operands_visible}
use Rattle.ir_tree.specs.Edits.{each_head, regions_each_head, region_each_head, ops_each_head, at, put_operand, put_values, change_entry, change_part}
use Rattle.ir_tree.specs.Places.{first_id, place_of, regions_place, region_place, ops_place}
use Rattle.ir_tree.proofs.VisibleSites.{seen_visible}
use Rattle.ir_tree.proofs.Checked.{seen_operands_visible}

-- a head with the same id, name and number of results
pub record Alike {N T A : Type 0} (g h : HeadOf N T A) : Type 0 where
  pub id : g.id ≡ h.id
  pub name : g.name ≡ h.name
  pub results : length g.results ≡ length h.results

module _ {N T A : Type 0} (f : HeadOf N T A → HeadOf N T A) (alike : (h : HeadOf N T A) → Alike (f h) h) where
  mutual
    pub head_ids : (t : OpOf N T A) → ids (each_head f t) ≡ ids t
    head_ids (op h rs) = λ i. (alike h).id i ∷ regions_head_ids rs i

    regions_head_ids : (rs : RegionsOf N T A) → regions_ids (regions_each_head f rs) ≡ regions_ids rs
    regions_head_ids no_regions = refl
    regions_head_ids (region r rs) = λ i. region_head_ids r i ++ regions_head_ids rs i

    region_head_ids : (r : RegionOf N T A) → region_ids (region_each_head f r) ≡ region_ids r
    region_head_ids empty = refl
    region_head_ids (block args os) = ops_head_ids os

    ops_head_ids : (os : OpsOf N T A) → ops_ids (ops_each_head f os) ≡ ops_ids os
    ops_head_ids no_ops = refl
    ops_head_ids (next o os) = λ i. head_ids o i ++ ops_head_ids os i

  mutual
    pub head_depth : (t : OpOf N T A) → depth (each_head f t) ≡ depth t
    head_depth (op h rs) = regions_head_depth rs

    regions_head_depth : (rs : RegionsOf N T A) → regions_depth (regions_each_head f rs) ≡ regions_depth rs
    regions_head_depth no_regions = refl
    regions_head_depth (region r rs) = λ i. max (region_head_depth r i) (regions_head_depth rs i)

    region_head_depth : (r : RegionOf N T A) → region_depth (region_each_head f r) ≡ region_depth r
    region_head_depth empty = refl
    region_head_depth (block args os) = ops_head_depth os

    ops_head_depth : (os : OpsOf N T A) → ops_depth (ops_each_head f os) ≡ ops_depth os
    ops_head_depth no_ops = refl
    ops_head_depth (next o os) = λ i. max (head_depth o i + 1) (ops_head_depth os i)

  same_id : (o : OpOf N T A) → (head (each_head f o)).id ≡ (head o).id
  same_id (op h rs) = (alike h).id

  same_first : (os : OpsOf N T A) → first_id (ops_each_head f os) ≡ first_id os
  same_first no_ops = refl
  same_first (next o os) = ap Some (same_id o)

  mutual
    pub head_place : (x : ℕ) (t : OpOf N T A) → place_of x (each_head f t) ≡ place_of x t
    head_place x (op h rs) = (λ i. regions_place x ((alike h).id i) 0 (regions_each_head f rs)) ∙ regions_head_place x h.id 0 rs

    regions_head_place : (x p r : ℕ) (rs : RegionsOf N T A) → regions_place x p r (regions_each_head f rs) ≡ regions_place x p r rs
    regions_head_place x p r no_regions = refl
    regions_head_place x p r (region g rs) = λ i. first_of (region_head_place x p r g i) (regions_head_place x p (r + 1) rs i)

    region_head_place : (x p r : ℕ) (g : RegionOf N T A) → region_place x p r (region_each_head f g) ≡ region_place x p r g
    region_head_place x p r empty = refl
    region_head_place x p r (block args os) = ops_head_place x p r os

    ops_head_place : (x p r : ℕ) (os : OpsOf N T A) → ops_place x p r (ops_each_head f os) ≡ ops_place x p r os
    ops_head_place x p r no_ops = refl
    ops_head_place x p r (next o os) = λ i.
        cond (eqb (same_id o i) x) (Some (record { parent = p; region = r; before = same_first os i })) (first_of (head_place x o i) (ops_head_place x p r os i))

  option_first : (a b : Option (OpOf N T A)) → first_of (option_map (each_head f) a) (option_map (each_head f) b) ≡ option_map (each_head f) (first_of a b)
  option_first None b = refl
  option_first (Some a) b = refl

  mutual
    pub head_find : (x : ℕ) (t : OpOf N T A) → find x (each_head f t) ≡ option_map (each_head f) (find x t)
    head_find x (op h rs) =
        (λ i. cond (eqb ((alike h).id i) x) (Some (each_head f (op h rs))) (regions_head_find x rs i))
        ∙ elim (eqb h.id x) as (λ b. cond b (Some (each_head f (op h rs))) (option_map (each_head f) (regions_find x rs)) ≡ option_map (each_head f) (cond b (Some (op h rs)) (regions_find x rs))) [ true ↦ refl | false ↦ refl ]

    regions_head_find : (x : ℕ) (rs : RegionsOf N T A) → regions_find x (regions_each_head f rs) ≡ option_map (each_head f) (regions_find x rs)
    regions_head_find x no_regions = refl
    regions_head_find x (region r rs) = (λ i. first_of (region_head_find x r i) (regions_head_find x rs i)) ∙ option_first (region_find x r) (regions_find x rs)

    region_head_find : (x : ℕ) (r : RegionOf N T A) → region_find x (region_each_head f r) ≡ option_map (each_head f) (region_find x r)
    region_head_find x empty = refl
    region_head_find x (block args os) = ops_head_find x os

    ops_head_find : (x : ℕ) (os : OpsOf N T A) → ops_find x (ops_each_head f os) ≡ option_map (each_head f) (ops_find x os)
    ops_head_find x no_ops = refl
    ops_head_find x (next o os) = (λ i. first_of (head_find x o i) (ops_head_find x os i)) ∙ option_first (find x o) (ops_find x os)

  same_results : (o : OpOf N T A) → results_of (each_head f o) ≡ results_of o
  same_results (op h rs) = λ i. results ((alike h).id i) ((alike h).results i)

  module _ (isolated : N → Bool) where
    mutual
      head_seen : (x : ℕ) (v : Value) (b : Bool) (t : OpOf N T A) → visible_at isolated x v b (each_head f t) ≡ visible_at isolated x v b t
      head_seen x v b (op h rs) =
          (λ i. eqb ((alike h).id i) x && b || regions_visible isolated x v (not (isolated ((alike h).name i)) && b) ((alike h).id i) 0 (regions_each_head f rs))
          ∙ ap (λ c. eqb h.id x && b || c) (regions_head_visible x v (not (isolated h.name) && b) h.id 0 rs)

      regions_head_visible : (x : ℕ) (v : Value) (b : Bool) (o r : ℕ) (rs : RegionsOf N T A) → regions_visible isolated x v b o r (regions_each_head f rs) ≡ regions_visible isolated x v b o r rs
      regions_head_visible x v b o r no_regions = refl
      regions_head_visible x v b o r (region g rs) = λ i. region_head_visible x v b o r g i || regions_head_visible x v b o (r + 1) rs i

      region_head_visible : (x : ℕ) (v : Value) (b : Bool) (o r : ℕ) (g : RegionOf N T A) → region_visible isolated x v b o r (region_each_head f g) ≡ region_visible isolated x v b o r g
      region_head_visible x v b o r empty = refl
      region_head_visible x v b o r (block args os) = ops_head_visible x v (b || shows v (arguments o r (length args))) os

      ops_head_visible : (x : ℕ) (v : Value) (b : Bool) (os : OpsOf N T A) → ops_visible isolated x v b (ops_each_head f os) ≡ ops_visible isolated x v b os
      ops_head_visible x v b no_ops = refl
      ops_head_visible x v b (next o os) =
          (λ i. head_seen x v b o i || ops_visible isolated x v (b || shows v (same_results o i)) (ops_each_head f os))
          ∙ ap (λ c. visible_at isolated x v b o || c) (ops_head_visible x v (b || shows v (results_of o)) os)

    pub head_visible : (t : OpOf N T A) (x : ℕ) (v : Value) → visible isolated (each_head f t) x v ≡ visible isolated t x v
    head_visible t x v = sym (seen_visible isolated (each_head f t) x v) ∙ head_seen x v false t ∙ seen_visible isolated t x v

  -- heads that also have the same operands
  module _ (same : (h : HeadOf N T A) → (f h).operands ≡ h.operands) where
    mutual
      pub head_uses : (v : Value) (t : OpOf N T A) → uses_of v (each_head f t) ≡ uses_of v t
      head_uses v (op h rs) = λ i. operand_uses v ((alike h).id i) 0 (same h i) ++ regions_head_uses v rs i

      regions_head_uses : (v : Value) (rs : RegionsOf N T A) → regions_uses v (regions_each_head f rs) ≡ regions_uses v rs
      regions_head_uses v no_regions = refl
      regions_head_uses v (region r rs) = λ i. region_head_uses v r i ++ regions_head_uses v rs i

      region_head_uses : (v : Value) (r : RegionOf N T A) → region_uses v (region_each_head f r) ≡ region_uses v r
      region_head_uses v empty = refl
      region_head_uses v (block args os) = ops_head_uses v os

      ops_head_uses : (v : Value) (os : OpsOf N T A) → ops_uses v (ops_each_head f os) ≡ ops_uses v os
      ops_head_uses v no_ops = refl
      ops_head_uses v (next o os) = λ i. head_uses v o i ++ ops_head_uses v os i

    module _ (isolated : N → Bool) where
      mutual
        head_operands : (s : List Frame) (t : OpOf N T A) → operands_dominate isolated s (each_head f t) ≡ operands_dominate isolated s t
        head_operands s (op h rs) =
            (λ i. list_all (in_scope s) (same h i) && regions_operands_visible isolated (cond (isolated ((alike h).name i)) [] s) ((alike h).id i) 0 (regions_each_head f rs))
            ∙ ap (λ c. list_all (in_scope s) h.operands && c) (regions_head_operands (cond (isolated h.name) [] s) h.id 0 rs)

        regions_head_operands : (s : List Frame) (o r : ℕ) (rs : RegionsOf N T A) → regions_operands_visible isolated s o r (regions_each_head f rs) ≡ regions_operands_visible isolated s o r rs
        regions_head_operands s o r no_regions = refl
        regions_head_operands s o r (region g rs) = λ i. region_head_operands s o r g i && regions_head_operands s o (r + 1) rs i

        region_head_operands : (s : List Frame) (o r : ℕ) (g : RegionOf N T A) → region_operands_visible isolated s o r (region_each_head f g) ≡ region_operands_visible isolated s o r g
        region_head_operands s o r empty = refl
        region_head_operands s o r (block args os) = ops_head_operands (s ++ arguments o r (length args) ∷ []) os

        ops_head_operands : (s : List Frame) (os : OpsOf N T A) → ops_operands_visible isolated s (ops_each_head f os) ≡ ops_operands_visible isolated s os
        ops_head_operands s no_ops = refl
        ops_head_operands s (next o os) =
            (λ i. head_operands s o i && ops_operands_visible isolated (s ++ same_results o i ∷ []) (ops_each_head f os))
            ∙ ap (λ c. operands_dominate isolated s o && c) (ops_head_operands (s ++ results_of o ∷ []) os)

      pub head_operands_visible : (t : OpOf N T A) → operands_visible isolated (each_head f t) ≡ operands_visible isolated t
      head_operands_visible t = sym (seen_operands_visible isolated (each_head f t)) ∙ head_operands [] t ∙ seen_operands_visible isolated t

-- the edits
module _ {N T A : Type 0} where
  alike_itself : (h : HeadOf N T A) → Alike h h
  alike_itself h = record { id = refl; name = refl; results = refl }

  alike_at : (x : ℕ) (f : HeadOf N T A → HeadOf N T A) → ((h : HeadOf N T A) → Alike (f h) h) → (h : HeadOf N T A) → Alike (at x f h) h
  alike_at x f alike h = elim (eqb h.id x) as (λ b. Alike (cond b (f h) h) h) [ true ↦ alike h | false ↦ alike_itself h ]

  pub alike_operand : (x k : ℕ) (v : Value) (h : HeadOf N T A) → Alike (at x (put_operand k v) h) h
  alike_operand x k v = alike_at x (put_operand k v) (λ h. record { id = refl; name = refl; results = refl })

  pub alike_values : (v w : Value) (h : HeadOf N T A) → Alike (put_values v w h) h
  alike_values v w h = record { id = refl; name = refl; results = refl }

  alike_part : (part : Part) (f : List (N × A) → List (N × A)) (h : HeadOf N T A) → Alike (change_part part f h) h
  alike_part Props f h = record { id = refl; name = refl; results = refl }
  alike_part Attrs f h = record { id = refl; name = refl; results = refl }

  pub alike_entry : (before : N → N → Bool) (x : ℕ) (part : Part) (k : N) (a : Option A) (h : HeadOf N T A) → Alike (at x (change_part part (change_entry before k a)) h) h
  alike_entry before x part k a = alike_at x (change_part part (change_entry before k a)) (alike_part part (change_entry before k a))

  pub part_operands : (part : Part) (f : List (N × A) → List (N × A)) (h : HeadOf N T A) → (change_part part f h).operands ≡ h.operands
  part_operands Props f h = refl
  part_operands Attrs f h = refl

  pub entry_operands : (before : N → N → Bool) (x : ℕ) (part : Part) (k : N) (a : Option A) (h : HeadOf N T A) → (at x (change_part part (change_entry before k a)) h).operands ≡ h.operands
  entry_operands before x part k a h =
      elim (eqb h.id x) as (λ b. (cond b (change_part part (change_entry before k a) h) h).operands ≡ h.operands) [ true ↦ part_operands part (change_entry before k a) h | false ↦ refl ]
