-- A tree with an operation, and everything inside it, shifted to a place.
use Rattle.std.proofs.Common.{◌≡◌, refl, ap, sym, ◌∙◌, subst, ℕ, ◌+◌, ◌<◌, Bool, true, false, true≢false, cond, eqb, eq-eqb, eqb-true, List, [], ◌∷◌, length, Option, Some, None, option_map, inl, inr, ◌⊎◌, arith}
use Rattle.std.specs.List.{list_any, list_all, IsDistinct}
use Rattle.std.proofs.lemmas.Bool.{leb-true}
use Rattle.std.proofs.lemmas.List.{length-map}
use Rattle.std.proofs.lemmas.Map.Keys.{IsDistinct-tail}
use Rattle.ir_tree.specs.declared.place.Place.{Place}
use Rattle.ir_tree.specs.Tree.{HeadOf, OpOf, op, RegionsOf, no_regions, region, RegionOf, empty, block, OpsOf, no_ops, next, head, regions}
use Rattle.ir_tree.specs.Ids.{ids, regions_ids, region_ids, ops_ids, HasDistinctIds, has_id, first_of, find, regions_find, region_find, ops_find}
use Rattle.ir_tree.specs.Limits.{depth, op_fits, most_around}
use Rattle.ir_tree.specs.Sites.{operands_visible}
use Rattle.ir_tree.specs.Places.{each_list, region_each_list, ops_each_list, drop_op, put, put_found, without, shifted, place_of}
use Rattle.ir_tree.specs.WellFormed.{IsValidTree}
use Rattle.ir_tree.proofs.Left.{left_distinct}
use Rattle.ir_tree.proofs.Returns.{halves}
use Rattle.ir_tree_laws.specs.Values.{region_at}
use Rattle.ir_tree_laws.specs.Reads.{around, is_among}
use Rattle.ir_tree_laws.specs.Reasons.{is_in_list, has_place, fits_around, leads_inside, before_within}
use Rattle.ir_tree_laws.specs.Stands.{StepOf, OpWithPathOf, op_with_path_id, stands, find_op_with_path, dominated_by, is_gone, gone_in, left_stand, left_step, dropping, place_in}
use Rattle.ir_tree_laws.specs.Members.{In}
use Rattle.ir_tree_laws.proofs.Listed.{all_each, bool_cases, either, neither, or_left, or_right}
use Rattle.ir_tree_laws.proofs.Members.{stand, itself, within, has_around, found_stands, stand_of_member, same_stand, stand_found, found_in}
use Rattle.ir_tree_laws.proofs.Around.{stands_around, stand_present, present_stand, gone_within, within_gone, place_of_member}
use Rattle.ir_tree_laws.proofs.Without.{left_member, member_left, same_head}
use Rattle.ir_tree_laws.proofs.DominatedBy.{stands_operands}
use Rattle.ir_tree_laws.proofs.Put.{Point, point_of, of_point, region_each}
use Rattle.ir_tree_laws.proofs.Wellformed.{from_wellformed, to_wellformed, within_depth, list_fits, no_more}
use Rattle.ir_tree_laws.proofs.PutForm as put_form
use Rattle.ir_tree_laws.specs.Restores.{MayPut}

module _ {N T A : Type 0} where
  first_cases : (a b : Option (OpOf N T A)) (c : OpOf N T A) → first_of a b ≡ Some c → (a ≡ Some c) ⊎ (b ≡ Some c)
  first_cases None b c e = inr e
  first_cases (Some a) b c e = inl e

  -- ids inside an operation are distinct
  own_step : (x : ℕ) (h : HeadOf N T A) (rs : RegionsOf N T A) (o : OpOf N T A) → IsDistinct eqb (h.id ∷ regions_ids rs) → (regions_find x rs ≡ Some o → IsDistinct eqb (ids o)) → (b : Bool) → cond b (Some (op h rs)) (regions_find x rs) ≡ Some o → IsDistinct eqb (ids o)
  own_step x h rs o d f true e = let same : op h rs ≡ o = cc in subst (λ (z : OpOf N T A). IsDistinct eqb (ids z)) same d
  own_step x h rs o d f false e = f e

  mutual
    pub own_distinct : (x : ℕ) (t o : OpOf N T A) → IsDistinct eqb (ids t) → find x t ≡ Some o → IsDistinct eqb (ids o)
    own_distinct x (op h rs) o d e = own_step x h rs o d (λ k. regions_own_distinct x rs o (IsDistinct-tail eqb h.id (regions_ids rs) d) k) (eqb h.id x) e

    regions_own_distinct : (x : ℕ) (rs : RegionsOf N T A) (o : OpOf N T A) → IsDistinct eqb (regions_ids rs) → regions_find x rs ≡ Some o → IsDistinct eqb (ids o)
    regions_own_distinct x no_regions o d e = absurd cc
    regions_own_distinct x (region g rs) o d e =
        let hv = halves (region_ids g) (regions_ids rs) d in
        elim (first_cases (region_find x g) (regions_find x rs) o e) [ inl k ↦ region_own_distinct x g o hv.left k | inr k ↦ regions_own_distinct x rs o hv.right k ]

    region_own_distinct : (x : ℕ) (g : RegionOf N T A) (o : OpOf N T A) → IsDistinct eqb (region_ids g) → region_find x g ≡ Some o → IsDistinct eqb (ids o)
    region_own_distinct x empty o d e = absurd cc
    region_own_distinct x (block args os) o d e = ops_own_distinct x os o d e

    ops_own_distinct : (x : ℕ) (os : OpsOf N T A) (o : OpOf N T A) → IsDistinct eqb (ops_ids os) → ops_find x os ≡ Some o → IsDistinct eqb (ids o)
    ops_own_distinct x no_ops o d e = absurd cc
    ops_own_distinct x (next q os) o d e =
        let hv = halves (ids q) (ops_ids os) d in
        elim (first_cases (find x q) (ops_find x os) o e) [ inl k ↦ own_distinct x q o hv.left k | inr k ↦ ops_own_distinct x os o hv.right k ]

  -- the path of an operation that isn't the root
  pub record Inner (x : ℕ) (t o : OpOf N T A) : Type 0 where
    pub step_in : StepOf N T A
    pub path : List (StepOf N T A)
    pub there : In (stand o (step_in ∷ path)) (stands [] t)
    pub id : (head o).id ≡ x

  pub inner_of : (x : ℕ) (t o : OpOf N T A) → find x t ≡ Some o → eqb (head t).id x ≡ false → Inner x t o
  inner_of x t o e r =
      let s = found_stands x t o e in
      elim (has_around [] t s.0 s.1) [
        | inl k ↦ absurd (true≢false (sym (eq-eqb (head t).id x (ap (λ (z : OpWithPathOf N T A). op_with_path_id z) (sym k) ∙ s.2)) ∙ r))
        | inr w ↦ record {
          step_in = w.0;
          path = w.1;
          there = subst (λ (z : OpWithPathOf N T A). In z (stands [] t)) (λ i. stand (s.3 i) (w.2 i)) s.1;
          id = ap (λ (z : OpOf N T A). (head z).id) (sym s.3) ∙ s.2;
        }
      ]

  pub inner_place : (x : ℕ) (t o : OpOf N T A) → HasDistinctIds t → (i : Inner x t o) → place_of x t ≡ place_in (i.step_in ∷ i.path)
  inner_place x t o d i = ap (λ z. place_of z t) (sym i.id) ∙ place_of_member t d o i.step_in i.path i.there

  pub still_among : (x b : ℕ) (f : ℕ → ℕ → OpsOf N T A → OpsOf N T A) (os : OpsOf N T A) → eqb b x ≡ false → is_among b os ≡ true → is_among b (drop_op x (ops_each_list f os)) ≡ true
  still_among x b f no_ops e h = h
  still_among x b f (next (op h rs) os) e a = go (eqb h.id x) refl (either (eqb h.id b) (is_among b os) a) (still_among x b f os e)
    where
      go : (c : Bool) → eqb h.id x ≡ c → (eqb h.id b ≡ true) ⊎ (is_among b os ≡ true) → (is_among b os ≡ true → is_among b (drop_op x (ops_each_list f os)) ≡ true)
          → is_among b (cond c (drop_op x (ops_each_list f os)) (next (each_list f (op h rs)) (drop_op x (ops_each_list f os)))) ≡ true
      go true k (inl l) later = absurd (true≢false (sym (ap (λ z. eqb z x) (sym (eqb-true h.id b l)) ∙ k) ∙ e))
      go true k (inr l) later = later l
      go false k (inl l) later = or_left (eqb h.id b) _ l
      go false k (inr l) later = or_right (eqb h.id b) _ (later l)

module _ {N T A : Type 0} (x : ℕ) (place : Place) (t o : OpOf N T A) (d : HasDistinctIds t) (found : find x t ≡ Some o) (not_root : eqb (head t).id x ≡ false) (point : has_place place t ≡ true) (outside : leads_inside place (Some o) ≡ false) where
  abbrev u : OpOf N T A
  u = without x t

  abbrev after : OpOf N T A
  after = put place o u

  pub inner : Inner x t o
  inner = inner_of x t o found not_root

  own_id : (o : OpOf N T A) → has_id (head o).id o ≡ true
  own_id o = stand_present [] o (stand o []) (itself [] o)

  -- the operations inside it don't remain
  in_it : (y : ℕ) → has_id y o ≡ true → (s : OpWithPathOf N T A) × In s (stands [] t) × (op_with_path_id s ≡ y) × (is_gone x s ≡ true)
  in_it y h =
      let s = present_stand (inner.step_in ∷ inner.path) o y h in
      (s.0, within o (inner.step_in ∷ inner.path) s.0 s.1 [] t inner.there, s.2, within_gone x o (inner.step_in ∷ inner.path) (or_left (eqb (head o).id x) (gone_in x inner.step_in.parent inner.path) (eq-eqb (head o).id x inner.id)) s.0 s.1)

  apart : (y : ℕ) → has_id y o ≡ true → has_id y u ≡ false
  apart y h = elim (bool_cases (has_id y u)) [
    | inr k ↦ k
    | inl k ↦ (let v = present_stand [] u y k in
        let m = member_left x t v.0 v.1 in
        let z = in_it y h in
        let id : op_with_path_id m.0 ≡ op_with_path_id z.0 = ap (λ (h : HeadOf N T A). h.id) (sym (same_head x (dropping x) m.0.here)) ∙ ap (λ (z : OpWithPathOf N T A). op_with_path_id z) (sym m.3) ∙ v.2 ∙ sym z.2 in
        let same = same_stand t d m.0 z.0 m.1 z.1 id in
        absurd (true≢false (sym z.3 ∙ ap (is_gone x) (sym same) ∙ m.2)))
  ]

  -- the operations outside it remain
  stays : (s : OpWithPathOf N T A) → In s (stands [] t) → has_id (op_with_path_id s) o ≡ false → is_gone x s ≡ false
  stays s h k = elim (bool_cases (is_gone x s)) [
    | inr l ↦ l
    | inl l ↦ (let w = gone_within x t s.path s.here h l in
        let same = same_stand t d (stand w.here (w.step_in ∷ w.path)) (stand o (inner.step_in ∷ inner.path)) w.there inner.there (w.id ∙ sym inner.id) in
        let inside : In s (stands (inner.step_in ∷ inner.path) o) = subst (λ (z : OpWithPathOf N T A). In s (stands z.path z.here)) same w.inner in
        absurd (true≢false (sym (stand_present (inner.step_in ∷ inner.path) o s inside) ∙ k)))
  ]

  abbrev sp : Point place t
  sp = point_of place t point

  parent_stand : (s : OpWithPathOf N T A) × In s (stands [] t) × (op_with_path_id s ≡ place.parent) × (s.here ≡ sp.parent)
  parent_stand = found_stands place.parent t sp.parent sp.found

  parent_out : has_id place.parent o ≡ false
  parent_out = (neither _ _ outside).0

  parent_stays : is_gone x parent_stand.0 ≡ false
  parent_stays = stays parent_stand.0 parent_stand.1 (ap (λ z. has_id z o) parent_stand.2 ∙ parent_out)

  left_parent : In (left_stand x parent_stand.0) (stands [] u)
  left_parent = left_member x t parent_stand.0 parent_stand.1 parent_stays

  left_id : op_with_path_id (left_stand x parent_stand.0) ≡ place.parent
  left_id = ap (λ (h : HeadOf N T A). h.id) (same_head x (dropping x) parent_stand.0.here) ∙ parent_stand.2

  left_point : has_place place u ≡ true
  left_point = of_point place u (record {
    parent = each_list (dropping x) sp.parent;
    found = ap (λ z. find z u) (sym left_id) ∙ stand_found u (left_distinct x t d) (left_stand x parent_stand.0) left_parent ∙ ap (λ (z : OpOf N T A). Some (each_list (dropping x) z)) parent_stand.3;
    args = sp.args;
    list = drop_op x (ops_each_list (dropping x) sp.list);
    is = each_block sp.parent sp.is;
    among = still place.before sp.among (neither _ _ outside).1;
  })
    where
      each_block : (q : OpOf N T A) → region_at place.region (regions q) ≡ Some (block sp.args sp.list) → region_at place.region (regions (each_list (dropping x) q)) ≡ Some (block sp.args (drop_op x (ops_each_list (dropping x) sp.list)))
      each_block (op h rs) e = region_each (dropping x) h.id 0 place.region rs ∙ ap (option_map (region_each_list (dropping x) h.id (0 + place.region))) e

      still : (b : Option ℕ) → is_in_list b (Some sp.list) ≡ true → before_within b (Some o) ≡ false → is_in_list b (Some (drop_op x (ops_each_list (dropping x) sp.list))) ≡ true
      still None h k = refl
      still (Some b) h k = still_among x b (dropping x) sp.list
          (elim (bool_cases (eqb b x)) [ inr l ↦ l | inl l ↦ absurd (true≢false (sym (subst (λ z. has_id z o ≡ true) (inner.id ∙ sym (eqb-true b x l)) (own_id o)) ∙ k)) ])
          h

  pub may_shift : MayPut place o (without x t)
  may_shift = record { distinct = left_distinct x t d; own = own_distinct x t o d found; apart = apart; point = left_point }

  pub is_put : shifted x place t ≡ put place o (without x t)
  is_put = ap (λ f. put_found place f (without x t)) found

  pub shift_distinct : HasDistinctIds (put place o (without x t))
  shift_distinct = put_form.put_distinct place o u may_shift

  pub shift_place : place_of x (put place o (without x t)) ≡ Some place
  shift_place = ap (λ z. place_of z after) (sym inner.id) ∙ put_form.put_place place o u may_shift

  pub shift_found : find x (put place o (without x t)) ≡ find x t
  shift_found = ap (λ z. find z after) (sym inner.id) ∙ put_form.put_found place o u may_shift ∙ sym found

  pub shift_rest : without x (put place o (without x t)) ≡ without x t
  shift_rest = ap (λ z. without z after) (sym inner.id) ∙ put_form.put_back place o u may_shift

  pub shift_was : place_of x t ≡ place_in (inner.step_in ∷ inner.path)
  shift_was = inner_place x t o d inner

  -- the depth of the place's parent
  shift_around : around place.parent (without x t) ≡ around place.parent t
  shift_around =
      sym (stands_around place.parent [] u)
      ∙ ap (option_map (λ (s : OpWithPathOf N T A). length s.path)) (ap (λ z. find_op_with_path z (stands [] u)) (sym left_id) ∙ stand_of_member u (left_distinct x t d) (left_stand x parent_stand.0) left_parent)
      ∙ ap Some (length-map parent_stand.0.path (left_step x))
      ∙ sym (sym (stands_around place.parent [] t)
      ∙ ap (option_map (λ (s : OpWithPathOf N T A). length s.path)) (ap (λ z. find_op_with_path z (stands [] t)) (sym parent_stand.2) ∙ stand_of_member t d parent_stand.0 parent_stand.1))

  -- each operation was in the tree before, with the same id and counts; its depth is the same, or it was shifted
  pub shift_cases : (s : OpWithPathOf N T A) → In s (stands [] after) → (z : OpWithPathOf N T A) × In z (stands [] t) × (op_with_path_id s ≡ op_with_path_id z) × (op_fits s.here ≡ op_fits z.here) × ((length s.path ≡ length z.path) ⊎ In s (stands ((put_form.landed place o u may_shift).step_in ∷ (put_form.landed place o u may_shift).path) o))
  shift_cases s h = elim (put_form.put_cases place o u may_shift s h) [
    | inl k ↦ (let m = member_left x t (left_stand (head o).id s) k.0 in
        let y = (head o).id in (
          m.0,
          m.1,
          ap (λ (h : HeadOf N T A). h.id) (sym (same_head y (dropping y) s.here)) ∙ ap (λ (z : OpWithPathOf N T A). op_with_path_id z) m.3 ∙ ap (λ (h : HeadOf N T A). h.id) (same_head x (dropping x) m.0.here),
          sym (list_fits (dropping y) s.here) ∙ ap (λ (z : OpWithPathOf N T A). op_fits z.here) m.3 ∙ list_fits (dropping x) m.0.here,
          inl (sym (length-map s.path (left_step y)) ∙ ap (λ (z : OpWithPathOf N T A). length z.path) m.3 ∙ length-map m.0.path (left_step x)),
        ))
    | inr k ↦ (let l = put_form.landed place o u may_shift in
        let w = present_stand (inner.step_in ∷ inner.path) o (op_with_path_id s) (stand_present (l.step_in ∷ l.path) o s k) in
        let e = same_here s k w.0 w.1 w.2 in
        (w.0, within o (inner.step_in ∷ inner.path) w.0 w.1 [] t inner.there, sym w.2, ap op_fits e, inr k))
  ]
    where
      -- two operations of one id inside an operation are equal
      same_here : (s : OpWithPathOf N T A) → In s (stands ((put_form.landed place o u may_shift).step_in ∷ (put_form.landed place o u may_shift).path) o) → (z : OpWithPathOf N T A) → In z (stands (inner.step_in ∷ inner.path) o) → op_with_path_id z ≡ op_with_path_id s → s.here ≡ z.here
      same_here s k z l e =
          let own = own_distinct x t o d found in
          let a = found_in ((put_form.landed place o u may_shift).step_in ∷ (put_form.landed place o u may_shift).path) o own s k in
          let b = found_in (inner.step_in ∷ inner.path) o own z l in
          let c : Some s.here ≡ Some z.here = sym a ∙ ap (λ q. find q o) (sym e) ∙ b in
          cc

  module _ (isolated : N → Bool) where
    pub shift_wellformed : IsValidTree isolated t → operands_visible isolated (put place o (without x t)) ≡ true → fits_around (depth o) (around place.parent t) ≡ true → IsValidTree isolated (put place o (without x t))
    shift_wellformed wellformed seen levels =
        let f = from_wellformed isolated t wellformed in
        let l = put_form.landed place o u may_shift in
        to_wellformed isolated after (record {
          dominated_by_own = all_each (λ (s : OpWithPathOf N T A). list_all (dominated_by isolated s.path) (head s.here).operands) (stands [] after) (sym (stands_operands isolated after) ∙ seen);
          shallow = λ s h. let c = shift_cases s h in elim c.4 [
            | inl k ↦ (let a = f.shallow c.0 c.1 in omega (arith, a, k))
            | inr k ↦ (let a = within_depth isolated (l.step_in ∷ l.path) o s k in
                let b = leb-true (length l.path + 1 + depth o) most_around (sym (ap (fits_around (depth o)) (sym shift_around ∙ put_form.put_around place o u may_shift)) ∙ levels) in
                omega (arith, a, b))
          ];
          count = (let a = no_more (ids after) (ids t) shift_distinct known in let b = f.count in omega (arith, a, b));
          fits = λ s h. let c = shift_cases s h in c.3 ∙ f.fits c.0 c.1;
        })
      where
        known : (y : ℕ) → list_any (λ z. eqb z y) (ids after) ≡ true → list_any (λ z. eqb z y) (ids t) ≡ true
        known y h =
            let s = present_stand [] after y h in
            let c = shift_cases s.0 s.1 in
            subst (λ q. list_any (λ z. eqb z q) (ids t) ≡ true) (sym c.2 ∙ s.2) (stand_present [] t c.0 c.1)

  pub shift_below : (n : ℕ) → ((s : OpWithPathOf N T A) → In s (stands [] t) → op_with_path_id s < n) → (s : OpWithPathOf N T A) → In s (stands [] after) → op_with_path_id s < n
  shift_below n f s h = let c = shift_cases s h in let a = f c.0 c.1 in let e = c.2 in omega (arith, a, e)
