-- The first operation of a block moves before the operation around the block.
use Rattle.std.proofs.Common.{◌≡◌, refl, ap, sym, ◌∙◌, subst, ℕ, ◌+◌, ◌<◌, ◌≤◌, Bool, true, false, true≢false, not, ◌&&◌, ◌||◌, cond, eqb, eq-eqb, eqb-true, List, [], ◌∷◌, ◌++◌, length, map, Option, Some, None, option_map, inl, inr, arith, le-leb, lt-ltb}
use Rattle.std.specs.List.{list_any, list_all}
use Rattle.std.specs.Prelude.{nat_lt}
use Rattle.std.specs.Option.{option_eq}
use Rattle.ir_tree.specs.declared.value.Value.{Value}
use Rattle.ir_tree.specs.declared.value.Value.TheVariants.{Result, Arg}
use Rattle.ir_tree.specs.declared.place.Place.{Place}
use Rattle.ir_tree.specs.Tree.{OpOf, op, RegionsOf, no_regions, region, RegionOf, empty, block, OpsOf, no_ops, next, head}
use Rattle.ir_tree.specs.Ids.{HasDistinctIds, find, has_id}
use Rattle.ir_tree.specs.Uses.{uses_of, operand_uses}
use Rattle.ir_tree.specs.Frames.{owner_of}
use Rattle.ir_tree.specs.Limits.{depth, every, most_around}
use Rattle.ir_tree.specs.Sites.{arguments, shows, results_of, visible, operands_visible}
use Rattle.ir_tree.specs.Places.{put, without, shifted}
use Rattle.ir_tree.specs.WellFormed.{ModuleOf}
use Rattle.ir_tree.proofs.Replaced.{same_value_refl}
use Rattle.ir_tree_laws.specs.Stands.{StepOf, OpWithPathOf, op_with_path_id, stands, regions_stands, region_stands, ops_stands, dominated_by, gone_in, left_stand, left_step, dropping, table_in}
use Rattle.ir_tree_laws.specs.Tables.{table_of}
use Rattle.ir_tree_laws.specs.Members.{In}
use Rattle.ir_tree_laws.specs.Reads.{around, is_within}
use Rattle.ir_tree_laws.specs.Reasons.{fits_around, leads_inside, levels_in, same_table, shift_reason, has_place}
use Rattle.ir_tree_laws.specs.Restores.{MayPut}
use Rattle.ir_tree_laws.proofs.Listed.{bool_cases, in_parts, in_left, in_right, one_any, all_each, each_all, both, both_hold, either, or_left, or_right}
use Rattle.ir_tree_laws.proofs.Readings.{step, stands_every, stands_uses, stands_depth, stands_table}
use Rattle.ir_tree_laws.proofs.Members.{stand, itself, within, same_stand, stand_found, stand_of_member}
use Rattle.ir_tree_laws.proofs.Around.{around_there, present_stand, stand_present, gone_within}
use Rattle.ir_tree_laws.proofs.Without.{left_member, member_left, same_head}
use Rattle.ir_tree_laws.proofs.Wellformed.{from_wellformed, greatest_within}
use Rattle.ir_tree_laws.proofs.HeadForm.{used_here, in_gather}
use Rattle.ir_tree_laws.proofs.DominatedBy.{visible_there, visible_by_cases, stands_operands}
use Rattle.ir_tree_laws.proofs.Values.{seen_by, not_own}
use Rattle.ir_tree_laws.proofs.Edited.{dominance_stays, table_stays}
use Rattle.ir_tree.proofs.Left.{left_distinct}
use Rattle.ir_tree_laws.proofs.PutForm as put_form
use Rattle.ir_tree_laws.proofs.Shift as shift
use Rattle.ir_tree_laws.proofs.ShiftDominance.{shift_dominated_by}
use Rattle.ir_tree_laws.proofs.WellKept.{shift_keeps}
use Rattle.patterns_base.proofs.Preceding.{stands_before}
use Rattle.patterns_base.proofs.Given.{user}
use Rattle.patterns_base.proofs.Placed as placed
use Rattle.patterns_base.proofs.Placed.{Following, before_it}
use Rattle.patterns_base.proofs.Made.{Located}
use Rattle.ir_tree_laws.proofs.Reverted.{passed, same_tables}

pub same_option : (a : Option ℕ) → option_eq eqb a a ≡ true
same_option None = refl
same_option (Some x) = eq-eqb x x refl

module _ {N T A : Type 0} where
  -- an operation inside another is at least as deep
  mutual
    pub deeper : (p : List (StepOf N T A)) (t : OpOf N T A) (s : OpWithPathOf N T A) → In s (stands p t) → length p ≤ length s.path
    deeper p (op h rs) s (inl e) = (let l = ap (λ (z : OpWithPathOf N T A). length z.path) e in omega (arith, l))
    deeper p (op h rs) s (inr k) = regions_deeper (op h rs) p 0 rs s k

    regions_deeper : (o : OpOf N T A) (p : List (StepOf N T A)) (r : ℕ) (rs : RegionsOf N T A) (s : OpWithPathOf N T A) → In s (regions_stands o p r rs) → length p ≤ length s.path
    regions_deeper o p r no_regions s k = absurd k
    regions_deeper o p r (region g rs) s k = elim (in_parts s (region_stands o p r g) (regions_stands o p (r + 1) rs) k) [ inl l ↦ region_deeper o p r g s l | inr l ↦ regions_deeper o p (r + 1) rs s l ]

    region_deeper : (o : OpOf N T A) (p : List (StepOf N T A)) (r : ℕ) (g : RegionOf N T A) (s : OpWithPathOf N T A) → In s (region_stands o p r g) → length p ≤ length s.path
    region_deeper o p r empty s k = absurd k
    region_deeper o p r (block args os) s k = ops_deeper o p r args [] os s k

    ops_deeper : (o : OpOf N T A) (p : List (StepOf N T A)) (r : ℕ) (args : List T) (preceding : List (OpOf N T A)) (os : OpsOf N T A) (s : OpWithPathOf N T A) → In s (ops_stands o p r args preceding os) → length p ≤ length s.path
    ops_deeper o p r args preceding no_ops s k = absurd k
    ops_deeper o p r args preceding (next q os) s k = elim (in_parts s (stands (step o r args preceding os ∷ p) q) (ops_stands o p r args (preceding ++ q ∷ []) os) k) [
      | inl l ↦ (let n = deeper (step o r args preceding os ∷ p) q s l in omega (arith, n))
      | inr l ↦ ops_deeper o p r args (preceding ++ q ∷ []) os s l
    ]

  -- an operation at another position: if the same values dominate it, they dominate the operations inside it
  module _ (isolated : N → Bool) (P : Value → Type 0) where
    abbrev pub DominatedByMore : List (StepOf N T A) → List (StepOf N T A) → Type 0
    DominatedByMore p q = (v : Value) → P v → dominated_by isolated p v ≡ true → dominated_by isolated q v ≡ true

    under : (a : StepOf N T A) (p q : List (StepOf N T A)) → DominatedByMore p q → DominatedByMore (a ∷ p) (a ∷ q)
    under a p q f v h e = elim (either (list_any (λ o. shows v (results_of o)) a.preceding) _ e) [
      | inl k ↦ or_left _ _ k
      | inr k ↦ or_right (list_any (λ o. shows v (results_of o)) a.preceding) _ (elim (either (shows v (arguments (head a.parent).id a.region (length a.args))) _ k) [
        | inl l ↦ or_left _ _ l
        | inr l ↦ (let b = both (not (isolated (head a.parent).name)) (dominated_by isolated p v) l in or_right (shows v (arguments (head a.parent).id a.region (length a.args))) _ (both_hold _ _ b.0 (f v h b.1)))
      ])
    ]

    abbrev pub Was : OpWithPathOf N T A → List (OpWithPathOf N T A) → Type 0
    Was s ss = (z : OpWithPathOf N T A) × In z ss × (z.here ≡ s.here) × DominatedByMore z.path s.path

    wider : (s : OpWithPathOf N T A) (ss us : List (OpWithPathOf N T A)) → ((z : OpWithPathOf N T A) → In z ss → In z us) → Was s ss → Was s us
    wider s ss us f w = (w.0, f w.0 w.1, w.2, w.3)

    mutual
      pub restands : (p q : List (StepOf N T A)) → DominatedByMore p q → (t : OpOf N T A) (s : OpWithPathOf N T A) → In s (stands q t) → Was s (stands p t)
      restands p q f (op h rs) s (inl e) = (stand (op h rs) p, inl refl, ap (λ (z : OpWithPathOf N T A). z.here) (sym e), λ v k l. ap (λ (z : OpWithPathOf N T A). dominated_by isolated z.path v) e ∙ f v k l)
      restands p q f (op h rs) s (inr k) = wider s (regions_stands (op h rs) p 0 rs) (stands p (op h rs)) (λ z l. inr l) (regions_restand (op h rs) p q f 0 rs s k)

      regions_restand : (o : OpOf N T A) (p q : List (StepOf N T A)) → DominatedByMore p q → (r : ℕ) (rs : RegionsOf N T A) (s : OpWithPathOf N T A) → In s (regions_stands o q r rs) → Was s (regions_stands o p r rs)
      regions_restand o p q f r no_regions s k = absurd k
      regions_restand o p q f r (region g rs) s k = elim (in_parts s (region_stands o q r g) (regions_stands o q (r + 1) rs) k) [
        | inl l ↦ wider s (region_stands o p r g) (region_stands o p r g ++ regions_stands o p (r + 1) rs) (λ z m. in_left z (region_stands o p r g) (regions_stands o p (r + 1) rs) m) (region_restand o p q f r g s l)
        | inr l ↦ wider s (regions_stands o p (r + 1) rs) (region_stands o p r g ++ regions_stands o p (r + 1) rs) (λ z m. in_right z (region_stands o p r g) (regions_stands o p (r + 1) rs) m) (regions_restand o p q f (r + 1) rs s l)
      ]

      region_restand : (o : OpOf N T A) (p q : List (StepOf N T A)) → DominatedByMore p q → (r : ℕ) (g : RegionOf N T A) (s : OpWithPathOf N T A) → In s (region_stands o q r g) → Was s (region_stands o p r g)
      region_restand o p q f r empty s k = absurd k
      region_restand o p q f r (block args os) s k = ops_restand o p q f r args [] os s k

      ops_restand : (o : OpOf N T A) (p q : List (StepOf N T A)) → DominatedByMore p q → (r : ℕ) (args : List T) (preceding : List (OpOf N T A)) (os : OpsOf N T A) (s : OpWithPathOf N T A) → In s (ops_stands o q r args preceding os) → Was s (ops_stands o p r args preceding os)
      ops_restand o p q f r args preceding no_ops s k = absurd k
      ops_restand o p q f r args preceding (next u os) s k = elim (in_parts s (stands (step o r args preceding os ∷ q) u) (ops_stands o q r args (preceding ++ u ∷ []) os) k) [
        | inl l ↦ wider s (stands (step o r args preceding os ∷ p) u) (stands (step o r args preceding os ∷ p) u ++ ops_stands o p r args (preceding ++ u ∷ []) os) (λ z m. in_left z (stands (step o r args preceding os ∷ p) u) (ops_stands o p r args (preceding ++ u ∷ []) os) m)
            (restands (step o r args preceding os ∷ p) (step o r args preceding os ∷ q) (under (step o r args preceding os) p q f) u s l)
        | inr l ↦ wider s (ops_stands o p r args (preceding ++ u ∷ []) os) (stands (step o r args preceding os ∷ p) u ++ ops_stands o p r args (preceding ++ u ∷ []) os) (λ z m. in_right z (stands (step o r args preceding os ∷ p) u) (ops_stands o p r args (preceding ++ u ∷ []) os) m)
            (ops_restand o p q f r args (preceding ++ u ∷ []) os s l)
      ]

-- operation y is the first in a block of operation x
module _ {N T A : Type 0} (isolated is_table : N → Bool) (x : ℕ) (insertion : Place) (m : ModuleOf N T A) (s : Located isolated x insertion m) (y : OpOf N T A) (b : StepOf N T A) (there : In (stand y (b ∷ s.at.step_in ∷ s.at.path)) (stands [] m.tree)) (first : b.preceding ≡ []) (around_it : b.parent ≡ s.at.here) where
  abbrev t : OpOf N T A
  t = m.tree

  abbrev d : HasDistinctIds m.tree
  d = s.wellformed.distinct

  abbrev yp : List (StepOf N T A)
  yp = b ∷ s.at.step_in ∷ s.at.path

  abbrev yi : ℕ
  yi = (head y).id

  -- the operations that move with y are at least as deep as y
  goes_deep : (o : OpOf N T A) (p : List (StepOf N T A)) → In (stand o p) (stands [] m.tree) → gone_in (head y).id o p ≡ true → length (b ∷ s.at.step_in ∷ s.at.path) ≤ length p
  goes_deep o p h e =
      let w = gone_within yi t p o h e in
      let same = same_stand t d (stand w.here (w.step_in ∷ w.path)) (stand y yp) w.there there w.id in
      let l = deeper (w.step_in ∷ w.path) w.here (stand o p) w.inner in
      let k = ap (λ (z : OpWithPathOf N T A). length z.path) same in
      omega (arith, l, k)

  stays : (o : OpOf N T A) (p : List (StepOf N T A)) → In (stand o p) (stands [] m.tree) → length p < length (b ∷ s.at.step_in ∷ s.at.path) → gone_in (head y).id o p ≡ false
  stays o p h l = elim (bool_cases (gone_in yi o p)) [ inr k ↦ k | inl k ↦ (let n = goes_deep o p h k in absurd (omega (arith, l, n))) ]

  pub x_stays : gone_in (head y).id s.at.here (s.at.step_in ∷ s.at.path) ≡ false
  x_stays = stays s.at.here (s.at.step_in ∷ s.at.path) s.at.there (omega arith)

  pub y_found : find (head y).id m.tree ≡ Some y
  y_found = stand_found t d (stand y yp) there

  pub y_root : eqb (head m.tree).id (head y).id ≡ false
  y_root = elim (bool_cases (eqb (head t).id yi)) [
    | inr k ↦ k
    | inl k ↦ (let same = same_stand t d (stand t []) (stand y yp) (itself [] t) there (eqb-true (head t).id yi k) in let bad : [] ≡ yp = ap (λ (z : OpWithPathOf N T A). z.path) same in absurd cc)
  ]

  -- neither x nor an operation around it is inside y
  pub not_in : (o : OpOf N T A) (p : List (StepOf N T A)) → In (stand o p) (stands [] m.tree) → length p < length (b ∷ s.at.step_in ∷ s.at.path) → is_within (head o).id (Some y) ≡ false
  not_in o p h l = elim (bool_cases (is_within (head o).id (Some y))) [
    | inr k ↦ k
    | inl k ↦ (let w = present_stand yp y (head o).id k in
        let same = same_stand t d w.0 (stand o p) (within y yp w.0 w.1 [] t there) h w.2 in
        let n = deeper yp y w.0 w.1 in
        let e = ap (λ (z : OpWithPathOf N T A). length z.path) same in
        absurd (omega (arith, l, n, e)))
  ]

  outside : leads_inside insertion (Some y) ≡ false
  outside = ap (λ (p : Place). leads_inside p (Some y)) s.at.place ∙ λ i. not_in s.at.step_in.parent s.at.path (around_there t s.at.here s.at.step_in s.at.path s.at.there).1 (omega arith) i || x_out i
    where
      x_out : is_within x (Some y) ≡ false
      x_out = ap (λ z. is_within z (Some y)) (sym s.at.id) ∙ not_in s.at.here (s.at.step_in ∷ s.at.path) s.at.there (omega arith)

  point : has_place insertion m.tree ≡ true
  point = placed.point x insertion t d s.at

  -- x in the tree without y
  abbrev u : OpOf N T A
  u = without (head y).id m.tree

  pub u_distinct : HasDistinctIds (without (head y).id m.tree)
  u_distinct = left_distinct yi t d

  abbrev pub x_left : Following x insertion (without (head y).id m.tree)
  x_left = record {
    here = (left_stand (head y).id (stand s.at.here (s.at.step_in ∷ s.at.path))).here;
    step_in = left_step (head y).id s.at.step_in;
    path = map (left_step (head y).id) s.at.path;
    there = left_member (head y).id m.tree (stand s.at.here (s.at.step_in ∷ s.at.path)) s.at.there x_stays;
    id = ap (λ h. h.id) (same_head (head y).id (dropping (head y).id) s.at.here) ∙ s.at.id;
    place = s.at.place ∙ λ i. before_it (sym (same_head (head y).id (dropping (head y).id) s.at.step_in.parent) i).id s.at.step_in.region x;
  }

  pub may : MayPut insertion y (without (head y).id m.tree)
  may = shift.may_shift yi insertion t y d y_found y_root point outside

  abbrev after : OpOf N T A
  after = put insertion y (without (head y).id m.tree)

  pub after_is : shifted (head y).id insertion m.tree ≡ put insertion y (without (head y).id m.tree)
  after_is = shift.is_put yi insertion t y d y_found y_root point outside

  after_distinct : HasDistinctIds (put insertion y (without (head y).id m.tree))
  after_distinct = shift.shift_distinct yi insertion t y d y_found y_root point outside

  after_rest : without (head y).id (put insertion y (without (head y).id m.tree)) ≡ without (head y).id m.tree
  after_rest = shift.shift_rest yi insertion t y d y_found y_root point outside

  -- the values that dominated x dominate it without y
  x_dominated_by : (v : Value) → dominated_by isolated (s.at.step_in ∷ s.at.path) v ≡ true → visible isolated (without (head y).id m.tree) x v ≡ true
  x_dominated_by v e =
      dominance_stays yi t d x (ap (λ z. has_id z u) (sym x_left.id) ∙ stand_present [] u (stand x_left.here (x_left.step_in ∷ x_left.path)) x_left.there) isolated v other
      ∙ ap (λ z. visible isolated t z v) (sym s.at.id) ∙ visible_there isolated t d (stand s.at.here (s.at.step_in ∷ s.at.path)) s.at.there v ∙ e
    where
      other : eqb (owner_of v).0 (head y).id ≡ false
      other = elim (bool_cases (eqb (owner_of v).0 yi)) [
        | inr k ↦ k
        | inl k ↦ (let w = seen_by isolated t d (stand s.at.here (s.at.step_in ∷ s.at.path)) s.at.there v e in
            let same = same_stand t d w.owner (stand y yp) w.there there (sym w.id ∙ eqb-true (owner_of v).0 yi k) in
            let l = ap (λ (z : OpWithPathOf N T A). length z.path) same in
            absurd (elim w.nearer [
              | inl n ↦ omega (arith, l, n)
              | inr n ↦ (let f = ap length n.3 in let g = ap length n.4 in omega (arith, l, f, g))
            ]))
      ]

  -- and they dominate y, which was moved before x
  y_dominated_by : (v : Value) → dominated_by isolated (s.at.step_in ∷ s.at.path) v ≡ true → visible isolated (put insertion y (without (head y).id m.tree)) (head y).id v ≡ true
  y_dominated_by v e = placed.new_dominated_by x insertion u u_distinct x_left y may isolated v (x_dominated_by v e)

  x_dominated_by_y : (k : ℕ) → k < length (head y).results → visible isolated (put insertion y (without (head y).id m.tree)) x (Result (head y).id k) ≡ true
  x_dominated_by_y k l = placed.dominated_by_new x insertion u u_distinct x_left y may isolated k (lt-ltb k (length (head y).results) l)

  -- an operation that a result of y dominates isn't inside y
  above : (k : ℕ) (o : OpOf N T A) (c : StepOf N T A) (q : List (StepOf N T A)) → In (stand o (c ∷ q)) (stands [] m.tree) → dominated_by isolated (c ∷ q) (Result (head y).id k) ≡ true
      → (dominated_by isolated q (Result (head y).id k) ≡ true → gone_in (head y).id c.parent q ≡ false) → gone_in (head y).id c.parent q ≡ false
  above k o c q h e later = elim (either (list_any (λ f. shows (Result yi k) (results_of f)) c.preceding) _ e) [
    | inl l ↦ (let w = one_any (λ f. shows (Result yi k) (results_of f)) c.preceding l in
        let g = stands_before t o w.0 c q h w.1 in
        let id = eqb-true yi (head w.0).id (both (eqb yi (head w.0).id) _ w.2).0 in
        let same = same_stand t d (stand w.0 (g.step_in ∷ q)) (stand y yp) g.there there (sym id) in
        let n = ap (λ (z : OpWithPathOf N T A). length z.path) same in
        stays c.parent q (around_there t o c q h).1 (omega (arith, n)))
    | inr l ↦ later (both (not (isolated (head c.parent).name)) (dominated_by isolated q (Result yi k)) l).1
  ]

  users_outside : (k : ℕ) (o : OpOf N T A) (p : List (StepOf N T A)) → In (stand o p) (stands [] m.tree) → dominated_by isolated p (Result (head y).id k) ≡ true → gone_in (head y).id o p ≡ false
  users_outside k o [] h e = absurd (true≢false (sym e))
  users_outside k o (c ∷ q) h e =
      let up = above k o c q h e (λ l. users_outside k c.parent q (around_there t o c q h).1 l) in
      elim (bool_cases (eqb (head o).id yi)) [
        | inl j ↦ absurd (not_own isolated t d (stand o (c ∷ q)) h (Result yi k) e (sym (eqb-true (head o).id yi j)))
        | inr j ↦ (λ i. j i || up i)
      ]

  -- an operation that isn't inside y keeps its parent after the move
  around_after : (o : OpOf N T A) (c : StepOf N T A) (q : List (StepOf N T A)) → In (stand o (c ∷ q)) (stands [] m.tree) → gone_in (head y).id o (c ∷ q) ≡ false → isolated (head c.parent).name ≡ false
      → (v : Value) → visible isolated (put insertion y (without (head y).id m.tree)) (head c.parent).id v ≡ true → visible isolated (put insertion y (without (head y).id m.tree)) (head o).id v ≡ true
  around_after o c q h g i v e =
      let l : In (left_stand yi (stand o (c ∷ q))) (stands [] (without yi after)) = subst (λ z. In (left_stand yi (stand o (c ∷ q))) (stands [] z)) (sym after_rest) (left_member yi t (stand o (c ∷ q)) h g) in
      let w = member_left yi after (left_stand yi (stand o (c ∷ q))) l in
      let id : (head o).id ≡ op_with_path_id w.0 = ap (λ h. h.id) (sym (same_head yi (dropping yi) o)) ∙ ap (λ (z : OpWithPathOf N T A). op_with_path_id z) w.3 ∙ ap (λ h. h.id) (same_head yi (dropping yi) w.0.here) in
      go w.0 w.1 id w.0.path refl (ap (λ (z : OpWithPathOf N T A). z.path) w.3)
    where
      go : (z : OpWithPathOf N T A) → In z (stands [] after) → (head o).id ≡ op_with_path_id z → (p : List (StepOf N T A)) → z.path ≡ p → map (left_step yi) (c ∷ q) ≡ map (left_step yi) z.path → visible isolated after (head o).id v ≡ true
      go z k id [] r f = (let bad : map (left_step yi) (c ∷ q) ≡ [] = f ∙ ap (map (left_step yi)) r in absurd cc)
      go z k id (a ∷ p) r f =
          let two : left_step yi c ∷ map (left_step yi) q ≡ left_step yi a ∷ map (left_step yi) p = f ∙ ap (map (left_step yi)) r in
          let one : left_step yi c ≡ left_step yi a = cc in
          let same : head c.parent ≡ head a.parent = sym (same_head yi (dropping yi) c.parent) ∙ ap (λ (g : StepOf N T A). head g.parent) one ∙ same_head yi (dropping yi) a.parent in
          ap (λ j. visible isolated after j v) id
          ∙ visible_by_cases isolated after after_distinct z k a p r v
          ∙ or_right (list_any (λ o. shows v (results_of o)) a.preceding) _ (or_right (shows v (arguments (head a.parent).id a.region (length a.args))) _
          (both_hold _ _ (ap (λ h. not (isolated h.name)) (sym same) ∙ ap not i) (ap (λ h. visible isolated after h.id v) (sym same) ∙ e)))

  module _ (opened : isolated (head s.at.here).name ≡ false) where
    -- the results of y still dominate the same operations
    still_seen : (k : ℕ) → k < length (head y).results → (o : OpOf N T A) (p : List (StepOf N T A)) → In (stand o p) (stands [] m.tree) → dominated_by isolated p (Result (head y).id k) ≡ true → visible isolated (put insertion y (without (head y).id m.tree)) (head o).id (Result (head y).id k) ≡ true
    still_seen k n o [] h e = absurd (true≢false (sym e))
    still_seen k n o (c ∷ q) h e = elim (either (list_any (λ f. shows (Result yi k) (results_of f)) c.preceding) _ e) [
      | inl l ↦ (let w = one_any (λ f. shows (Result yi k) (results_of f)) c.preceding l in
          let g = stands_before t o w.0 c q h w.1 in
          let id = eqb-true yi (head w.0).id (both (eqb yi (head w.0).id) _ w.2).0 in
          let same = same_stand t d (stand w.0 (g.step_in ∷ q)) (stand y yp) g.there there (sym id) in
          let path : g.step_in ∷ q ≡ yp = ap (λ (z : OpWithPathOf N T A). z.path) same in
          let one : g.step_in ≡ b = cc in
          let up : c.parent ≡ s.at.here = sym g.parent ∙ ap (λ (z : StepOf N T A). z.parent) one ∙ around_it in
          around_after o c q h (users_outside k o (c ∷ q) h e) (ap (λ (z : OpOf N T A). isolated (head z).name) up ∙ opened) (Result yi k)
          (ap (λ (z : OpOf N T A). visible isolated after (head z).id (Result yi k)) up ∙ ap (λ z. visible isolated after z (Result yi k)) s.at.id ∙ x_dominated_by_y k n))
      | inr l ↦ (let r = both (not (isolated (head c.parent).name)) (dominated_by isolated q (Result yi k)) l in
          around_after o c q h (users_outside k o (c ∷ q) h e) (unnot (isolated (head c.parent).name) r.0) (Result yi k) (still_seen k n c.parent q (around_there t o c q h).1 r.1))
    ]
      where
        unnot : (b : Bool) → not b ≡ true → b ≡ false
        unnot false h = refl
        unnot true h = absurd (true≢false (sym h))

    is_visible_to_users : (k : ℕ) → k < length (head y).results → list_all (λ u. visible isolated (put insertion y (without (head y).id m.tree)) u.0 (Result (head y).id k)) (uses_of (Result (head y).id k) m.tree) ≡ true
    is_visible_to_users k n = each_all (λ u. visible isolated after u.0 (Result yi k)) (uses_of (Result yi k) t) (λ u h.
        let z = user (Result yi k) t u h in
        let own = all_each (dominated_by isolated z.0.path) (head z.0.here).operands (all_each (λ (z : OpWithPathOf N T A). list_all (dominated_by isolated z.path) (head z.here).operands) (stands [] t) (sym (stands_operands isolated t) ∙ s.wellformed.wellformed.visible) z.0 z.1) (Result yi k) z.3 in
        ap (λ j. visible isolated after j (Result yi k)) z.2 ∙ still_seen k n z.0.here z.0.path z.1 own)

    -- no argument of the block is used
    module _ (spared : (k : ℕ) → uses_of (Arg x b.region k) m.tree ≡ []) where
      abbrev Other : Value → Type 0
      Other v = shows v (arguments (head b.parent).id b.region (length b.args)) ≡ false

      none_before : (fs : List (OpOf N T A)) → fs ≡ [] → (v : Value) → list_any (λ f. shows v (results_of f)) fs ≡ false
      none_before [] e v = refl
      none_before (f ∷ fs) e v = absurd cc

      -- the values that dominated y, except the block's arguments, dominate it at the new place
      dominated_by_there : (v : Value) → shows v (arguments (head b.parent).id b.region (length b.args)) ≡ false → dominated_by isolated (b ∷ s.at.step_in ∷ s.at.path) v ≡ true → visible isolated (put insertion y (without (head y).id m.tree)) (head y).id v ≡ true
      dominated_by_there v n e = elim (either (list_any (λ f. shows v (results_of f)) b.preceding) _ e) [
        | inl k ↦ absurd (true≢false (sym k ∙ none_before b.preceding first v))
        | inr k ↦ elim (either (shows v (arguments (head b.parent).id b.region (length b.args))) _ k) [
          | inl l ↦ absurd (true≢false (sym l ∙ n))
          | inr l ↦ y_dominated_by v (both (not (isolated (head b.parent).name)) (dominated_by isolated (s.at.step_in ∷ s.at.path) v) l).1
        ]
      ]

      not_argument : (z : OpWithPathOf N T A) → In z (stands [] m.tree) → (v : Value) → In v (head z.here).operands → shows v (arguments (head b.parent).id b.region (length b.args)) ≡ false
      not_argument z h (Result i k) e = refl
      not_argument z h (Arg i r k) e = elim (bool_cases (shows (Arg i r k) (arguments (head b.parent).id b.region (length b.args)))) [
        | inr l ↦ l
        | inl l ↦ absurd (
            let c = both (eqb i (head b.parent).id) (eqb r b.region && nat_lt k (length b.args)) l in
            let own : i ≡ x = eqb-true i (head b.parent).id c.0 ∙ ap (λ (z : OpOf N T A). (head z).id) around_it ∙ s.at.id in
            let re = eqb-true r b.region (both (eqb r b.region) _ c.1).0 in
            let is : Arg i r k ≡ Arg x b.region k = (λ j. Arg (own j) (re j) k) in
            let n = used_here (Arg x b.region k) (op_with_path_id z) 0 (head z.here).operands (Arg x b.region k) (subst (λ w. In w (head z.here).operands) is e) (same_value_refl (Arg x b.region k)) in
            subst (In (op_with_path_id z, n.0)) (stands_uses (Arg x b.region k) [] t ∙ spared k) (in_gather (λ (z : OpWithPathOf N T A). operand_uses (Arg x b.region k) (op_with_path_id z) 0 (head z.here).operands) (op_with_path_id z, n.0) z (stands [] t) h n.1))
      ]

      abbrev yl : List (StepOf N T A)
      yl = (put_form.landed insertion y (without (head y).id m.tree) may).step_in ∷ (put_form.landed insertion y (without (head y).id m.tree) may).path

      abbrev y_there : In (stand y yl) (stands [] (put insertion y (without (head y).id m.tree)))
      y_there = (put_form.landed insertion y (without (head y).id m.tree) may).there

      inside_dominated_by : every (λ q. list_all (visible isolated (put insertion y (without (head y).id m.tree)) (head q).id) (head q).operands) y ≡ true
      inside_dominated_by =
          sym (stands_every (λ q. list_all (visible isolated after (head q).id) (head q).operands) yl y)
          ∙ each_all (λ (z : OpWithPathOf N T A). list_all (visible isolated after (head z.here).id) (head z.here).operands) (stands yl y) (λ z h.
          let w = restands isolated Other yp yl (λ v n e. sym (visible_there isolated after after_distinct (stand y yl) y_there v) ∙ dominated_by_there v n e) y z h in
          let was = within y yp w.0 w.1 [] t there in
          each_all (visible isolated after (head z.here).id) (head z.here).operands (λ v i.
          let j : In v (head w.0.here).operands = subst (λ (q : OpOf N T A). In v (head q).operands) (sym w.2) i in
          visible_there isolated after after_distinct z (within y yl z h [] after y_there) v
          ∙ w.3 v (not_argument w.0 was v j) (all_each (dominated_by isolated w.0.path) (head w.0.here).operands (all_each (λ (z : OpWithPathOf N T A). list_all (dominated_by isolated z.path) (head z.here).operands) (stands [] t) (sym (stands_operands isolated t) ∙ s.wellformed.wellformed.visible) w.0 was) v j)))

      all_see : operands_visible isolated (shifted (head y).id insertion m.tree) ≡ true
      all_see = shift_dominated_by isolated yi insertion t y d y_found y_root point outside s.wellformed.wellformed.visible
          (subst (λ z. every (λ q. list_all (visible isolated z (head q).id) (head q).operands) y ≡ true) (sym after_is) inside_dominated_by)
          (λ k n. subst (λ z. list_all (λ u. visible isolated z u.0 (Result yi k)) (uses_of (Result yi k) t) ≡ true) (sym after_is) (is_visible_to_users k n))

      -- its depth
      levels : fits_around (depth y) (around insertion.parent m.tree) ≡ true
      levels =
          ap (fits_around (depth y)) (placed.around_is x insertion t d s.at)
          ∙ le-leb (length s.at.path + 1 + depth y) most_around (
          let g = greatest_within (λ (z : OpWithPathOf N T A). length z.path) most_around (stands yp y) (λ z h. (from_wellformed isolated t s.wellformed.wellformed).shallow z (within y yp z h [] t there)) in
          let e = stands_depth yp y in
          omega (arith, g, e))

      module _ (simple : is_table (head s.at.here).name ≡ false) where
        table_was : table_of is_table (head y).id m.tree ≡ Some (table_in is_table (s.at.step_in ∷ s.at.path))
        table_was =
            sym (stands_table is_table yi [] t) ∙ ap (option_map (λ (z : OpWithPathOf N T A). table_in is_table z.path)) (stand_of_member t d (stand y yp) there)
            ∙ ap (λ c. Some (cond c (Some (head b.parent).id) (table_in is_table (s.at.step_in ∷ s.at.path)))) (ap (λ (z : OpOf N T A). is_table (head z).name) around_it ∙ simple)

        table_of_x : Some (table_in is_table (s.at.step_in ∷ s.at.path)) ≡ table_of is_table x (put insertion y (without (head y).id m.tree))
        table_of_x =
            sym (ap (λ z. table_of is_table z t) (sym s.at.id) ∙ sym (stands_table is_table (head s.at.here).id [] t) ∙ ap (option_map (λ (z : OpWithPathOf N T A). table_in is_table z.path)) (stand_of_member t d (stand s.at.here (s.at.step_in ∷ s.at.path)) s.at.there))
            ∙ sym (table_stays yi t d x x_in is_table)
            ∙ ap (table_of is_table x) (sym after_rest)
            ∙ table_stays yi after after_distinct x (ap (has_id x) after_rest ∙ x_in) is_table
          where
            x_in : has_id x (without (head y).id m.tree) ≡ true
            x_in = ap (λ z. has_id z u) (sym x_left.id) ∙ stand_present [] u (stand x_left.here (x_left.step_in ∷ x_left.path)) x_left.there

        table_is : table_of is_table x (put insertion y (without (head y).id m.tree)) ≡ table_of is_table (head y).id (put insertion y (without (head y).id m.tree))
        table_is = placed.table_next_to x insertion (without (head y).id m.tree) u_distinct x_left y may is_table

        -- the move isn't refused
        pub move_free : shift_reason isolated is_table (head y).id insertion m.tree ≡ None
        move_free =
            passed _ _ _ (both_hold _ _ (stand_present [] t (stand y yp) there) (placed.parent_is x insertion t d s.at))
            (passed _ _ _ (ap not y_root)
            (passed _ _ _ point
            (passed _ _ _ (ap not (ap (leads_inside insertion) y_found ∙ outside))
            (passed _ _ _ (same_tables _ _ (table_was ∙ table_of_x ∙ table_is ∙ ap (table_of is_table yi) (sym after_is)))
            (passed _ _ _ (ap (λ o. fits_around (levels_in o) (around insertion.parent t)) y_found ∙ levels)
            (passed _ _ _ all_see refl))))))

        -- x still comes after the place
        abbrev pub move_located : Located isolated x insertion (record m { tree = shifted (head y).id insertion m.tree })
        move_located = record {
          wellformed = shift_keeps isolated is_table (head y).id insertion m s.wellformed move_free;
          at = subst (Following x insertion) (sym after_is) (placed.after_still x insertion (without (head y).id m.tree) u_distinct x_left y may);
        }

        -- the values that dominated x, and the results of the moved operation, dominate x
        pub move_dominated_by : (v : Value) → visible isolated m.tree x v ≡ true → visible isolated (shifted (head y).id insertion m.tree) x v ≡ true
        move_dominated_by v e =
            ap (λ z. visible isolated z x v) after_is
            ∙ placed.dominated_by_still x insertion u u_distinct x_left y may isolated v (x_dominated_by v (sym (ap (λ z. visible isolated t z v) (sym s.at.id) ∙ visible_there isolated t d (stand s.at.here (s.at.step_in ∷ s.at.path)) s.at.there v) ∙ e))

        pub move_dominated_by_new : (k : ℕ) → k < length (head y).results → visible isolated (shifted (head y).id insertion m.tree) x (Result (head y).id k) ≡ true
        move_dominated_by_new k n = ap (λ z. visible isolated z x (Result (head y).id k)) after_is ∙ x_dominated_by_y k n
