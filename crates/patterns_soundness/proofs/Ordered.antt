-- The order of operations in a block, and of blocks, after operations are inserted, taken out and moved.
use Rattle.std.proofs.Common.{◌≡◌, refl, ap, sym, ◌∙◌, subst, ℕ, ◌+◌, ◌<◌, ◌≤◌, Bool, true, false, true≢false, not, ◌&&◌, ◌||◌, cond, eqb, eq-eqb, eqb-true, List, [], ◌∷◌, ◌++◌, length, map, filter, Option, Some, None, option_map, inl, inr, arith}
use Rattle.std.specs.List.{list_any}
use Rattle.std.specs.Prelude.{nat_lt}
use Rattle.ir_event.specs.trees.declared.value.Value.{Value}
use Rattle.ir_event.specs.trees.declared.value.Value.TheVariants.{Result, Arg}
use Rattle.ir_event.specs.trees.declared.place.Place.{Place}
use Rattle.ir_event.specs.trees.Tree.{HeadOf, OpOf, op, RegionOf, block, OpsOf, no_ops, next, head, regions}
use Rattle.ir_event.specs.trees.Ids.{HasDistinctIds, find, has_id}
use Rattle.ir_event.specs.trees.Edits.{each_head}
use Rattle.ir_event.specs.trees.Frames.{owner_of}
use Rattle.ir_event.specs.trees.Sites.{arguments, shows, results_of, visible}
use Rattle.ir_event.specs.trees.Places.{each_list, first_id, put, without}
use Rattle.ir_event.proofs.of_trees.Moves.{unput, untouched}
use Rattle.ir_event.specs.tree_laws.Stands.{StepOf, OpWithPathOf, edit_stand, edit_step, op_with_path_id, stands, ops_stands, dominated_by, gone_in, is_gone, left_stand, left_step, dropping, table_in}
use Rattle.ir_event.specs.tree_laws.Tables.{table_of}
use Rattle.ir_event.specs.tree_laws.Members.{In}
use Rattle.ir_event.specs.tree_laws.Reads.{around}
use Rattle.ir_event.specs.tree_laws.Restores.{MayPut}
use Rattle.ir_event.specs.tree_laws.Values.{region_at}
use Rattle.ir_event.proofs.of_tree_laws.Listed.{any_one, bool_cases, both, both_hold, either, in_filter, in_filtered, in_left, in_map, in_mapped, in_parts, in_right, one_any, or_left, or_right}
use Rattle.ir_event.proofs.of_tree_laws.Readings.{stands_table, step}
use Rattle.ir_event.proofs.of_tree_laws.Members.{found_stands, joined_ops, ops_child, same_stand, stand, stand_found, stand_of_member, within}
use Rattle.ir_event.proofs.of_tree_laws.Around.{around_there, gone_within, present_stand, stand_present, stands_around}
use Rattle.ir_event.proofs.of_tree_laws.Heads.{Alike, each_id, each_stands}
use Rattle.ir_event.proofs.of_tree_laws.Put.{Landed, child}
use Rattle.ir_event.proofs.of_tree_laws.PutForm as put_form
use Rattle.ir_event.proofs.of_tree_laws.DominatedBy.{visible_there}
use Rattle.ir_event.proofs.of_tree_laws.Values.{shaped_as}
use Rattle.ir_event.proofs.of_tree_laws.Without.{left_member, member_left, same_head}
use Rattle.patterns_base.proofs.Preceding.{stands_before}

module _ {N T A : Type 0} where
  -- operation a comes before operation b in its block
  pub record Before (a b : ℕ) (t : OpOf N T A) : Type 0 where
    pub here : OpOf N T A
    pub step_in : StepOf N T A
    pub path : List (StepOf N T A)
    pub there : In (stand here (step_in ∷ path)) (stands [] t)
    pub id : (head here).id ≡ b
    pub first : OpOf N T A
    pub among : In first step_in.preceding
    pub is : (head first).id ≡ a

  -- operation b is in the block of region r of operation p
  pub record Inside (p r b : ℕ) (t : OpOf N T A) : Type 0 where
    pub here : OpOf N T A
    pub step_in : StepOf N T A
    pub path : List (StepOf N T A)
    pub there : In (stand here (step_in ∷ path)) (stands [] t)
    pub id : (head here).id ≡ b
    pub parent : (head step_in.parent).id ≡ p
    pub region : step_in.region ≡ r

  -- the remaining tree after z is taken out
  pub left_gone : (z : ℕ) (t : OpOf N T A) → HasDistinctIds t → (s : OpWithPathOf N T A) → In s (stands [] t) → has_id (op_with_path_id s) (without z t) ≡ true → is_gone z s ≡ false
  left_gone z t d s h e =
      let u = present_stand [] (without z t) (op_with_path_id s) e in
      let m = member_left z t u.0 u.1 in
      let id : op_with_path_id m.0 ≡ op_with_path_id s = ap (λ (y : HeadOf N T A). y.id) (sym (same_head z (dropping z) m.0.here)) ∙ ap (λ (y : OpWithPathOf N T A). op_with_path_id y) (sym m.3) ∙ u.2 in
      ap (is_gone z) (sym (same_stand t d m.0 s m.1 h id)) ∙ m.2

  -- the operations that aren't inside z
  pub there_left : (t z : OpOf N T A) → HasDistinctIds t → find (head z).id t ≡ Some z → (b : ℕ) → has_id b t ≡ true → has_id b z ≡ false → has_id b (without (head z).id t) ≡ true
  there_left t z d found b h out =
      let s = present_stand [] t b h in
      elim (bool_cases (is_gone (head z).id s.0)) [
        | inr k ↦ ap (λ i. has_id i (without (head z).id t)) (sym (ap (λ (y : HeadOf N T A). y.id) (same_head (head z).id (dropping (head z).id) s.0.here) ∙ s.2)) ∙ stand_present [] (without (head z).id t) (left_stand (head z).id s.0) (left_member (head z).id t s.0 s.1 k)
        | inl k ↦ (let w = gone_within (head z).id t s.0.path s.0.here s.1 k in
            let one : Some w.here ≡ Some z = sym (ap (λ i. find i t) (sym w.id) ∙ stand_found t d (stand w.here (w.step_in ∷ w.path)) w.there) ∙ found in
            let is : w.here ≡ z = cc in
            absurd (true≢false (sym (ap (λ q. has_id b q) (sym is) ∙ ap (λ i. has_id i w.here) (sym s.2) ∙ stand_present (w.step_in ∷ w.path) w.here s.0 w.inner) ∙ out)))
      ]

  -- after another operation is taken out
  pub before_left : (z a b : ℕ) (t : OpOf N T A) → HasDistinctIds t → has_id b (without z t) ≡ true → eqb a z ≡ false → Before a b t → Before a b (without z t)
  before_left z a b t d h apart e =
      let gone = left_gone z t d (stand e.here (e.step_in ∷ e.path)) e.there (ap (λ i. has_id i (without z t)) e.id ∙ h) in
      let same : (head (each_list (dropping z) e.first)).id ≡ a = ap (λ (y : HeadOf N T A). y.id) (same_head z (dropping z) e.first) ∙ e.is in
      record {
        here = each_list (dropping z) e.here;
        step_in = left_step z e.step_in;
        path = map (left_step z) e.path;
        there = left_member z t (stand e.here (e.step_in ∷ e.path)) e.there gone;
        id = ap (λ (y : HeadOf N T A). y.id) (same_head z (dropping z) e.here) ∙ e.id;
        first = each_list (dropping z) e.first;
        among = in_filter (λ (o : OpOf N T A). not (eqb (head o).id z)) (each_list (dropping z) e.first) (map (each_list (dropping z)) e.step_in.preceding) (ap (λ i. not (eqb i z)) same ∙ ap not apart) (in_map (each_list (dropping z)) e.first e.step_in.preceding e.among);
        is = same;
      }

  pub inside_left : (z p r b : ℕ) (t : OpOf N T A) → HasDistinctIds t → has_id b (without z t) ≡ true → Inside p r b t → Inside p r b (without z t)
  inside_left z p r b t d h e =
      let gone = left_gone z t d (stand e.here (e.step_in ∷ e.path)) e.there (ap (λ i. has_id i (without z t)) e.id ∙ h) in
      record {
        here = each_list (dropping z) e.here;
        step_in = left_step z e.step_in;
        path = map (left_step z) e.path;
        there = left_member z t (stand e.here (e.step_in ∷ e.path)) e.there gone;
        id = ap (λ (y : HeadOf N T A). y.id) (same_head z (dropping z) e.here) ∙ e.id;
        parent = ap (λ (y : HeadOf N T A). y.id) (same_head z (dropping z) e.step_in.parent) ∙ e.parent;
        region = e.region;
      }

  -- its position before another operation was taken out
  record Was (z : ℕ) (here : OpOf N T A) (step_in : StepOf N T A) (path : List (StepOf N T A)) (t : OpOf N T A) : Type 0 where
    it : OpOf N T A
    old_step : StepOf N T A
    old_path : List (StepOf N T A)
    there : In (stand it (old_step ∷ old_path)) (stands [] t)
    same : here ≡ each_list (dropping z) it
    step_is : step_in ≡ left_step z old_step

  was : (z : ℕ) (here : OpOf N T A) (step_in : StepOf N T A) (path : List (StepOf N T A)) (t : OpOf N T A) → In (stand here (step_in ∷ path)) (stands [] (without z t)) → Was z here step_in path t
  was z here step_in path t h = (let m = member_left z t (stand here (step_in ∷ path)) h in go m.0 m.1 m.3 m.0.path refl)
    where
      go : (s : OpWithPathOf N T A) → In s (stands [] t) → stand here (step_in ∷ path) ≡ left_stand z s → (p : List (StepOf N T A)) → s.path ≡ p → Was z here step_in path t
      go s m e [] q = (let bad : step_in ∷ path ≡ [] = ap (λ (y : OpWithPathOf N T A). y.path) e ∙ ap (map (left_step z)) q in absurd cc)
      go s m e (a ∷ p) q =
          let both_steps : step_in ∷ path ≡ left_step z a ∷ map (left_step z) p = ap (λ (y : OpWithPathOf N T A). y.path) e ∙ ap (map (left_step z)) q in
          record { it = s.here; old_step = a; old_path = p; there = subst (λ l. In (stand s.here l) (stands [] t)) q m; same = ap (λ (y : OpWithPathOf N T A). y.here) e; step_is = cc }

  pub before_back : (z a b : ℕ) (t : OpOf N T A) → Before a b (without z t) → Before a b t
  before_back z a b t e =
      let w = was z e.here e.step_in e.path t e.there in
      let f = in_filtered (λ (o : OpOf N T A). not (eqb (head o).id z)) e.first (map (each_list (dropping z)) w.old_step.preceding) (subst (λ (s : StepOf N T A). In e.first s.preceding) w.step_is e.among) in
      let g = in_mapped (each_list (dropping z)) e.first w.old_step.preceding f.0 in
      record {
        here = w.it;
        step_in = w.old_step;
        path = w.old_path;
        there = w.there;
        id = ap (λ (y : HeadOf N T A). y.id) (sym (same_head z (dropping z) w.it)) ∙ ap (λ (o : OpOf N T A). (head o).id) (sym w.same) ∙ e.id;
        first = g.0;
        among = g.1;
        is = ap (λ (y : HeadOf N T A). y.id) (sym (same_head z (dropping z) g.0)) ∙ ap (λ (o : OpOf N T A). (head o).id) (sym g.2) ∙ e.is;
      }

  pub inside_back : (z p r b : ℕ) (t : OpOf N T A) → Inside p r b (without z t) → Inside p r b t
  inside_back z p r b t e =
      let w = was z e.here e.step_in e.path t e.there in
      record {
        here = w.it;
        step_in = w.old_step;
        path = w.old_path;
        there = w.there;
        id = ap (λ (y : HeadOf N T A). y.id) (sym (same_head z (dropping z) w.it)) ∙ ap (λ (o : OpOf N T A). (head o).id) (sym w.same) ∙ e.id;
        parent = ap (λ (y : HeadOf N T A). y.id) (sym (same_head z (dropping z) w.old_step.parent)) ∙ ap (λ (s : StepOf N T A). (head s.parent).id) (sym w.step_is) ∙ e.parent;
        region = ap (λ (s : StepOf N T A). s.region) (sym w.step_is) ∙ e.region;
      }

  -- if heads are edited
  module _ (f : HeadOf N T A → HeadOf N T A) (alike : (h : HeadOf N T A) → Alike (f h) h) (t : OpOf N T A) where
    pub before_headed : (a b : ℕ) → Before a b t → Before a b (each_head f t)
    before_headed a b e = record {
      here = each_head f e.here;
      step_in = edit_step f e.step_in;
      path = map (edit_step f) e.path;
      there = subst (In (edit_stand f (stand e.here (e.step_in ∷ e.path)))) (sym (each_stands f [] t)) (in_map (edit_stand f) (stand e.here (e.step_in ∷ e.path)) (stands [] t) e.there);
      id = each_id f alike e.here ∙ e.id;
      first = each_head f e.first;
      among = in_map (each_head f) e.first e.step_in.preceding e.among;
      is = each_id f alike e.first ∙ e.is;
    }

    pub inside_headed : (p r b : ℕ) → Inside p r b t → Inside p r b (each_head f t)
    inside_headed p r b e = record {
      here = each_head f e.here;
      step_in = edit_step f e.step_in;
      path = map (edit_step f) e.path;
      there = subst (In (edit_stand f (stand e.here (e.step_in ∷ e.path)))) (sym (each_stands f [] t)) (in_map (edit_stand f) (stand e.here (e.step_in ∷ e.path)) (stands [] t) e.there);
      id = each_id f alike e.here ∙ e.id;
      parent = each_id f alike e.step_in.parent ∙ e.parent;
      region = e.region;
    }

  -- before is transitive
  pub before_both : (a b c : ℕ) (t : OpOf N T A) → HasDistinctIds t → Before a b t → Before b c t → Before a c t
  before_both a b c t d e f =
      let g = stands_before t f.here f.first f.step_in f.path f.there f.among in
      let same = same_stand t d (stand e.here (e.step_in ∷ e.path)) (stand f.first (g.step_in ∷ f.path)) e.there g.there (e.id ∙ sym f.is) in
      let paths : e.step_in ∷ e.path ≡ g.step_in ∷ f.path = ap (λ (z : OpWithPathOf N T A). z.path) same in
      let steps : e.step_in ≡ g.step_in = cc in
      record {
        here = f.here;
        step_in = f.step_in;
        path = f.path;
        there = f.there;
        id = f.id;
        first = e.first;
        among = subst (λ l. In e.first l) (sym g.preceding) (in_left e.first g.step_in.preceding (f.first ∷ g.intermediate) (subst (λ (s : StepOf N T A). In e.first s.preceding) steps e.among));
        is = e.is;
      }

  module _ (isolated : N → Bool) (t : OpOf N T A) (d : HasDistinctIds t) where
    seen_later : (v : Value) (a b : StepOf N T A) (q : List (StepOf N T A)) (vs : List (OpOf N T A)) (f : OpOf N T A) → b.parent ≡ a.parent → b.region ≡ a.region → b.args ≡ a.args → a.preceding ≡ b.preceding ++ f ∷ vs → dominated_by isolated (b ∷ q) v ≡ true → dominated_by isolated (a ∷ q) v ≡ true
    seen_later v a b q vs f x y z l e =
        elim (either (list_any (λ f. shows v (results_of f)) b.preceding) _ e) [
          | inl m ↦ or_left _ _ (ap (list_any (λ f. shows v (results_of f))) l ∙ more b.preceding vs f m)
          | inr m ↦ or_right (list_any (λ f. shows v (results_of f)) a.preceding) _ ((λ i. shows v (arguments (head (sym x i)).id (sym y i) (length (sym z i))) || (not (isolated (head (sym x i)).name) && dominated_by isolated q v)) ∙ m)
        ]
      where
        more : (us vs : List (OpOf N T A)) (f : OpOf N T A) → list_any (λ f. shows v (results_of f)) us ≡ true → list_any (λ f. shows v (results_of f)) (us ++ f ∷ vs) ≡ true
        more us vs f e = let w = one_any (λ f. shows v (results_of f)) us e in any_one (λ f. shows v (results_of f)) (us ++ f ∷ vs) w.0 (in_left w.0 us (f ∷ vs) w.1) w.2

    -- the values that dominate the earlier operation dominate the later one
    pub later_dominated_by : (a b : ℕ) → Before a b t → (v : Value) → visible isolated t a v ≡ true → visible isolated t b v ≡ true
    later_dominated_by a b e v s =
        let g = stands_before t e.here e.first e.step_in e.path e.there e.among in
        ap (λ i. visible isolated t i v) (sym e.id) ∙ visible_there isolated t d (stand e.here (e.step_in ∷ e.path)) e.there v
        ∙ seen_later v e.step_in g.step_in e.path g.intermediate e.first g.parent g.region g.args g.preceding (sym (visible_there isolated t d (stand e.first (g.step_in ∷ e.path)) g.there v) ∙ ap (λ i. visible isolated t i v) e.is ∙ s)

    -- and so do the results of the earlier one
    pub later_shows : (a b : ℕ) → Before a b t → (o : OpOf N T A) → find a t ≡ Some o → (k : ℕ) → nat_lt k (length (head o).results) ≡ true → visible isolated t b (Result a k) ≡ true
    later_shows a b e o found k l =
        let g = stands_before t e.here e.first e.step_in e.path e.there e.among in
        let one : Some e.first ≡ Some o = sym (ap (λ i. find i t) (sym e.is) ∙ stand_found t d (stand e.first (g.step_in ∷ e.path)) g.there) ∙ found in
        let is : e.first ≡ o = cc in
        ap (λ i. visible isolated t i (Result a k)) (sym e.id) ∙ visible_there isolated t d (stand e.here (e.step_in ∷ e.path)) e.there (Result a k)
        ∙ or_left _ _ (any_one (λ f. shows (Result a k) (results_of f)) e.step_in.preceding e.first e.among (both_hold _ _ (eq-eqb a (head e.first).id (sym e.is)) (ap (λ (z : OpOf N T A). nat_lt k (length (head z).results)) is ∙ l)))

    -- the values that dominate an operation dominate the operations inside it
    module _ (p r b : ℕ) (e : Inside p r b t) (o : OpOf N T A) (found : find p t ≡ Some o) where
      up : In (stand e.step_in.parent e.path) (stands [] t)
      up = (around_there t e.here e.step_in e.path e.there).1

      pub parent_is : e.step_in.parent ≡ o
      parent_is = (let one : Some e.step_in.parent ≡ Some o = sym (ap (λ i. find i t) (sym e.parent) ∙ stand_found t d (stand e.step_in.parent e.path) up) ∙ found in cc)

      pub inner_dominated_by : isolated (head o).name ≡ false → (v : Value) → visible isolated t p v ≡ true → visible isolated t b v ≡ true
      inner_dominated_by opened v s =
          ap (λ i. visible isolated t i v) (sym e.id) ∙ visible_there isolated t d (stand e.here (e.step_in ∷ e.path)) e.there v
          ∙ or_right (list_any (λ f. shows v (results_of f)) e.step_in.preceding) _ (or_right (shows v (arguments (head e.step_in.parent).id e.step_in.region (length e.step_in.args))) _
          (both_hold _ _ (ap (λ (z : OpOf N T A). not (isolated (head z).name)) parent_is ∙ ap not opened)
          (sym (visible_there isolated t d (stand e.step_in.parent e.path) up v) ∙ ap (λ i. visible isolated t i v) e.parent ∙ s)))

      pub inner_shows : (args : List T) (os : OpsOf N T A) → region_at r (regions o) ≡ Some (block args os) → (k : ℕ) → nat_lt k (length args) ≡ true → visible isolated t b (Arg p r k) ≡ true
      inner_shows args os is k l =
          let one : Some (block e.step_in.args (joined_ops e.step_in.preceding (next e.here e.step_in.rest))) ≡ Some (block args os) = sym (shaped_as t e.here e.step_in e.path e.there) ∙ (λ i. region_at (e.region i) (regions (parent_is i))) ∙ is in
          let same : e.step_in.args ≡ args = cc in
          ap (λ i. visible isolated t i (Arg p r k)) (sym e.id) ∙ visible_there isolated t d (stand e.here (e.step_in ∷ e.path)) e.there (Arg p r k)
          ∙ or_right (list_any (λ f. shows (Arg p r k) (results_of f)) e.step_in.preceding) _ (or_left _ _
          (both_hold _ _ (eq-eqb p (head e.step_in.parent).id (sym e.parent)) (both_hold _ _ (eq-eqb r e.step_in.region (sym e.region)) (ap (λ (z : List T). nat_lt k (length z)) same ∙ l))))

  -- its symbol tables and its depth
  module _ (is_table : N → Bool) (t : OpOf N T A) (d : HasDistinctIds t) where
    table_at : (s : OpWithPathOf N T A) → In s (stands [] t) → table_of is_table (op_with_path_id s) t ≡ Some (table_in is_table s.path)
    table_at s h = sym (stands_table is_table (op_with_path_id s) [] t) ∙ ap (option_map (λ (z : OpWithPathOf N T A). table_in is_table z.path)) (stand_of_member t d s h)

    pub later_table : (a b : ℕ) → Before a b t → table_of is_table a t ≡ table_of is_table b t
    later_table a b e =
        let g = stands_before t e.here e.first e.step_in e.path e.there e.among in
        ap (λ i. table_of is_table i t) (sym e.is) ∙ table_at (stand e.first (g.step_in ∷ e.path)) g.there
        ∙ ap (λ (z : OpOf N T A). Some (cond (is_table (head z).name) (Some (head z).id) (table_in is_table e.path))) g.parent
        ∙ sym (ap (λ i. table_of is_table i t) (sym e.id) ∙ table_at (stand e.here (e.step_in ∷ e.path)) e.there)

    pub inner_table : (p r b : ℕ) (e : Inside p r b t) (o : OpOf N T A) → find p t ≡ Some o → is_table (head o).name ≡ false → table_of is_table b t ≡ table_of is_table p t
    inner_table p r b e o found simple =
        let up = (around_there t e.here e.step_in e.path e.there).1 in
        let one : Some e.step_in.parent ≡ Some o = sym (ap (λ i. find i t) (sym e.parent) ∙ stand_found t d (stand e.step_in.parent e.path) up) ∙ found in
        let is : e.step_in.parent ≡ o = cc in
        ap (λ i. table_of is_table i t) (sym e.id) ∙ table_at (stand e.here (e.step_in ∷ e.path)) e.there
        ∙ ap (λ b. Some (cond b (Some (head e.step_in.parent).id) (table_in is_table e.path))) (ap (λ (z : OpOf N T A). is_table (head z).name) is ∙ simple)
        ∙ sym (ap (λ i. table_of is_table i t) (sym e.parent) ∙ table_at (stand e.step_in.parent e.path) up)

  module _ (t : OpOf N T A) (d : HasDistinctIds t) where
    pub around_at : (s : OpWithPathOf N T A) → In s (stands [] t) → around (op_with_path_id s) t ≡ Some (length s.path)
    around_at s h = sym (stands_around (op_with_path_id s) [] t) ∙ ap (option_map (λ (z : OpWithPathOf N T A). length z.path)) (stand_of_member t d s h)

    pub later_around : (a b : ℕ) → Before a b t → around a t ≡ around b t
    later_around a b e =
        let g = stands_before t e.here e.first e.step_in e.path e.there e.among in
        ap (λ i. around i t) (sym e.is) ∙ around_at (stand e.first (g.step_in ∷ e.path)) g.there ∙ sym (ap (λ i. around i t) (sym e.id) ∙ around_at (stand e.here (e.step_in ∷ e.path)) e.there)

  -- an operation is inserted directly before another, at the end of a block, and in a block
  module _ (place : Place) (o t : OpOf N T A) (may : MayPut place o t) where
    abbrev l : Landed place o (put place o t)
    l = put_form.landed place o t may

    abbrev after : OpOf N T A
    after = put place o t

    pub put_inside : (p r : ℕ) → place.parent ≡ p → place.region ≡ r → Inside p r (head o).id (put place o t)
    put_inside p r e f = record { here = o; step_in = l.step_in; path = l.path; there = l.there; id = refl; parent = l.parent ∙ e; region = l.region ∙ f }

    joined_more : (preceding : List (OpOf N T A)) (o : OpOf N T A) (os : OpsOf N T A) → joined_ops (preceding ++ o ∷ []) os ≡ joined_ops preceding (next o os)
    joined_more [] o os = refl
    joined_more (f ∷ fs) o os = ap (next f) (joined_more fs o os)

    pub put_before : (b : ℕ) → place.before ≡ Some b → Before (head o).id b (put place o t)
    put_before b e = go l.step_in.rest refl (l.before ∙ e)
      where
        go : (os : OpsOf N T A) → l.step_in.rest ≡ os → first_id os ≡ Some b → Before (head o).id b (put place o t)
        go no_ops f g = (let bad : None ≡ Some b = g in absurd cc)
        go (next q os) f g =
            let id : (head q).id ≡ b = cc in
            let new = step l.step_in.parent l.step_in.region l.step_in.args (l.step_in.preceding ++ o ∷ []) os in
            let list : joined_ops l.step_in.preceding (next o l.step_in.rest) ≡ joined_ops (l.step_in.preceding ++ o ∷ []) (next q os) = ap (λ z. joined_ops l.step_in.preceding (next o z)) f ∙ sym (joined_more l.step_in.preceding o (next q os)) in
            record {
              here = q;
              step_in = new;
              path = l.path;
              there = within l.step_in.parent l.path (stand q (new ∷ l.path)) (child l.step_in.parent l.path l.step_in.region l.step_in.args (joined_ops l.step_in.preceding (next o l.step_in.rest)) (stand q (new ∷ l.path)) (shaped_as after o l.step_in l.path l.there)
                  (subst (λ z. In (stand q (new ∷ l.path)) (ops_stands l.step_in.parent l.path l.step_in.region l.step_in.args [] z)) (sym list) (ops_child l.step_in.parent l.path l.step_in.region l.step_in.args [] (l.step_in.preceding ++ o ∷ []) q os))) [] after l.around;
              id = id;
              first = o;
              among = in_right o l.step_in.preceding (o ∷ []) (inl refl);
              is = refl;
            }

    abbrev listed : OpsOf N T A → List (OpOf N T A)
    listed no_ops = []
    listed (next q os) = q ∷ listed os

    listed_joined : (fs : List (OpOf N T A)) (os : OpsOf N T A) → listed (joined_ops fs os) ≡ fs ++ listed os
    listed_joined [] os = refl
    listed_joined (f ∷ fs) os = ap (λ z. f ∷ z) (listed_joined fs os)

    pub put_last : place.before ≡ None → (c : ℕ) → Inside place.parent place.region c (put place o t) → eqb c (head o).id ≡ false → Before c (head o).id (put place o t)
    put_last e c i apart = go l.step_in.rest refl (l.before ∙ e)
      where
        distinct : HasDistinctIds (put place o t)
        distinct = put_form.put_distinct place o t may

        same : stand i.step_in.parent i.path ≡ stand l.step_in.parent l.path
        same = same_stand after distinct (stand i.step_in.parent i.path) (stand l.step_in.parent l.path) (around_there after i.here i.step_in i.path i.there).1 l.around (i.parent ∙ sym l.parent)

        go : (os : OpsOf N T A) → l.step_in.rest ≡ os → first_id os ≡ None → Before c (head o).id (put place o t)
        go (next q os) f g = absurd cc
        go no_ops f g =
            let blocks : Some (block i.step_in.args (joined_ops i.step_in.preceding (next i.here i.step_in.rest))) ≡ Some (block l.step_in.args (joined_ops l.step_in.preceding (next o l.step_in.rest))) =
            sym (shaped_as after i.here i.step_in i.path i.there) ∙ (λ j. region_at ((i.region ∙ sym l.region) j) (regions (same j).here)) ∙ shaped_as after o l.step_in l.path l.there in
            let lists : joined_ops i.step_in.preceding (next i.here i.step_in.rest) ≡ joined_ops l.step_in.preceding (next o l.step_in.rest) = cc in
            let all : i.step_in.preceding ++ i.here ∷ listed i.step_in.rest ≡ l.step_in.preceding ++ o ∷ [] =
            sym (listed_joined i.step_in.preceding (next i.here i.step_in.rest)) ∙ ap listed lists ∙ listed_joined l.step_in.preceding (next o l.step_in.rest) ∙ ap (λ z. l.step_in.preceding ++ o ∷ listed z) f in
            elim (in_parts i.here l.step_in.preceding (o ∷ []) (subst (In i.here) all (in_right i.here i.step_in.preceding (i.here ∷ listed i.step_in.rest) (inl refl)))) [
              | inl k ↦ record { here = o; step_in = l.step_in; path = l.path; there = l.there; id = refl; first = i.here; among = k; is = i.id }
              | inr k ↦ elim k [
                | inl m ↦ absurd (true≢false (sym (eq-eqb c (head o).id (sym i.id ∙ ap (λ (z : OpOf N T A). (head z).id) m)) ∙ apart))
                | inr m ↦ absurd m
              ]
            ]

    -- the operations before another one come before an operation inserted there
    pub put_after : (a b : ℕ) → place.before ≡ Some b → Before a b (put place o t) → eqb a (head o).id ≡ false → Before a (head o).id (put place o t)
    put_after a b e f apart = go l.step_in.rest refl (l.before ∙ e)
      where
        distinct : HasDistinctIds (put place o t)
        distinct = put_form.put_distinct place o t may

        go : (os : OpsOf N T A) → l.step_in.rest ≡ os → first_id os ≡ Some b → Before a (head o).id (put place o t)
        go no_ops p q = (let bad : None ≡ Some b = q in absurd cc)
        go (next r os) p q =
            let id : (head r).id ≡ b = cc in
            let new = step l.step_in.parent l.step_in.region l.step_in.args (l.step_in.preceding ++ o ∷ []) os in
            let list : joined_ops l.step_in.preceding (next o l.step_in.rest) ≡ joined_ops (l.step_in.preceding ++ o ∷ []) (next r os) = ap (λ z. joined_ops l.step_in.preceding (next o z)) p ∙ sym (joined_more l.step_in.preceding o (next r os)) in
            let there : In (stand r (new ∷ l.path)) (stands [] (put place o t)) = within l.step_in.parent l.path (stand r (new ∷ l.path)) (child l.step_in.parent l.path l.step_in.region l.step_in.args (joined_ops l.step_in.preceding (next o l.step_in.rest)) (stand r (new ∷ l.path)) (shaped_as after o l.step_in l.path l.there)
            (subst (λ z. In (stand r (new ∷ l.path)) (ops_stands l.step_in.parent l.path l.step_in.region l.step_in.args [] z)) (sym list) (ops_child l.step_in.parent l.path l.step_in.region l.step_in.args [] (l.step_in.preceding ++ o ∷ []) r os))) [] after l.around in
            let same = same_stand after distinct (stand f.here (f.step_in ∷ f.path)) (stand r (new ∷ l.path)) f.there there (f.id ∙ sym id) in
            let paths : f.step_in ∷ f.path ≡ new ∷ l.path = ap (λ (z : OpWithPathOf N T A). z.path) same in
            let steps : f.step_in ≡ new = cc in
            elim (in_parts f.first l.step_in.preceding (o ∷ []) (subst (λ (s : StepOf N T A). In f.first s.preceding) steps f.among)) [
              | inl k ↦ record { here = o; step_in = l.step_in; path = l.path; there = l.there; id = refl; first = f.first; among = k; is = f.is }
              | inr k ↦ elim k [
                | inl m ↦ absurd (true≢false (sym (eq-eqb a (head o).id (sym f.is ∙ ap (λ (z : OpOf N T A). (head z).id) m)) ∙ apart))
                | inr m ↦ absurd m
              ]
            ]
