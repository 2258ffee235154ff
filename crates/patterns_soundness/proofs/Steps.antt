-- One operation of a block of x moves before y, which comes before x, or from there into a block of y.
use Rattle.std.proofs.Common.{◌≡◌, refl, ap, sym, ◌∙◌, subst, ℕ, suc, ◌+◌, ◌<◌, ◌≤◌, Bool, true, false, true≢false, not, ◌&&◌, ◌||◌, cond, eqb, eq-eqb, eqb-true, List, [], ◌∷◌, ◌++◌, length, map, Option, Some, None, option_map, inl, inr, ◌⊎◌, arith, append_assoc, le-leb, lt-ltb}
use Rattle.std.specs.Prelude.{is_some, nat_lt, slice_get, option_and_then}
use Rattle.std.specs.List.{list_all, list_any}
use Rattle.ir_event.specs.types.Words.{is_isolated, is_table}
use Rattle.ir_event.specs.types.Terms.{TypeTerm, AttrTerm}
use Rattle.ir_event.specs.trees.declared.value.Value.{Value}
use Rattle.ir_event.specs.trees.declared.value.Value.TheVariants.{Result, Arg}
use Rattle.ir_event.specs.trees.declared.place.Place.{Place}
use Rattle.ir_event.specs.trees.Tree.{op, block, OpsOf, no_ops, next, head, regions}
use Rattle.ir_event.specs.trees.Ids.{HasDistinctIds, find, has_id, op_count, ops_ids, ids}
use Rattle.ir_event.specs.trees.Frames.{owner_of}
use Rattle.ir_event.specs.trees.Limits.{depth, most_around}
use Rattle.ir_event.specs.trees.Places.{each_list, is_in_block, ops_each_list, drop_op, put, put_here, put_in, region_each_list, without}
use Rattle.ir_event.specs.trees.Sites.{arguments, shows, visible}
use Rattle.ir_event.specs.trees.Uses.{operand_uses, uses_of}
use Rattle.ir_event.specs.trees.Meaning.{Operation}
use Rattle.ir_event.specs.trees.WellFormed.{IsWellFormed}
use Rattle.ir_event.proofs.of_trees.Moves.{Absent, ops_unput, ops_untouched}
use Rattle.ir_event.proofs.of_trees.Left.{left_distinct}
use Rattle.ir_event.proofs.of_trees.Replaced.{same_value_refl}
use Rattle.ir_event.specs.tree_laws.Stands.{OpWithPathOf, StepOf, dropping, op_with_path_id, stands, dominated_by as dominated_by_from}
use Rattle.ir_event.specs.tree_laws.Tables.{table_of}
use Rattle.ir_event.specs.tree_laws.Members.{In}
use Rattle.ir_event.specs.tree_laws.Reads.{around}
use Rattle.ir_event.specs.tree_laws.Reasons.{fits_around, has_place, leads_inside, shift_reason}
use Rattle.ir_event.specs.tree_laws.Values.{region_at}
use Rattle.ir_event.proofs.of_tree_laws.Around.{absent_find, stand_present}
use Rattle.ir_event.proofs.of_tree_laws.Edited.{put_op_count, dominance_stays, taken_op_count}
use Rattle.ir_event.proofs.of_tree_laws.HeadForm.{in_gather, used_here}
use Rattle.ir_event.proofs.of_tree_laws.Listed.{all_each, both, both_hold, each_all, either, in_left, in_right}
use Rattle.ir_event.proofs.of_tree_laws.Members.{found_stands, joined_ops, stand, stand_found, within}
use Rattle.ir_event.proofs.of_tree_laws.Put.{of_point, put_find, region_each}
use Rattle.ir_event.proofs.of_tree_laws.PutForm as put_form
use Rattle.ir_event.proofs.of_tree_laws.Readings.{stands_uses, step}
use Rattle.ir_event.proofs.of_tree_laws.DominatedBy.{stands_operands, visible_there}
use Rattle.ir_event.proofs.of_tree_laws.Shift as shift
use Rattle.ir_event.proofs.of_tree_laws.Values.{not_own, seen_by}
use Rattle.ir_event.proofs.of_tree_laws.Without.{same_head}
use Rattle.ir_event.specs.Modules.{Module}
use Rattle.rewriter_machine.specs.Contents.{Edit, edit_reason, edited}
use Rattle.rewriter_machine.specs.Edits.{Move}
use Rattle.patterns_base.proofs.Preceding.{cut_at, stands_before}
use Rattle.patterns_base.proofs.Given.{seen_is, user}
use Rattle.patterns_base.proofs.Headed.{found_there}
use Rattle.patterns_base.proofs.Placed as placed
use Rattle.patterns_base.proofs.Placed.{Following}
use Rattle.patterns_base.proofs.Plans.{StandsAt, dominated_by}
use Rattle.patterns_soundness.specs.base.Looks.{Header}
use Rattle.patterns_soundness.specs.base.Lowering.{before_in, next_to, end_of}
use Rattle.patterns_soundness.proofs.Across.{argument_within, before_is, after_inside, inner_unseen, inside_after, later_outside, not_parent, not_root, one_stands, sibling_inside}
use Rattle.patterns_soundness.proofs.Kept as kept
use Rattle.patterns_soundness.proofs.Kept.{Kept}
use Rattle.patterns_soundness.proofs.Moving as moving
use Rattle.patterns_soundness.proofs.Moving.{HasBlock, located_left}
use Rattle.patterns_soundness.proofs.Ordered.{Before, Inside, around_at, before_both, inner_dominated_by, inner_table, inside_left, later_around, later_dominated_by, later_shows, later_table, put_before, put_inside, there_left}
use Rattle.ir_event.proofs.Facts.{own_id}

abbrev OpWithPath : Type 0
OpWithPath = OpWithPathOf (List ℕ) TypeTerm AttrTerm

pub nothing : {X : Type 0} (l : List X) → ((u : X) → In u l → ⊥) → l ≡ []
nothing [] f = refl
nothing (u ∷ l) f = absurd (f u (inl refl))

pub there_of : (f : Option Operation) (h : Header) → option_map head f ≡ Some h → (o : Operation) × (f ≡ Some o) × (head o ≡ h)
there_of None h e = absurd cc
there_of (Some o) h e = (o, refl, cc)

pub absent_all : (a : ℕ) (vs : List Operation) → ((o : Operation) → In o vs → has_id a o ≡ false) → Absent a (ops_ids (joined_ops vs no_ops))
absent_all a [] f = refl
absent_all a (o ∷ vs) f = joined_absent (ids o) (ops_ids (joined_ops vs no_ops)) (f o (inl refl)) (absent_all a vs (λ q i. f q (inr i)))
  where
    joined_absent : (xs ys : List ℕ) → Absent a xs → Absent a ys → Absent a (xs ++ ys)
    joined_absent [] ys p q = q
    joined_absent (x ∷ xs) ys p q = go (eqb x a) refl p (joined_absent xs ys)
      where
        go : (b : Bool) → eqb x a ≡ b → (b || list_any (λ y. eqb y a) xs) ≡ false → (Absent a xs → Absent a ys → Absent a (xs ++ ys)) → Absent a (x ∷ xs ++ ys)
        go true e k later = absurd cc
        go false e k later = (λ i. e i || later k q i)

-- two operations, neither inside the other
abbrev pub Lack : Operation → Operation → Type 0
Lack z o = (has_id (head o).id z ≡ false) × (has_id (head z).id o ≡ false)

-- each user of a result of z is one of some operations, or inside one
abbrev pub UsedBy : Operation → List Operation → Operation → Type 0
UsedBy z vs t = (k : ℕ) (u : ℕ × ℕ) → In u (uses_of (Result (head z).id k) t) → (o : Operation) × In o vs × (has_id u.0 o ≡ true)

-- the used values have users
pub used_there : (t : Operation) (z : Operation) (zp : List (StepOf (List ℕ) TypeTerm AttrTerm)) → In (stand z zp) (stands [] t) → (s : OpWithPath) → In s (stands zp z) → (v : Value) → In v (head s.here).operands → (u : ℕ × ℕ) × In u (uses_of v t)
used_there t z zp h s i v j =
    let n = used_here v (op_with_path_id s) 0 (head s.here).operands v j (same_value_refl v) in
    ((op_with_path_id s, n.0), subst (In (op_with_path_id s, n.0)) (stands_uses v [] t) (in_gather (λ (z : OpWithPath). operand_uses v (op_with_path_id z) 0 (head z.here).operands) (op_with_path_id s, n.0) s (stands [] t) (within z zp s i [] t h) n.1))

pub each_at : (f : ℕ → ℕ → OpsOf (List ℕ) TypeTerm AttrTerm → OpsOf (List ℕ) TypeTerm AttrTerm) (r : ℕ) (q : Operation) (args : List TypeTerm) (os : OpsOf (List ℕ) TypeTerm AttrTerm) → region_at r (regions q) ≡ Some (block args os)
    → region_at r (regions (each_list f q)) ≡ Some (block args (f (head q).id r (ops_each_list f os)))
each_at f r (op h rs) args os e = (let n : 0 + r ≡ r = omega arith in region_each f h.id 0 r rs ∙ ap (λ z. option_map (region_each_list f h.id z) (region_at r rs)) n ∙ ap (option_map (region_each_list f h.id r)) e)

module _ (x y : ℕ) (insertion : Place) (hx hy : Header) (deep : ℕ) where
  -- y comes before x, which comes after a place
  pub record Across (m : Module) : Type 0 where
    pub located : StandsAt x insertion m
    pub before : Before y x m.tree
    pub x_is : option_map head (find x m.tree) ≡ Some hx
    pub y_is : option_map head (find y m.tree) ≡ Some hy
    pub unused : (k : ℕ) → uses_of (Result y k) m.tree ≡ []
    pub near : (v : Value) → dominated_by x v m ≡ true → eqb (owner_of v).0 y ≡ false → dominated_by y v m ≡ true
    pub depths : around x m.tree ≡ Some deep

  -- x and y aren't inside the operation, and its levels are within the depth limit
  pub record IsWithinLimits (z : Operation) : Type 0 where
    pub x_out : has_id x z ≡ false
    pub y_out : has_id y z ≡ false
    pub parent_out : has_id insertion.parent z ≡ false
    pub levels : deep + 1 + depth z ≤ most_around

  -- x and y are different
  pub two_apart : (m : Module) → Across m → eqb x y ≡ false
  two_apart m s =
      let o = there_of (find y m.tree) hy s.y_is in
      let w = found_stands y m.tree o.0 o.1 in
      go o.0 (ap (λ (z : Operation). (head z).id) (sym w.3) ∙ w.2) (later_outside m.tree s.located.wellformed.distinct y x s.before o.0 o.1) (eqb x y) refl
    where
      go : (o : Operation) → (head o).id ≡ y → has_id x o ≡ false → (b : Bool) → eqb x y ≡ b → eqb x y ≡ false
      go o id out false e = e
      go o id out true e = absurd (true≢false (sym (ap (λ i. has_id i o) (eqb-true x y e ∙ sym id) ∙ own_id o) ∙ out))

  -- ---- properties of any move of z to a place
  module _ (m : Module) (s : Across m) (z : Operation) (place : Place) (found : find (head z).id m.tree ≡ Some z) (root : eqb (head m.tree).id (head z).id ≡ false) (point : has_place place m.tree ≡ true) (outside : leads_inside place (Some z) ≡ false) (fits_in : IsWithinLimits z) where
    abbrev t : Operation
    t = m.tree

    abbrev after : Operation
    after = put place z (without (head z).id m.tree)

    x_there : has_id x m.tree ≡ true
    x_there = ap (λ i. has_id i t) (sym s.located.at.id) ∙ stand_present [] t (stand s.located.at.here (s.located.at.step_in ∷ s.located.at.path)) s.located.at.there

    y_there : has_id y m.tree ≡ true
    y_there = (let o = there_of (find y t) hy s.y_is in let w = found_stands y t o.0 o.1 in ap (λ i. has_id i t) (sym w.2) ∙ stand_present [] t w.0 w.1)

    y_apart : eqb y (head z).id ≡ false
    y_apart = kept.apart is_isolated is_table m s.located.wellformed z place found root point outside (λ b. ⊥) (λ b h. absurd h) (λ b h. absurd h) y fits_in.y_out

    -- the properties of x and y that the move keeps
    pub across_moved : IsWellFormed is_isolated (record m { tree = put place z (without (head z).id m.tree) })
        → ((v : Value) → (owner_of v).0 ≡ (head z).id → visible is_isolated (put place z (without (head z).id m.tree)) x v ≡ true → eqb (owner_of v).0 y ≡ false → visible is_isolated (put place z (without (head z).id m.tree)) y v ≡ true)
        → Across (record m { tree = put place z (without (head z).id m.tree) })
    across_moved wellformed new = record {
      located = record {
        wellformed = wellformed;
        at = inside_after x insertion after (before_is x insertion t s.located.at) (moving.inside_same is_isolated is_table m s.located.wellformed z place found root point outside x x_there fits_in.x_out insertion.parent insertion.region (after_inside x insertion t s.located.at));
      };
      before = moving.before_same is_isolated is_table m s.located.wellformed z place found root point outside x x_there fits_in.x_out y y_apart s.before;
      x_is = moving.head_same is_isolated is_table m s.located.wellformed z place found root point outside x x_there fits_in.x_out ∙ s.x_is;
      y_is = moving.head_same is_isolated is_table m s.located.wellformed z place found root point outside y y_there fits_in.y_out ∙ s.y_is;
      unused = λ k. nothing (uses_of (Result y k) after) (λ u i. subst (In u) (s.unused k) (moving.used_before is_isolated is_table m s.located.wellformed z place found root point outside (Result y k) u i));
      near = λ v e n. near_by v e n (eqb (owner_of v).0 (head z).id) refl;
      depths = moving.around_same is_isolated is_table m s.located.wellformed z place found root point outside x x_there fits_in.x_out ∙ s.depths;
    }
      where
        near_by : (v : Value) → visible is_isolated (put place z (without (head z).id m.tree)) x v ≡ true → eqb (owner_of v).0 y ≡ false → (b : Bool) → eqb (owner_of v).0 (head z).id ≡ b → visible is_isolated (put place z (without (head z).id m.tree)) y v ≡ true
        near_by v e n true k = new v (eqb-true (owner_of v).0 (head z).id k) e n
        near_by v e n false k =
            moving.dominance is_isolated is_table m s.located.wellformed z place found root point outside y y_there fits_in.y_out v k
            ∙ s.near v (sym (moving.dominance is_isolated is_table m s.located.wellformed z place found root point outside x x_there fits_in.x_out v k) ∙ e) n

    -- the users of z's results are other operations, or inside other operations, that stay as they are
    pub users_moved : (vs : List Operation) → UsedBy z vs m.tree → ((o : Operation) → In o vs → find (head o).id m.tree ≡ Some o) → ((o : Operation) → In o vs → Lack z o) → ((o : Operation) → In o vs → has_id place.parent o ≡ false)
        → ((o : Operation) → In o vs → (k : ℕ) → k < length (head z).results → visible is_isolated (put place z (without (head z).id m.tree)) (head o).id (Result (head z).id k) ≡ true)
        → (k : ℕ) → k < length (head z).results → list_all (λ u. visible is_isolated (put place z (without (head z).id m.tree)) u.0 (Result (head z).id k)) (uses_of (Result (head z).id k) m.tree) ≡ true
    users_moved vs users finds lacks far seen k l = each_all (λ u. visible is_isolated after u.0 (Result (head z).id k)) (uses_of (Result (head z).id k) t) (λ u h.
        let o = users k u h in
        let w = user (Result (head z).id k) t u h in
        let own = all_each (dominated_by_from is_isolated w.0.path) (head w.0.here).operands (all_each (λ (z : OpWithPath). list_all (dominated_by_from is_isolated z.path) (head z.here).operands) (stands [] t) (sym (stands_operands is_isolated t) ∙ s.located.wellformed.wellformed.visible) w.0 w.1) (Result (head z).id k) w.3 in
        let old = found_stands (head o.0).id t o.0 (finds o.0 o.1) in
        let lack = lacks o.0 o.1 in
        let new = found_stands (head o.0).id after o.0 (moving.literal is_isolated is_table m s.located.wellformed z place found root point outside o.0 (finds o.0 o.1) lack.0 lack.1 (far o.0 o.1)) in
        let distinct = moving.after_distinct is_isolated is_table m s.located.wellformed z place found root point outside in
        let new_there : In (stand o.0 new.0.path) (stands [] after) = subst (λ (q : Operation). In (stand q new.0.path) (stands [] after)) new.3 new.1 in
        ap (λ i. visible is_isolated after i (Result (head z).id k)) w.2
        ∙ moving.transferred is_isolated is_table m s.located.wellformed z place found root point outside o.0 old.0.path new.0.path (subst (λ (q : Operation). In (stand q old.0.path) (stands [] t)) old.3 old.1) new_there (Result (head z).id k)
        (sym (visible_there is_isolated after distinct (stand o.0 new.0.path) new_there (Result (head z).id k)) ∙ seen o.0 o.1 k l) w.0 w.1 (ap (λ i. has_id i o.0) (sym w.2) ∙ o.2) own)

    -- a block of x that z isn't moved out of or into
    pub side_moved : (n : StandsAt x insertion (record m { tree = put place z (without (head z).id m.tree) })) (q : ℕ) (args : List TypeTerm) (ws : List Operation) → ((o : Operation) → In o ws → (has_id (head z).id o ≡ false) × (has_id place.parent o ≡ false)) → is_in_block place x q ≡ false
        → region_at q (regions s.located.at.here) ≡ Some (block args (joined_ops ws no_ops)) → region_at q (regions n.at.here) ≡ Some (block args (joined_ops ws no_ops))
    side_moved n q args ws lacks elsewhere is =
        let zi = (head z).id in
        let xo = s.located.at.here in
        let rest = joined_ops ws no_ops in
        let id : (head xo).id ≡ x = s.located.at.id in
        let left = located_left t z xo s.located.wellformed.distinct found (ap (λ i. find i t) id ∙ found_there is_isolated x insertion m s.located) (ap (λ i. has_id i z) id ∙ fits_in.x_out) in
        let now : find x after ≡ Some (put place z (each_list (dropping zi) xo)) = put_find place z x (absent_find x z fits_in.x_out) (without zi t) ∙ ap (option_map (put place z)) (ap (λ i. find i (without zi t)) (sym id) ∙ left) in
        let same : Some n.at.here ≡ Some (put place z (each_list (dropping zi) xo)) = sym (found_there is_isolated x insertion (record m { tree = after }) n) ∙ now in
        let here : n.at.here ≡ put place z (each_list (dropping zi) xo) = cc in
        let one = each_at (dropping zi) q xo args rest is in
        let two = each_at (put_here place z) q (each_list (dropping zi) xo) args (drop_op zi (ops_each_list (dropping zi) rest)) one in
        let dropped = ops_untouched zi rest (absent_all zi ws (λ o i. (lacks o i).0)) in
        let unput = ops_unput place z rest (absent_all place.parent ws (λ o i. (lacks o i).1)) in
        let other : is_in_block place (head (each_list (dropping zi) xo)).id q ≡ false = ap (λ i. is_in_block place i q) (ap (λ (h : Header). h.id) (same_head zi (dropping zi) xo) ∙ id) ∙ elsewhere in
        ap (λ o. region_at q (regions o)) here
        ∙ two
        ∙ ap (λ l. Some (block args (put_here place z (head (each_list (dropping zi) xo)).id q (ops_each_list (put_here place z) l)))) dropped
        ∙ ap (λ l. Some (block args (put_here place z (head (each_list (dropping zi) xo)).id q l))) unput
        ∙ ap (λ c. Some (block args (cond c (put_in place.before z rest) rest))) other

    -- the number of operations stays the same
    pub count_moved : op_count (put place z (without (head z).id m.tree)) ≡ op_count m.tree
    count_moved =
        let a = put_op_count place z (without (head z).id t) (moving.may is_isolated is_table m s.located.wellformed z place found root point outside) in
        let b = taken_op_count (head z).id t z s.located.wellformed.distinct found root in
        omega (arith, a, b)
