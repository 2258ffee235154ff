-- An operation is made in a block of y, which comes before x, or gets another operand: properties that x and y keep.
use Rattle.std.proofs.Common.{◌≡◌, refl, ap, sym, ◌∙◌, subst, ℕ, zero, suc, ◌+◌, ◌<◌, ◌≤◌, Bool, true, false, true≢false, cond, not, ◌&&◌, ◌||◌, eqb, eq-eqb, eqb-true, List, [], ◌∷◌, ◌++◌, length, map, Option, Some, None, option_map, inl, inr, ◌⊎◌, arith}
use Rattle.std.specs.Prelude.{slice_set}
use Rattle.std.specs.List.{list_any}
use Rattle.std.proofs.lemmas.Cmp.{nat_eq_equiv}
use Rattle.std.proofs.lemmas.List.{length-map}
use Rattle.ir_event.specs.types.Words.{is_isolated}
use Rattle.ir_event.specs.types.Terms.{TypeTerm, AttrTerm}
use Rattle.ir_event.specs.trees.declared.value.Value.{Value}
use Rattle.ir_event.specs.trees.declared.value.Value.TheVariants.{Result}
use Rattle.ir_event.specs.trees.declared.place.Place.{Place}
use Rattle.ir_event.specs.trees.Tree.{op, RegionsOf, no_regions, region, RegionOf, empty, block, OpsOf, no_ops, next, head, regions}
use Rattle.ir_event.specs.trees.Ids.{find, has_id, ids, ops_ids, region_ids, regions_ids}
use Rattle.ir_event.specs.trees.Edits.{at, each_head, ops_each_head, put_operand, region_each_head, regions_each_head, with_operand}
use Rattle.ir_event.specs.trees.Frames.{owner_of}
use Rattle.ir_event.specs.trees.Places.{is_in_block, ops_each_list, put, put_here, put_in}
use Rattle.ir_event.specs.trees.Sites.{visible}
use Rattle.ir_event.specs.trees.Uses.{operand_uses, same_value, uses_of}
use Rattle.ir_event.specs.trees.Meaning.{Operation}
use Rattle.ir_event.specs.trees.WellFormed.{IsWellFormed}
use Rattle.ir_event.proofs.of_trees.Heads as tree_heads
use Rattle.ir_event.proofs.of_trees.Heads.{head_find}
use Rattle.ir_event.proofs.of_trees.Moves.{Absent, absent_parts, ops_unput}
use Rattle.ir_event.proofs.of_trees.Replaced.{same_value_refl}
use Rattle.ir_event.specs.tree_laws.Stands.{OpWithPathOf, StepOf, edit_stand, edit_step, op_with_path_id, stands}
use Rattle.ir_event.specs.tree_laws.Members.{In}
use Rattle.ir_event.specs.tree_laws.Reads.{around}
use Rattle.ir_event.specs.tree_laws.Reasons.{has_place, hold_none, with_id}
use Rattle.ir_event.specs.tree_laws.Values.{region_at, type_of_value}
use Rattle.ir_event.proofs.of_tree_laws.Around.{absent_find, stand_present}
use Rattle.ir_event.proofs.of_tree_laws.HeadForm.{alike_at, in_gather, used_here}
use Rattle.ir_event.proofs.of_tree_laws.Readings.{stands_uses}
use Rattle.ir_event.proofs.of_tree_laws.Reasoned.{none_ids}
use Rattle.ir_event.proofs.of_tree_laws.Heads.{Alike, each_stands}
use Rattle.ir_event.proofs.of_tree_laws.Listed.{in_mapped}
use Rattle.ir_event.proofs.of_tree_laws.Members.{found_stands, joined_ops, stand}
use Rattle.ir_event.proofs.of_tree_laws.Put.{put_find}
use Rattle.ir_event.specs.Modules.{Module}
use Rattle.rewriter_machine.specs.Contents.{edited}
use Rattle.rewriter_machine.specs.Edits.{Make, SetOperand}
use Rattle.patterns_base.proofs.Given.{user}
use Rattle.patterns_base.proofs.Headed as headed
use Rattle.patterns_base.proofs.Headed.{found_there}
use Rattle.patterns_base.proofs.Plans.{StandsAt, dominated_by}
use Rattle.patterns_soundness.specs.base.Looks.{Header}
use Rattle.patterns_soundness.proofs.Across.{before_is, after_inside, inner_unseen, inside_after}
use Rattle.patterns_soundness.proofs.Arguments.{each_region}
use Rattle.patterns_soundness.proofs.Kept as kept
use Rattle.patterns_soundness.proofs.Moving.{HasBlock}
use Rattle.patterns_soundness.proofs.Ordered.{Before, Inside, around_at, before_headed, inside_headed, put_inside}
use Rattle.patterns_soundness.proofs.Steps.{Across, absent_all, each_at, nothing, there_of, two_apart, used_there}
use Rattle.std.proofs.lemmas.Bool.{or_parts}
use Rattle.ir_event.proofs.of_tree_laws.Facts.{new_id}

abbrev OpWithPath : Type 0
OpWithPath = OpWithPathOf (List ℕ) TypeTerm AttrTerm

-- ---- heads edited
module _ (f : Header → Header) (alike : (h : Header) → Alike (f h) h) (t : Operation) where
  pub heads_headed : (b : ℕ) → option_map head (find b (each_head f t)) ≡ option_map f (option_map head (find b t))
  heads_headed b = ap (option_map head) (head_find f by b t) ∙ go (find b t)
    where
      by : (h : Header) → tree_heads.Alike (f h) h
      by h = record { id = (alike h).id; name = (alike h).name; results = (alike h).results }

      go : (o : Option Operation) → option_map head (option_map (each_head f) o) ≡ option_map f (option_map head o)
      go None = refl
      go (Some (op h rs)) = refl

  pub block_headed : (p q : ℕ) → HasBlock p q t → HasBlock p q (each_head f t)
  block_headed p q b = record {
    here = each_head f b.here;
    found = head_find f (λ h. record { id = (alike h).id; name = (alike h).name; results = (alike h).results }) p t ∙ ap (option_map (each_head f)) b.found;
    args = b.args;
    list = ops_each_head f b.list;
    is = each_region f b.here q ∙ ap (option_map (region_each_head f)) b.is;
  }

-- an edit of one head doesn't change a tree without that operation
module _ (l : ℕ) (g : Header → Header) where
  mutual
    unedited : (t : Operation) → Absent l (ids t) → each_head (at l g) t ≡ t
    unedited (op h rs) a = let b = or_parts _ _ a in λ i. op (cond (b.0 i) (g h) h) (regions_unedited rs b.1 i)

    regions_unedited : (rs : RegionsOf (List ℕ) TypeTerm AttrTerm) → Absent l (regions_ids rs) → regions_each_head (at l g) rs ≡ rs
    regions_unedited no_regions a = refl
    regions_unedited (region r rs) a = let b = absent_parts l (region_ids r) (regions_ids rs) a in λ i. region (region_unedited r b.0 i) (regions_unedited rs b.1 i)

    region_unedited : (r : RegionOf (List ℕ) TypeTerm AttrTerm) → Absent l (region_ids r) → region_each_head (at l g) r ≡ r
    region_unedited empty a = refl
    region_unedited (block args os) a = ap (block args) (ops_unedited os a)

    ops_unedited : (os : OpsOf (List ℕ) TypeTerm AttrTerm) → Absent l (ops_ids os) → ops_each_head (at l g) os ≡ os
    ops_unedited no_ops a = refl
    ops_unedited (next o os) a = let b = absent_parts l (ids o) (ops_ids os) a in λ i. next (unedited o b.0 i) (ops_unedited os b.1 i)

-- a value that isn't used and isn't set
set_in : {X : Type 0} (xs : List X) (i : ℕ) (v w : X) → In w (slice_set xs i v) → (w ≡ v) ⊎ In w xs
set_in [] zero v w k = absurd k
set_in [] (suc i) v w k = absurd k
set_in (x ∷ xs) zero v w (inl e) = inl e
set_in (x ∷ xs) zero v w (inr k) = inr (inr k)
set_in (x ∷ xs) (suc i) v w (inl e) = inr (inl e)
set_in (x ∷ xs) (suc i) v w (inr k) = elim (set_in xs i v w k) [ inl e ↦ inl e | inr j ↦ inr (inr j) ]

unused_set : (l i : ℕ) (v w : Value) (t : Operation) → same_value w v ≡ false → uses_of w t ≡ [] → uses_of w (with_operand l i v t) ≡ []
unused_set l i v w t other none = nothing (uses_of w (with_operand l i v t)) (λ u h.
    let s = user w (with_operand l i v t) u h in
    let m = in_mapped (edit_stand (at l (put_operand i v))) s.0 (stands [] t) (subst (λ (k : List OpWithPath). In s.0 k) (each_stands (at l (put_operand i v)) [] t) s.1) in
    go m.0 m.1 (subst (λ (z : OpWithPath). In w (head z.here).operands) m.2 s.3))
  where
    was_used : (s : OpWithPath) → In s (stands [] t) → In w (head s.here).operands → ⊥
    was_used s h k =
        let n = used_here w (op_with_path_id s) 0 (head s.here).operands w k (same_value_refl w) in
        subst (In (op_with_path_id s, n.0)) (stands_uses w [] t ∙ none) (in_gather (λ (z : OpWithPath). operand_uses w (op_with_path_id z) 0 (head z.here).operands) (op_with_path_id s, n.0) s (stands [] t) h n.1)

    head_of : (o : Operation) → head (each_head (at l (put_operand i v)) o) ≡ at l (put_operand i v) (head o)
    head_of (op h rs) = refl

    go : (s : OpWithPath) → In s (stands [] t) → In w (head (each_head (at l (put_operand i v)) s.here)).operands → ⊥
    go s h k = by_case (eqb (head s.here).id l) (subst (λ (z : Header). In w z.operands) (head_of s.here) k)
      where
        by_case : (b : Bool) → In w (cond b (put_operand i v (head s.here)) (head s.here)).operands → ⊥
        by_case false k = was_used s h k
        by_case true k = elim (set_in (head s.here).operands i v w k) [
          | inl e ↦ true≢false (sym (ap (same_value w) (sym e) ∙ same_value_refl w) ∙ other)
          | inr j ↦ was_used s h j
        ]

module _ (x y r : ℕ) (insertion : Place) (hx hy : Header) (deep : ℕ) where
  -- ---- an operation is made in a block of y
  module _ (m : Module) (s : Across x y insertion hx hy deep m) (place : Place) (point : has_place place m.tree ≡ true) (in_y : place.parent ≡ y) (in_r : place.region ≡ r) (o : Operation) (leaf : hold_none (regions o) ≡ true)
      (unused : (j : ℕ) → uses_of (Result y j) (with_id m.next o) ≡ []) (wellformed : IsWellFormed is_isolated (edited (Make place o) m)) where
    abbrev t : Operation
    t = m.tree

    abbrev w : IsWellFormed is_isolated m
    w = s.located.wellformed

    abbrev after : Operation
    after = put place (with_id m.next o) m.tree

    there : (b : ℕ) (h : Header) → option_map head (find b m.tree) ≡ Some h → has_id b m.tree ≡ true
    there b h e = (let q = there_of (find b t) h e in let k = found_stands b t q.0 q.1 in ap (λ i. has_id i t) (sym k.2) ∙ stand_present [] t k.0 k.1)

    abbrev stays : kept.Kept is_isolated (λ b. has_id b m.tree ≡ true) m.tree (put place (with_id m.next o) m.tree)
    stays = kept.made_kept is_isolated m s.located.wellformed place point o leaf (λ b. has_id b m.tree ≡ true) (λ b h. h)

    lone : (b : ℕ) (q : Operation) → hold_none (regions q) ≡ true → eqb b m.next ≡ false → has_id b (with_id m.next q) ≡ false
    lone b (op h rs) k e = λ i. (nat_eq_equiv.symm m.next b ∙ e) i || list_any (λ z. eqb z b) (none_ids rs k i)

    fresh : (b : ℕ) → has_id b m.tree ≡ true → has_id b (with_id m.next o) ≡ false
    fresh b h = lone b o leaf (kept.not_new is_isolated m w place point o leaf b h)

    pub made_inside : Inside y r m.next (put place (with_id m.next o) m.tree)
    made_inside = subst (λ i. Inside y r i after) (new_id m.next o) (put_inside place (with_id m.next o) t (kept.may is_isolated m w place point o leaf) y r in_y in_r)

    pub across_made : Across x y insertion hx hy deep (edited (Make place o) m)
    across_made = record {
      located = record { wellformed = wellformed; at = inside_after x insertion after (before_is x insertion t s.located.at) (stays.inside insertion.parent insertion.region x (there x hx s.x_is) (after_inside x insertion t s.located.at)) };
      before = stays.before y x (there y hy s.y_is) (there x hx s.x_is) s.before;
      x_is = stays.heads x (there x hx s.x_is) ∙ s.x_is;
      y_is = stays.heads y (there y hy s.y_is) ∙ s.y_is;
      unused = λ j. nothing (uses_of (Result y j) after) (λ u i. elim (kept.made_uses is_isolated m w place point o leaf (Result y j) u i) [ inl k ↦ subst (In u) (s.unused j) k | inr k ↦ subst (In u) (unused j) k ]);
      near = λ v e n. near_by v e n (eqb (owner_of v).0 m.next) refl;
      depths = stays.arounds x (there x hx s.x_is) ∙ s.depths;
    }
      where
        near_by : (v : Value) → visible is_isolated (put place (with_id m.next o) m.tree) x v ≡ true → eqb (owner_of v).0 y ≡ false → (b : Bool) → eqb (owner_of v).0 m.next ≡ b → visible is_isolated (put place (with_id m.next o) m.tree) y v ≡ true
        near_by v e n true k = absurd (inner_unseen is_isolated after (kept.made_distinct is_isolated m w place point o leaf) y r x m.next (stays.before y x (there y hy s.y_is) (there x hx s.x_is) s.before) made_inside v (eqb-true (owner_of v).0 m.next k) n e)
        near_by v e n false k =
            kept.made_dominance is_isolated m w place point o leaf y (there y hy s.y_is) v k
            ∙ s.near v (sym (kept.made_dominance is_isolated m w place point o leaf x (there x hx s.x_is) v k) ∙ e) n

    -- a block of x
    pub side_made : (n : StandsAt x insertion (edited (Make place o) m)) (q : ℕ) (args : List TypeTerm) (ws : List Operation) → ((p : Operation) → In p ws → has_id y p ≡ false) → region_at q (regions s.located.at.here) ≡ Some (block args (joined_ops ws no_ops)) → region_at q (regions n.at.here) ≡ Some (block args (joined_ops ws no_ops))
    side_made n q args ws lacks is =
        let xo = s.located.at.here in
        let new = with_id m.next o in
        let rest = joined_ops ws no_ops in
        let now : find x after ≡ Some (put place new xo) = put_find place new x (absent_find x new (fresh x (there x hx s.x_is))) t ∙ ap (option_map (put place new)) (found_there is_isolated x insertion m s.located) in
        let same : Some n.at.here ≡ Some (put place new xo) = sym (found_there is_isolated x insertion (edited (Make place o) m) n) ∙ now in
        let here : n.at.here ≡ put place new xo = cc in
        let unput = ops_unput place new rest (absent_all place.parent ws (λ p i. ap (λ z. has_id z p) in_y ∙ lacks p i)) in
        let other : is_in_block place (head xo).id q ≡ false = (λ i. eqb (s.located.at.id i) (in_y i) && eqb q place.region) ∙ λ i. two_apart x y insertion hx hy deep m s i && eqb q place.region in
        ap (λ z. region_at q (regions z)) here
        ∙ each_at (put_here place new) q xo args rest is
        ∙ ap (λ l. Some (block args (put_here place new (head xo).id q l))) unput
        ∙ ap (λ c. Some (block args (cond c (put_in place.before new rest) rest))) other

    pub block_made : (p q : ℕ) → HasBlock p q m.tree → HasBlock p q (put place (with_id m.next o) m.tree)
    block_made p q b =
        let new = with_id m.next o in
        let k = found_stands p t b.here b.found in
        let here : has_id p t ≡ true = ap (λ i. has_id i t) (sym k.2) ∙ stand_present [] t k.0 k.1 in
        record {
          here = put place new b.here;
          found = put_find place new p (absent_find p new (fresh p here)) t ∙ ap (option_map (put place new)) b.found;
          args = b.args;
          list = put_here place new (head b.here).id q (ops_each_list (put_here place new) b.list);
          is = each_at (put_here place new) q b.here b.args b.list b.is;
        }

  -- ---- operation l of a block of y gets another operand
  module _ (m : Module) (s : Across x y insertion hx hy deep m) (l i : ℕ) (v : Value) (x_apart : eqb x l ≡ false) (y_apart : eqb y l ≡ false) (other : (j : ℕ) → same_value (Result y j) v ≡ false) (wellformed : IsWellFormed is_isolated (edited (SetOperand l i v) m)) where
    abbrev f : Header → Header
    f = at l (put_operand i v)

    abbrev alike : (h : Header) → Alike (at l (put_operand i v) h) h
    alike = alike_at l (put_operand i v) (λ h. record { id = refl; name = refl; results = refl })

    id_of_head : (b : ℕ) (h : Header) → option_map head (find b m.tree) ≡ Some h → h.id ≡ b
    id_of_head b h e = (let q = there_of (find b m.tree) h e in let k = found_stands b m.tree q.0 q.1 in ap (λ (z : Header). z.id) (sym q.2) ∙ ap (λ (z : Operation). (head z).id) (sym k.3) ∙ k.2)

    same_head_of : (b : ℕ) (h : Header) → option_map head (find b m.tree) ≡ Some h → eqb b l ≡ false → option_map head (find b (with_operand l i v m.tree)) ≡ Some h
    same_head_of b h e apart = heads_headed f alike m.tree b ∙ ap (option_map f) e ∙ ap Some (ap (λ c. cond c (put_operand i v h) h) (ap (λ z. eqb z l) (id_of_head b h e) ∙ apart))

    pub across_set : Across x y insertion hx hy deep (edited (SetOperand l i v) m)
    across_set = record {
      located = headed.located_headed is_isolated f alike x insertion m s.located wellformed;
      before = before_headed f alike m.tree y x s.before;
      x_is = same_head_of x hx s.x_is x_apart;
      y_is = same_head_of y hy s.y_is y_apart;
      unused = λ j. unused_set l i v (Result y j) m.tree (other j) (s.unused j);
      near = λ u e n. headed.dominated_by_headed is_isolated f alike m.tree y u ∙ s.near u (sym (headed.dominated_by_headed is_isolated f alike m.tree x u) ∙ e) n;
      depths = arounds;
    }
      where
        arounds : around x (with_operand l i v m.tree) ≡ Some deep
        arounds =
            (let n = headed.located_headed is_isolated f alike x insertion m s.located wellformed in
            ap (λ k. around k (with_operand l i v m.tree)) (sym n.at.id) ∙ around_at (with_operand l i v m.tree) wellformed.distinct (stand n.at.here (n.at.step_in ∷ n.at.path)) n.at.there
            ∙ ap Some (length-map (s.located.at.step_in ∷ s.located.at.path) (edit_step f))
            ∙ sym (ap (λ k. around k m.tree) (sym s.located.at.id) ∙ around_at m.tree s.located.wellformed.distinct (stand s.located.at.here (s.located.at.step_in ∷ s.located.at.path)) s.located.at.there)
            ∙ s.depths)

    pub side_set : (q : ℕ) (args : List TypeTerm) (ws : List Operation) → ((p : Operation) → In p ws → has_id l p ≡ false) → region_at q (regions s.located.at.here) ≡ Some (block args (joined_ops ws no_ops)) → region_at q (regions across_set.located.at.here) ≡ Some (block args (joined_ops ws no_ops))
    unfolding across_set
    side_set q args ws lacks is =
        each_region f s.located.at.here q ∙ ap (option_map (region_each_head f)) is
        ∙ ap (λ k. Some (block args k)) (ops_unedited l (put_operand i v) (joined_ops ws no_ops) (absent_all l ws lacks))

    pub block_set : (p q : ℕ) → HasBlock p q m.tree → HasBlock p q (with_operand l i v m.tree)
    block_set p q b = block_headed f alike m.tree p q b
