-- The first operation of a block of x moves before y, which comes before x.
use Rattle.std.proofs.Common.{◌≡◌, refl, ap, sym, ◌∙◌, subst, ℕ, suc, ◌+◌, ◌<◌, ◌≤◌, Bool, true, false, true≢false, not, ◌&&◌, ◌||◌, cond, eqb, eq-eqb, eqb-true, List, [], ◌∷◌, ◌++◌, length, Option, Some, None, option_map, inl, inr, ◌⊎◌, arith, le-leb, lt-ltb}
use Rattle.std.specs.List.{list_all}
use Rattle.std.specs.Prelude.{is_some, nat_lt, slice_get, option_and_then}
use Rattle.ir_event.specs.types.Words.{is_isolated, is_table}
use Rattle.ir_event.specs.types.Terms.{TypeTerm, AttrTerm}
use Rattle.ir_event.specs.trees.declared.value.Value.{Value}
use Rattle.ir_event.specs.trees.declared.value.Value.TheVariants.{Result, Arg}
use Rattle.ir_event.specs.trees.declared.place.Place.{Place}
use Rattle.ir_event.specs.trees.Tree.{block, OpsOf, no_ops, next, head, regions}
use Rattle.ir_event.specs.trees.Ids.{HasDistinctIds, find, has_id, op_count}
use Rattle.ir_event.specs.trees.Frames.{owner_of}
use Rattle.ir_event.specs.trees.Limits.{depth, most_around}
use Rattle.ir_event.specs.trees.Places.{drop_op, each_list, is_in_block, ops_each_list, put, put_here, put_in, without}
use Rattle.ir_event.specs.trees.Sites.{arguments, shows, visible}
use Rattle.ir_event.specs.trees.Uses.{uses_of}
use Rattle.ir_event.specs.trees.Meaning.{Operation}
use Rattle.ir_event.specs.trees.WellFormed.{IsWellFormed}
use Rattle.ir_event.proofs.of_trees.Moves.{ops_unput, ops_untouched}
use Rattle.ir_event.proofs.of_trees.Left.{left_distinct}
use Rattle.ir_event.specs.tree_laws.Stands.{OpWithPathOf, StepOf, dropping, op_with_path_id, stands, dominated_by as dominated_by_from}
use Rattle.ir_event.specs.tree_laws.Tables.{table_of}
use Rattle.ir_event.specs.tree_laws.Members.{In}
use Rattle.ir_event.specs.tree_laws.Reads.{around}
use Rattle.ir_event.specs.tree_laws.Reasons.{fits_around, has_place, leads_inside, shift_reason}
use Rattle.ir_event.specs.tree_laws.Values.{region_at, type_of_value}
use Rattle.ir_event.proofs.of_tree_laws.Around.{absent_find, stand_present}
use Rattle.ir_event.proofs.of_tree_laws.Edited.{dominance_stays}
use Rattle.ir_event.proofs.of_tree_laws.Listed.{both, either}
use Rattle.ir_event.proofs.of_tree_laws.Members.{found_stands, joined_ops, stand, stand_found}
use Rattle.ir_event.proofs.of_tree_laws.Put.{put_find}
use Rattle.ir_event.proofs.of_tree_laws.Readings.{step}
use Rattle.ir_event.proofs.of_tree_laws.DominatedBy.{visible_there}
use Rattle.ir_event.proofs.of_tree_laws.Values.{not_own}
use Rattle.ir_event.proofs.of_tree_laws.Without.{same_head}
use Rattle.ir_event.specs.Modules.{Module}
use Rattle.rewriter_machine.specs.Contents.{edit_reason, edited}
use Rattle.rewriter_machine.specs.Edits.{Move}
use Rattle.patterns_base.proofs.Preceding.{cut_at, stands_before}
use Rattle.patterns_base.proofs.Given.{seen_is}
use Rattle.patterns_base.proofs.Headed.{found_there}
use Rattle.patterns_base.proofs.Placed as placed
use Rattle.patterns_base.proofs.Placed.{Following}
use Rattle.patterns_base.proofs.Plans.{dominated_by}
use Rattle.patterns_soundness.specs.base.Looks.{Header}
use Rattle.patterns_soundness.specs.base.Lowering.{next_to}
use Rattle.patterns_soundness.proofs.Across.{argument_within, after_inside, inside_after, later_outside, not_parent, not_root, one_stands, sibling_inside}
use Rattle.patterns_soundness.proofs.Kept as kept
use Rattle.patterns_soundness.proofs.Kept.{Kept}
use Rattle.patterns_soundness.proofs.Moving as moving
use Rattle.patterns_soundness.proofs.Moving.{HasBlock, located_left}
use Rattle.patterns_soundness.proofs.Ordered.{Before, Inside, around_at, inner_dominated_by, inner_table, inside_left, later_around, later_dominated_by, later_shows, later_table, put_before, there_left}
use Rattle.patterns_soundness.proofs.Steps.{Across, IsWithinLimits, Lack, UsedBy, absent_all, across_moved, count_moved, each_at, nothing, side_moved, there_of, used_there, users_moved}
use Rattle.std.proofs.lemmas.Option.{slice_get_within}

abbrev OpWithPath : Type 0
OpWithPath = OpWithPathOf (List ℕ) TypeTerm AttrTerm

module _ (x y r : ℕ) (insertion : Place) (hx hy : Header) (deep : ℕ) (x_opened : is_isolated hx.name ≡ false) (x_plain : is_table hx.name ≡ false)
    (m : Module) (s : Across x y insertion hx hy deep m) (z : Operation) (vs : List Operation) (args : List TypeTerm) (is : region_at r (regions s.located.at.here) ≡ Some (block args (joined_ops (z ∷ vs) no_ops)))
    (spared : (k : ℕ) → uses_of (Arg x r k) m.tree ≡ []) (fits_in : IsWithinLimits x y insertion hx hy deep z) (fits : (o : Operation) → In o vs → IsWithinLimits x y insertion hx hy deep o) (lacks : (o : Operation) → In o vs → Lack z o) (users : UsedBy z vs m.tree) where
  abbrev t : Operation
  t = m.tree

  abbrev d : HasDistinctIds m.tree
  d = s.located.wellformed.distinct

  abbrev zi : ℕ
  zi = (head z).id

  abbrev xo : Operation
  xo = s.located.at.here

  abbrev xp : List (StepOf (List ℕ) TypeTerm AttrTerm)
  xp = s.located.at.step_in ∷ s.located.at.path

  abbrev place : Place
  place = next_to insertion y

  abbrev zp : List (StepOf (List ℕ) TypeTerm AttrTerm)
  zp = step s.located.at.here r args [] (joined_ops vs no_ops) ∷ s.located.at.step_in ∷ s.located.at.path

  z_there : In (stand z (step s.located.at.here r args [] (joined_ops vs no_ops) ∷ s.located.at.step_in ∷ s.located.at.path)) (stands [] m.tree)
  z_there = one_stands t d xo xp s.located.at.there r args (z ∷ vs) is [] vs z refl

  found : find (head z).id m.tree ≡ Some z
  found = stand_found t d (stand z zp) z_there

  root : eqb (head m.tree).id (head z).id ≡ false
  root = not_root t d z (step xo r args [] (joined_ops vs no_ops)) xp z_there

  x_found : find x m.tree ≡ Some s.located.at.here
  x_found = found_there is_isolated x insertion m s.located

  x_head : head s.located.at.here ≡ hx
  x_head = (let two : Some (head xo) ≡ Some hx = sym (ap (option_map head) x_found) ∙ s.x_is in cc)

  y_after : Following y (next_to insertion y) m.tree
  y_after = inside_after y place t refl (sibling_inside t d insertion.parent insertion.region y x (after_inside x insertion t s.located.at) s.before)

  point : has_place (next_to insertion y) m.tree ≡ true
  point = placed.point y place t d y_after

  outside : leads_inside (next_to insertion y) (Some z) ≡ false
  outside = λ i. fits_in.parent_out i || fits_in.y_out i

  abbrev after : Operation
  after = put (next_to insertion y) z (without (head z).id m.tree)

  abbrev d' : HasDistinctIds (put (next_to insertion y) z (without (head z).id m.tree))
  d' = moving.after_distinct is_isolated is_table m s.located.wellformed z (next_to insertion y) found root point outside

  there : (b : ℕ) → option_map head (find b m.tree) ≡ Some hy → has_id b m.tree ≡ true
  there b e = (let o = there_of (find b t) hy e in let w = found_stands b t o.0 o.1 in ap (λ i. has_id i t) (sym w.2) ∙ stand_present [] t w.0 w.1)

  y_there : has_id y m.tree ≡ true
  y_there = there y s.y_is

  x_there : has_id x m.tree ≡ true
  x_there = ap (λ i. has_id i t) (sym s.located.at.id) ∙ stand_present [] t (stand xo xp) s.located.at.there

  -- then z comes directly before y
  pub now_before : Before (head z).id y (put (next_to insertion y) z (without (head z).id m.tree))
  now_before = put_before (next_to insertion y) z (without zi t) (moving.may is_isolated is_table m s.located.wellformed z (next_to insertion y) found root point outside) y refl

  pub now_found : find (head z).id (put (next_to insertion y) z (without (head z).id m.tree)) ≡ Some z
  now_found = moving.itself_found is_isolated is_table m s.located.wellformed z (next_to insertion y) found root point outside

  y_apart : eqb y (head z).id ≡ false
  y_apart = kept.apart is_isolated is_table m s.located.wellformed z (next_to insertion y) found root point outside (λ b. ⊥) (λ b h. absurd h) (λ b h. absurd h) y fits_in.y_out

  -- its results still dominate x
  x_before : Before y x (put (next_to insertion y) z (without (head z).id m.tree))
  x_before = moving.before_same is_isolated is_table m s.located.wellformed z (next_to insertion y) found root point outside x x_there fits_in.x_out y y_apart s.before

  y_dominated_by_new : (k : ℕ) → k < length (head z).results → visible is_isolated (put (next_to insertion y) z (without (head z).id m.tree)) y (Result (head z).id k) ≡ true
  y_dominated_by_new k l = later_shows is_isolated after d' zi y now_before z now_found k (lt-ltb k (length (head z).results) l)

  x_dominated_by_new : (k : ℕ) → k < length (head z).results → visible is_isolated (put (next_to insertion y) z (without (head z).id m.tree)) x (Result (head z).id k) ≡ true
  x_dominated_by_new k l = later_dominated_by is_isolated after d' y x x_before (Result zi k) (y_dominated_by_new k l)

  -- the values that z needs dominate it there
  abbrev IsUsed : Value → Type 0
  IsUsed v = (u : ℕ × ℕ) × In u (uses_of v m.tree)

  argument_is : (v : Value) → shows v (arguments (head s.located.at.here).id r (length args)) ≡ true → (k : ℕ) × (v ≡ Arg x r k)
  argument_is (Result i k) e = absurd (true≢false (sym e))
  argument_is (Arg i q k) e =
      let c = both (eqb i (head xo).id) (eqb q r && nat_lt k (length args)) e in
      let own : i ≡ x = eqb-true i (head xo).id c.0 ∙ s.located.at.id in
      let re = eqb-true q r (both (eqb q r) _ c.1).0 in
      (k, λ j. Arg (own j) (re j) k)

  not_of_y : (v : Value) → IsUsed v → dominated_by_from is_isolated (s.located.at.step_in ∷ s.located.at.path) v ≡ true → eqb (owner_of v).0 y ≡ false
  not_of_y v u e = go (eqb (owner_of v).0 y) refl v refl
    where
      yo : (o : Operation) × (find y m.tree ≡ Some o) × (head o ≡ hy)
      yo = there_of (find y t) hy s.y_is

      ys : (k : OpWithPath) × In k (stands [] m.tree) × (op_with_path_id k ≡ y) × (k.here ≡ yo.0)
      ys = found_stands y t yo.0 yo.1

      go : (b : Bool) → eqb (owner_of v).0 y ≡ b → (w : Value) → v ≡ w → eqb (owner_of v).0 y ≡ false
      go false f w same = f
      go true f (Result i k) same =
          let of : i ≡ y = eqb-true i y (ap (λ (z : Value). eqb (owner_of z).0 y) (sym same) ∙ f) in
          absurd (subst (In u.0) (ap (λ z. uses_of z t) (same ∙ ap (λ z. Result z k) of) ∙ s.unused k) u.1)
      go true f (Arg i q k) same =
          let of : i ≡ y = eqb-true i y (ap (λ (z : Value). eqb (owner_of z).0 y) (sym same) ∙ f) in
          let here : In (stand yo.0 ys.0.path) (stands [] t) = subst (λ (z : Operation). In (stand z ys.0.path) (stands [] t)) ys.3 ys.1 in
          let id : (head yo.0).id ≡ y = ap (λ (z : Operation). (head z).id) (sym ys.3) ∙ ys.2 in
          let inner = argument_within t d yo.0 ys.0.path here is_isolated xo xp s.located.at.there q k (ap (dominated_by_from is_isolated xp) (λ j. Arg ((id ∙ sym of) j) q k) ∙ ap (dominated_by_from is_isolated xp) (sym same) ∙ e) in
          absurd (true≢false (sym (ap (λ z. has_id z yo.0) (sym s.located.at.id) ∙ inner) ∙ later_outside t d y x s.before yo.0 yo.1))

  more : (v : Value) → IsUsed v → dominated_by_from is_isolated (step s.located.at.here r args [] (joined_ops vs no_ops) ∷ s.located.at.step_in ∷ s.located.at.path) v ≡ true → visible is_isolated (put (next_to insertion y) z (without (head z).id m.tree)) (head z).id v ≡ true
  more v u e = elim (either (shows v (arguments (head xo).id r (length args))) _ e) [
    | inl k ↦ (let a = argument_is v k in absurd (subst (In u.0) (ap (λ w. uses_of w t) a.1 ∙ spared a.0) u.1))
    | inr k ↦ (let around = (both (not (is_isolated (head xo).name)) (dominated_by_from is_isolated xp v) k).1 in
        let by_x : visible is_isolated t x v ≡ true = ap (λ i. visible is_isolated t i v) (sym s.located.at.id) ∙ visible_there is_isolated t d (stand xo xp) s.located.at.there v ∙ around in
        let by_y = s.near v by_x (not_of_y v u around) in
        let left = there_left t z d found y y_there fits_in.y_out in
        let u_after : Following y (next_to insertion y) (without zi t) = inside_after y place (without zi t) refl (inside_left zi insertion.parent insertion.region y t d left (after_inside y place t y_after)) in
        placed.new_dominated_by y (next_to insertion y) (without zi t) (left_distinct zi t d) u_after z (moving.may is_isolated is_table m s.located.wellformed z (next_to insertion y) found root point outside) is_isolated v
        (dominance_stays zi t d y left is_isolated v (not_its v e) ∙ by_y))
  ]
    where
      not_its : (v : Value) → dominated_by_from is_isolated (step s.located.at.here r args [] (joined_ops vs no_ops) ∷ s.located.at.step_in ∷ s.located.at.path) v ≡ true → eqb (owner_of v).0 (head z).id ≡ false
      not_its v e = go (eqb (owner_of v).0 zi) refl
        where
          go : (b : Bool) → eqb (owner_of v).0 (head z).id ≡ b → eqb (owner_of v).0 (head z).id ≡ false
          go false k = k
          go true k = absurd (not_own is_isolated t d (stand z zp) z_there v e (eqb-true (owner_of v).0 zi k))

  pub x_head_after : option_map head (find x (put (next_to insertion y) z (without (head z).id m.tree))) ≡ Some hx
  x_head_after = moving.head_same is_isolated is_table m s.located.wellformed z (next_to insertion y) found root point outside x x_there fits_in.x_out ∙ s.x_is

  -- the other operations of the block
  module _ (o : Operation) (i : In o vs) where
    its_stand : (q : List (StepOf (List ℕ) TypeTerm AttrTerm)) × In (stand o q) (stands [] m.tree) × Inside x r (head o).id m.tree
    its_stand =
        let c = cut_at o vs i in
        let h = one_stands t d xo xp s.located.at.there r args (z ∷ vs) is (z ∷ c.0) c.1 o (ap (λ l. z ∷ l) c.2) in
        (_, h, record { here = o; step_in = step xo r args (z ∷ c.0) (joined_ops c.1 no_ops); path = xp; there = h; id = refl; parent = s.located.at.id; region = refl })

    pub other_found : find (head o).id m.tree ≡ Some o
    other_found = stand_found t d (stand o its_stand.0) its_stand.1

    other_there : has_id (head o).id m.tree ≡ true
    other_there = stand_present [] t (stand o its_stand.0) its_stand.1

    other_dominated_by : (k : ℕ) → k < length (head z).results → visible is_isolated (put (next_to insertion y) z (without (head z).id m.tree)) (head o).id (Result (head z).id k) ≡ true
    other_dominated_by k l =
        let inside = moving.inside_same is_isolated is_table m s.located.wellformed z (next_to insertion y) found root point outside (head o).id other_there (lacks o i).0 x r its_stand.2 in
        let xn = there_of (find x after) hx x_head_after in
        inner_dominated_by is_isolated after d' x r (head o).id inside xn.0 xn.1 (ap (λ (h : Header). is_isolated h.name) xn.2 ∙ x_opened) (Result zi k) (x_dominated_by_new k l)

  users_ok : (k : ℕ) → k < length (head z).results → list_all (λ u. visible is_isolated (put (next_to insertion y) z (without (head z).id m.tree)) u.0 (Result (head z).id k)) (uses_of (Result (head z).id k) m.tree) ≡ true
  users_ok k l = users_moved x y insertion hx hy deep m s z (next_to insertion y) found root point outside fits_in vs users other_found lacks (λ o i. (fits o i).parent_out) other_dominated_by k l

  tables : table_of is_table (head z).id m.tree ≡ table_of is_table (head z).id (put (next_to insertion y) z (without (head z).id m.tree))
  tables =
      let inside : Inside x r zi t = record { here = z; step_in = step xo r args [] (joined_ops vs no_ops); path = xp; there = z_there; id = refl; parent = s.located.at.id; region = refl } in
      inner_table is_table t d x r zi inside xo x_found (ap (λ (h : Header). is_table h.name) x_head ∙ x_plain)
      ∙ sym (later_table is_table t d y x s.before)
      ∙ sym (moving.table_same is_isolated is_table m s.located.wellformed z (next_to insertion y) found root point outside y y_there fits_in.y_out)
      ∙ sym (later_table is_table after d' zi y now_before)

  levels : fits_around (depth z) (around (next_to insertion y).parent m.tree) ≡ true
  levels =
      let n = placed.around_is y place t d y_after in
      let a = ap (λ i. around i t) (sym y_after.id) ∙ around_at t d (stand y_after.here (y_after.step_in ∷ y_after.path)) y_after.there in
      let same : Some deep ≡ Some (length (y_after.step_in ∷ y_after.path)) = sym s.depths ∙ sym (later_around t d y x s.before) ∙ a in
      let is : deep ≡ length (y_after.step_in ∷ y_after.path) = cc in
      let few = fits_in.levels in
      ap (fits_around (depth z)) n ∙ le-leb (length y_after.path + 1 + depth z) most_around (omega (arith, few, is))

  parent : has_id (next_to insertion y).parent m.tree ≡ true
  parent = placed.parent_is y place t d y_after

  -- the move isn't refused
  pub out_reason : edit_reason (Move (head z).id (next_to insertion y)) m ≡ None
  out_reason = moving.move_reason is_isolated is_table m s.located.wellformed z (next_to insertion y) found root point outside zp z_there IsUsed (used_there t z zp z_there) more users_ok parent tables levels

  out_wellformed : IsWellFormed is_isolated (record m { tree = put (next_to insertion y) z (without (head z).id m.tree) })
  out_wellformed = moving.move_wellformed is_isolated is_table m s.located.wellformed z (next_to insertion y) found root point outside zp z_there IsUsed (used_there t z zp z_there) more users_ok parent tables levels

  pub out_is : edited (Move (head z).id (next_to insertion y)) m ≡ record m { tree = put (next_to insertion y) z (without (head z).id m.tree) }
  out_is = ap (λ q. record m { tree = q }) (moving.is_put is_isolated is_table m s.located.wellformed z (next_to insertion y) found root point outside)

  -- x and y stay as they were
  pub out_across : Across x y insertion hx hy deep (record m { tree = put (next_to insertion y) z (without (head z).id m.tree) })
  out_across = across_moved x y insertion hx hy deep m s z (next_to insertion y) found root point outside fits_in out_wellformed seen
    where
      seen : (v : Value) → (owner_of v).0 ≡ (head z).id → visible is_isolated (put (next_to insertion y) z (without (head z).id m.tree)) x v ≡ true → eqb (owner_of v).0 y ≡ false → visible is_isolated (put (next_to insertion y) z (without (head z).id m.tree)) y v ≡ true
      seen (Result i k) own e n = subst (λ j. visible is_isolated (put (next_to insertion y) z (without (head z).id m.tree)) x (Result j k) ≡ true → visible is_isolated (put (next_to insertion y) z (without (head z).id m.tree)) y (Result j k) ≡ true) (sym own) (by_number k) e
        where
          by_number : (k : ℕ) → visible is_isolated (put (next_to insertion y) z (without (head z).id m.tree)) x (Result (head z).id k) ≡ true → visible is_isolated (put (next_to insertion y) z (without (head z).id m.tree)) y (Result (head z).id k) ≡ true
          by_number k e =
              (let h = seen_is is_isolated after d' x (Result zi k) e in
              y_dominated_by_new k (few (slice_get (head z).results k) refl (sym (ap (λ f. is_some (option_and_then (λ o. slice_get (head o).results k) f)) now_found) ∙ h)))
            where
              few : (f : Option TypeTerm) → slice_get (head z).results k ≡ f → is_some f ≡ true → k < length (head z).results
              few None e h = absurd (true≢false (sym h))
              few (Some ty) e h = slice_get_within (head z).results k ty e
      seen (Arg i q k) own e n =
          let xn = there_of (find x after) hx x_head_after in
          let w = found_stands x after xn.0 xn.1 in
          let zn = found_stands zi after z now_found in
          let z_now : In (stand z zn.0.path) (stands [] after) = subst (λ (o : Operation). In (stand o zn.0.path) (stands [] after)) zn.3 zn.1 in
          let dominance : dominated_by_from is_isolated w.0.path (Arg zi q k) ≡ true = ap (λ j. dominated_by_from is_isolated w.0.path (Arg j q k)) (sym own) ∙ sym (visible_there is_isolated after d' w.0 w.1 (Arg i q k)) ∙ ap (λ j. visible is_isolated after j (Arg i q k)) w.2 ∙ e in
          absurd (true≢false (sym (ap (λ j. has_id j z) (sym w.2) ∙ argument_within after d' z zn.0.path z_now is_isolated w.0.here w.0.path w.1 q k dominance) ∙ fits_in.x_out))

  pub out_block : (p q : ℕ) → has_id p z ≡ false → HasBlock p q m.tree → HasBlock p q (put (next_to insertion y) z (without (head z).id m.tree))
  out_block p q out b = moving.block_same is_isolated is_table m s.located.wellformed z (next_to insertion y) found root point outside p q out b

  pub out_used : (v : Value) (u : ℕ × ℕ) → In u (uses_of v (put (next_to insertion y) z (without (head z).id m.tree))) → In u (uses_of v m.tree)
  out_used = moving.used_before is_isolated is_table m s.located.wellformed z (next_to insertion y) found root point outside

  pub out_kept : (B : ℕ → Type 0) → ((b : ℕ) → B b → has_id b m.tree ≡ true) → ((b : ℕ) → B b → has_id b z ≡ false) → Kept is_isolated B m.tree (put (next_to insertion y) z (without (head z).id m.tree))
  out_kept B all out = kept.moved_kept is_isolated is_table m s.located.wellformed z (next_to insertion y) found root point outside B all out

  -- an operation before y that stays as it is
  pub out_moved : (o : Operation) → Lack z o → has_id insertion.parent o ≡ false → Before (head o).id y m.tree → find (head o).id m.tree ≡ Some o
      → Before (head o).id y (put (next_to insertion y) z (without (head z).id m.tree)) × (find (head o).id (put (next_to insertion y) z (without (head z).id m.tree)) ≡ Some o)
  out_moved o lack far before at = (
    moving.before_same is_isolated is_table m s.located.wellformed z (next_to insertion y) found root point outside y y_there fits_in.y_out (head o).id
        (kept.apart is_isolated is_table m s.located.wellformed z (next_to insertion y) found root point outside (λ b. ⊥) (λ b h. absurd h) (λ b h. absurd h) (head o).id lack.0) before,
    moving.literal is_isolated is_table m s.located.wellformed z (next_to insertion y) found root point outside o at lack.0 lack.1 far,
  )

  -- the block has the other operations
  pub out_list : region_at r (regions out_across.located.at.here) ≡ Some (block args (joined_ops vs no_ops))
  out_list =
      let rest = joined_ops vs no_ops in
      let id : (head xo).id ≡ x = s.located.at.id in
      let left = located_left t z xo d found (ap (λ i. find i t) id ∙ x_found) (ap (λ i. has_id i z) id ∙ fits_in.x_out) in
      let now : find x after ≡ Some (put place z (each_list (dropping zi) xo)) = put_find place z x (absent_find x z fits_in.x_out) (without zi t) ∙ ap (option_map (put place z)) (ap (λ i. find i (without zi t)) (sym id) ∙ left) in
      let same : Some out_across.located.at.here ≡ Some (put place z (each_list (dropping zi) xo)) = sym (found_there is_isolated x insertion (record m { tree = after }) out_across.located) ∙ now in
      let here : out_across.located.at.here ≡ put place z (each_list (dropping zi) xo) = cc in
      let one = each_at (dropping zi) r xo args (next z rest) is in
      let two = each_at (put_here place z) r (each_list (dropping zi) xo) args (drop_op zi (ops_each_list (dropping zi) (next z rest))) one in
      let dropped : drop_op zi (ops_each_list (dropping zi) (next z rest)) ≡ rest =
      ap (λ c. cond c (drop_op zi (ops_each_list (dropping zi) rest)) (next (each_list (dropping zi) z) (drop_op zi (ops_each_list (dropping zi) rest)))) (eq-eqb (head (each_list (dropping zi) z)).id zi (ap (λ (h : Header). h.id) (same_head zi (dropping zi) z)))
      ∙ ops_untouched zi rest (absent_all zi vs (λ o i. (lacks o i).1)) in
      let unput = ops_unput place z rest (absent_all insertion.parent vs (λ o i. (fits o i).parent_out)) in
      let elsewhere : is_in_block place (head (each_list (dropping zi) xo)).id r ≡ false = (λ i. eqb ((ap (λ (h : Header). h.id) (same_head zi (dropping zi) xo) ∙ id) i) insertion.parent && eqb r insertion.region) ∙ λ i. not_parent x insertion t d s.located.at i && eqb r insertion.region in
      ap (λ o. region_at r (regions o)) here
      ∙ two
      ∙ ap (λ l. Some (block args (put_here place z (head (each_list (dropping zi) xo)).id r (ops_each_list (put_here place z) l)))) dropped
      ∙ ap (λ l. Some (block args (put_here place z (head (each_list (dropping zi) xo)).id r l))) unput
      ∙ ap (λ c. Some (block args (cond c (put_in place.before z rest) rest))) elsewhere

  pub out_side : (q : ℕ) (targs : List TypeTerm) (ws : List Operation) → ((o : Operation) → In o ws → (has_id (head z).id o ≡ false) × (has_id insertion.parent o ≡ false)) → region_at q (regions s.located.at.here) ≡ Some (block targs (joined_ops ws no_ops))
      → region_at q (regions out_across.located.at.here) ≡ Some (block targs (joined_ops ws no_ops))
  out_side q targs ws lacks side = side_moved x y insertion hx hy deep m s z (next_to insertion y) found root point outside fits_in out_across.located q targs ws lacks (λ i. not_parent x insertion t d s.located.at i && eqb q insertion.region) side

  pub out_count : op_count (put (next_to insertion y) z (without (head z).id m.tree)) ≡ op_count m.tree
  out_count = count_moved x y insertion hx hy deep m s z (next_to insertion y) found root point outside fits_in
