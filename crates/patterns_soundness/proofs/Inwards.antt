-- An operation before y moves into a block of y: at the end, or before an operation that moved there earlier.
use Rattle.std.proofs.Common.{◌≡◌, refl, ap, sym, ◌∙◌, subst, ℕ, suc, ◌+◌, ◌<◌, ◌≤◌, Bool, true, false, true≢false, not, ◌&&◌, ◌||◌, eqb, eqb-true, List, [], ◌∷◌, length, Option, Some, None, option_map, inl, inr, ◌⊎◌, arith, le-leb, lt-ltb}
use Rattle.std.specs.List.{list_all}
use Rattle.std.specs.Prelude.{nat_lt}
use Rattle.ir_event.specs.types.Words.{is_isolated, is_table}
use Rattle.ir_event.specs.types.Terms.{TypeTerm, AttrTerm}
use Rattle.ir_event.specs.trees.declared.value.Value.{Value}
use Rattle.ir_event.specs.trees.declared.value.Value.TheVariants.{Result}
use Rattle.ir_event.specs.trees.declared.place.Place.{Place}
use Rattle.ir_event.specs.trees.Tree.{block, head, no_ops, regions}
use Rattle.ir_event.specs.trees.Ids.{HasDistinctIds, find, has_id, op_count}
use Rattle.ir_event.specs.trees.Frames.{owner_of}
use Rattle.ir_event.specs.trees.Limits.{depth, most_around}
use Rattle.ir_event.specs.trees.Places.{put, without}
use Rattle.ir_event.specs.trees.Sites.{visible}
use Rattle.ir_event.specs.trees.Uses.{uses_of}
use Rattle.ir_event.specs.trees.Meaning.{Operation}
use Rattle.ir_event.specs.trees.WellFormed.{IsWellFormed}
use Rattle.ir_event.proofs.of_trees.Left.{left_distinct}
use Rattle.ir_event.specs.tree_laws.Stands.{OpWithPathOf, StepOf, op_with_path_id, stands, dominated_by as dominated_by_from}
use Rattle.ir_event.specs.tree_laws.Tables.{table_of}
use Rattle.ir_event.specs.tree_laws.Members.{In}
use Rattle.ir_event.specs.tree_laws.Reads.{around}
use Rattle.ir_event.specs.tree_laws.Reasons.{fits_around, has_place, leads_inside}
use Rattle.ir_event.specs.tree_laws.Values.{region_at}
use Rattle.ir_event.proofs.of_tree_laws.Around.{stand_present}
use Rattle.ir_event.proofs.of_tree_laws.Edited.{dominance_stays}
use Rattle.ir_event.proofs.of_tree_laws.Members.{found_stands, joined_ops, stand, stand_found}
use Rattle.ir_event.proofs.of_tree_laws.Put.{of_point}
use Rattle.ir_event.proofs.of_tree_laws.DominatedBy.{visible_there}
use Rattle.ir_event.proofs.of_tree_laws.Values.{not_own}
use Rattle.ir_event.specs.Modules.{Module}
use Rattle.rewriter_machine.specs.Contents.{edit_reason, edited}
use Rattle.rewriter_machine.specs.Edits.{Move}
use Rattle.patterns_base.proofs.Preceding.{stands_before}
use Rattle.patterns_base.proofs.Placed as placed
use Rattle.patterns_base.proofs.Placed.{Following}
use Rattle.patterns_base.proofs.Plans.{dominated_by}
use Rattle.patterns_soundness.specs.base.Looks.{Header}
use Rattle.patterns_soundness.proofs.Across.{inner_unseen, inside_after, not_root}
use Rattle.patterns_soundness.proofs.Kept as kept
use Rattle.patterns_soundness.proofs.Kept.{Kept}
use Rattle.patterns_soundness.proofs.Moving as moving
use Rattle.patterns_soundness.proofs.Moving.{HasBlock}
use Rattle.patterns_soundness.proofs.Ordered.{Before, Inside, before_both, inner_dominated_by, inner_table, inside_left, later_around, later_dominated_by, later_shows, later_table, put_before, put_inside, put_last, there_left}
use Rattle.patterns_soundness.proofs.Steps.{Across, IsWithinLimits, Lack, UsedBy, across_moved, count_moved, side_moved, there_of, two_apart, users_moved}

abbrev OpWithPath : Type 0
OpWithPath = OpWithPathOf (List ℕ) TypeTerm AttrTerm

-- an operation that moved into a block of y
abbrev pub Came : ℕ → ℕ → Operation → Operation → Type 0
Came y r t o = Inside y r (head o).id t × (find (head o).id t ≡ Some o)

-- the first of the moved operations, if there is one
abbrev pub first_came : List Operation → Option ℕ
first_came [] = None
first_came (o ∷ vs) = Some (head o).id

-- it comes before the other moved operations
abbrev pub IsFirst : List Operation → Operation → Type 0
IsFirst [] t = Unit {0}
IsFirst (p ∷ vs) t = (o : Operation) → In o vs → Before (head p).id (head o).id t

module _ (x y r : ℕ) (insertion : Place) (hx hy : Header) (deep : ℕ) (y_opened : is_isolated hy.name ≡ false) (y_plain : is_table hy.name ≡ false)
    (m : Module) (s : Across x y insertion hx hy deep m) (into : HasBlock y r m.tree) (z : Operation) (before : Before (head z).id y m.tree) (at : find (head z).id m.tree ≡ Some z) (vs : List Operation) (came : (o : Operation) → In o vs → Came y r m.tree o) (first : IsFirst vs m.tree)
    (fits_in : IsWithinLimits x y insertion hx hy deep z) (fits : (o : Operation) → In o vs → IsWithinLimits x y insertion hx hy deep o) (lacks : (o : Operation) → In o vs → Lack z o) (users : UsedBy z vs m.tree) where
  abbrev t : Operation
  t = m.tree

  abbrev d : HasDistinctIds m.tree
  d = s.located.wellformed.distinct

  abbrev zi : ℕ
  zi = (head z).id

  abbrev pub place_of_it : Place
  place_of_it = record { parent = y; region = r; before = first_came vs }

  z_path : (q : List (StepOf (List ℕ) TypeTerm AttrTerm)) × In (stand z q) (stands [] m.tree) × (eqb (head m.tree).id (head z).id ≡ false)
  z_path =
      let g = stands_before t before.here before.first before.step_in before.path before.there before.among in
      let one : Some before.first ≡ Some z = sym (ap (λ i. find i t) (sym before.is) ∙ stand_found t d (stand before.first (g.step_in ∷ before.path)) g.there) ∙ at in
      let is : before.first ≡ z = cc in
      let there : In (stand z (g.step_in ∷ before.path)) (stands [] t) = subst (λ (q : Operation). In (stand q (g.step_in ∷ before.path)) (stands [] t)) is g.there in
      (g.step_in ∷ before.path, there, not_root t d z g.step_in before.path there)

  found : find (head z).id m.tree ≡ Some z
  found = at

  root : eqb (head m.tree).id (head z).id ≡ false
  root = z_path.2

  y_there : has_id y m.tree ≡ true
  y_there = (let o = there_of (find y t) hy s.y_is in let w = found_stands y t o.0 o.1 in ap (λ i. has_id i t) (sym w.2) ∙ stand_present [] t w.0 w.1)

  point : has_place (record { parent = y; region = r; before = first_came vs }) m.tree ≡ true
  point = go vs came
    where
      go : (vs : List Operation) → ((o : Operation) → In o vs → Came y r m.tree o) → has_place (record { parent = y; region = r; before = first_came vs }) m.tree ≡ true
      go [] c = of_point (record { parent = y; region = r; before = None }) t (record { parent = into.here; found = into.found; args = into.args; list = into.list; is = into.is; among = refl })
      go (p ∷ vs) c = placed.point (head p).id (record { parent = y; region = r; before = Some (head p).id }) t d (inside_after (head p).id (record { parent = y; region = r; before = Some (head p).id }) t refl (c p (inl refl)).0)

  outside : leads_inside (record { parent = y; region = r; before = first_came vs }) (Some z) ≡ false
  outside = go vs lacks
    where
      go : (vs : List Operation) → ((o : Operation) → In o vs → Lack z o) → leads_inside (record { parent = y; region = r; before = first_came vs }) (Some z) ≡ false
      go [] l = λ i. fits_in.y_out i || false
      go (p ∷ vs) l = λ i. fits_in.y_out i || (l p (inl refl)).0 i

  abbrev after : Operation
  after = put (record { parent = y; region = r; before = first_came vs }) z (without (head z).id m.tree)

  abbrev d' : HasDistinctIds (put (record { parent = y; region = r; before = first_came vs }) z (without (head z).id m.tree))
  d' = moving.after_distinct is_isolated is_table m s.located.wellformed z (record { parent = y; region = r; before = first_came vs }) found root point outside

  -- then z is in the block
  pub now_inside : Inside y r (head z).id (put (record { parent = y; region = r; before = first_came vs }) z (without (head z).id m.tree))
  now_inside = put_inside place_of_it z (without zi t) (moving.may is_isolated is_table m s.located.wellformed z place_of_it found root point outside) y r refl refl

  pub now_found : find (head z).id (put (record { parent = y; region = r; before = first_came vs }) z (without (head z).id m.tree)) ≡ Some z
  now_found = moving.itself_found is_isolated is_table m s.located.wellformed z place_of_it found root point outside

  -- the operations that moved earlier stay
  module _ (o : Operation) (i : In o vs) where
    other_there : has_id (head o).id m.tree ≡ true
    other_there = (let w = found_stands (head o).id m.tree o (came o i).1 in ap (λ j. has_id j m.tree) (sym w.2) ∙ stand_present [] m.tree w.0 w.1)

    pub came_still : Came y r (put (record { parent = y; region = r; before = first_came vs }) z (without (head z).id m.tree)) o
    came_still = (
      moving.inside_same is_isolated is_table m s.located.wellformed z place_of_it found root point outside (head o).id other_there (lacks o i).0 y r (came o i).0,
      moving.literal is_isolated is_table m s.located.wellformed z place_of_it found root point outside o (came o i).1 (lacks o i).0 (lacks o i).1 (fits o i).y_out,
    )

    apart_of : eqb (head o).id (head z).id ≡ false
    apart_of = kept.apart is_isolated is_table m s.located.wellformed z place_of_it found root point outside (λ b. ⊥) (λ b h. absurd h) (λ b h. absurd h) (head o).id (lacks o i).0

  -- z comes before them
  pub now_first : IsFirst (z ∷ vs) (put (record { parent = y; region = r; before = first_came vs }) z (without (head z).id m.tree))
  now_first o i = go vs refl first o i
    where
      go : (ws : List Operation) → vs ≡ ws → IsFirst ws m.tree → (o : Operation) → In o vs → Before (head z).id (head o).id (put (record { parent = y; region = r; before = first_came vs }) z (without (head z).id m.tree))
      go [] same f o i = absurd (subst (In o) same i)
      go (p ∷ ws) same f o i =
          let to_first : Before (head z).id (head p).id after = put_before place_of_it z (without zi t) (moving.may is_isolated is_table m s.located.wellformed z place_of_it found root point outside) (head p).id (ap first_came same) in
          by_member (subst (In o) same i) to_first
        where
          by_member : In o (p ∷ ws) → Before (head z).id (head p).id (put (record { parent = y; region = r; before = first_came vs }) z (without (head z).id m.tree)) → Before (head z).id (head o).id (put (record { parent = y; region = r; before = first_came vs }) z (without (head z).id m.tree))
          by_member (inl e) b = subst (λ (q : Operation). Before (head z).id (head q).id (put (record { parent = y; region = r; before = first_came vs }) z (without (head z).id m.tree))) (sym e) b
          by_member (inr k) b =
              let pi : In p vs = subst (In p) (sym same) (inl refl) in
              before_both (head z).id (head p).id (head o).id after d' b
              (moving.before_same is_isolated is_table m s.located.wellformed z place_of_it found root point outside (head o).id (other_there o i) (lacks o i).0 (head p).id (apart_of p pi) (f o k))

  -- the values that z needs dominate it there
  abbrev Any : Value → Type 0
  Any v = Unit {0}

  more : (v : Value) → Any v → dominated_by_from is_isolated z_path.0 v ≡ true → visible is_isolated (put (record { parent = y; region = r; before = first_came vs }) z (without (head z).id m.tree)) (head z).id v ≡ true
  more v u e =
      let by_z : visible is_isolated t zi v ≡ true = visible_there is_isolated t d (stand z z_path.0) z_path.1 v ∙ e in
      let by_y = later_dominated_by is_isolated t d zi y before v by_z in
      let yn = there_of (find y after) hy (moving.head_same is_isolated is_table m s.located.wellformed z place_of_it found root point outside y y_there fits_in.y_out ∙ s.y_is) in
      inner_dominated_by is_isolated after d' y r zi now_inside yn.0 yn.1 (ap (λ (h : Header). is_isolated h.name) yn.2 ∙ y_opened) v
      (moving.dominance is_isolated is_table m s.located.wellformed z place_of_it found root point outside y y_there fits_in.y_out v (not_its (eqb (owner_of v).0 zi) refl) ∙ by_y)
    where
      not_its : (b : Bool) → eqb (owner_of v).0 (head z).id ≡ b → eqb (owner_of v).0 (head z).id ≡ false
      not_its false k = k
      not_its true k = absurd (not_own is_isolated t d (stand z z_path.0) z_path.1 v e (eqb-true (owner_of v).0 zi k))

  users_ok : (k : ℕ) → k < length (head z).results → list_all (λ u. visible is_isolated (put (record { parent = y; region = r; before = first_came vs }) z (without (head z).id m.tree)) u.0 (Result (head z).id k)) (uses_of (Result (head z).id k) m.tree) ≡ true
  users_ok k l = users_moved x y insertion hx hy deep m s z place_of_it found root point outside fits_in vs users (λ o i. (came o i).1) lacks (λ o i. (fits o i).y_out)
      (λ o i j n. later_shows is_isolated after d' zi (head o).id (now_first o i) z now_found j (lt-ltb j (length (head z).results) n)) k l

  y_now : (o : Operation) × (find y (put (record { parent = y; region = r; before = first_came vs }) z (without (head z).id m.tree)) ≡ Some o) × (head o ≡ hy)
  y_now = there_of (find y after) hy (moving.head_same is_isolated is_table m s.located.wellformed z place_of_it found root point outside y y_there fits_in.y_out ∙ s.y_is)

  tables : table_of is_table (head z).id m.tree ≡ table_of is_table (head z).id (put (record { parent = y; region = r; before = first_came vs }) z (without (head z).id m.tree))
  tables =
      later_table is_table t d zi y before
      ∙ sym (moving.table_same is_isolated is_table m s.located.wellformed z place_of_it found root point outside y y_there fits_in.y_out)
      ∙ sym (inner_table is_table after d' y r zi now_inside y_now.0 y_now.1 (ap (λ (h : Header). is_table h.name) y_now.2 ∙ y_plain))

  levels : fits_around (depth z) (around y m.tree) ≡ true
  levels = (let few = fits_in.levels in ap (fits_around (depth z)) (later_around t d y x s.before ∙ s.depths) ∙ le-leb (deep + 1 + depth z) most_around few)

  -- the move isn't refused
  pub in_reason : edit_reason (Move (head z).id (record { parent = y; region = r; before = first_came vs })) m ≡ None
  in_reason = moving.move_reason is_isolated is_table m s.located.wellformed z place_of_it found root point outside z_path.0 z_path.1 Any (λ a b v c. tt) more users_ok y_there tables levels

  in_wellformed : IsWellFormed is_isolated (record m { tree = put (record { parent = y; region = r; before = first_came vs }) z (without (head z).id m.tree) })
  in_wellformed = moving.move_wellformed is_isolated is_table m s.located.wellformed z place_of_it found root point outside z_path.0 z_path.1 Any (λ a b v c. tt) more users_ok y_there tables levels

  pub in_is : edited (Move (head z).id (record { parent = y; region = r; before = first_came vs })) m ≡ record m { tree = put (record { parent = y; region = r; before = first_came vs }) z (without (head z).id m.tree) }
  in_is = ap (λ q. record m { tree = q }) (moving.is_put is_isolated is_table m s.located.wellformed z place_of_it found root point outside)

  x_there : has_id x m.tree ≡ true
  x_there = (let o = there_of (find x t) hx s.x_is in let w = found_stands x t o.0 o.1 in ap (λ i. has_id i t) (sym w.2) ∙ stand_present [] t w.0 w.1)

  -- x and y stay as they were
  pub in_across : Across x y insertion hx hy deep (record m { tree = put (record { parent = y; region = r; before = first_came vs }) z (without (head z).id m.tree) })
  in_across = across_moved x y insertion hx hy deep m s z place_of_it found root point outside fits_in in_wellformed (λ v own e n.
      absurd (inner_unseen is_isolated after d' y r x zi
      (moving.before_same is_isolated is_table m s.located.wellformed z place_of_it found root point outside x x_there fits_in.x_out y
      (kept.apart is_isolated is_table m s.located.wellformed z place_of_it found root point outside (λ b. ⊥) (λ b h. absurd h) (λ b h. absurd h) y fits_in.y_out) s.before) now_inside v own n e))

  pub in_block : (p q : ℕ) → has_id p z ≡ false → HasBlock p q m.tree → HasBlock p q (put (record { parent = y; region = r; before = first_came vs }) z (without (head z).id m.tree))
  in_block p q out b = moving.block_same is_isolated is_table m s.located.wellformed z place_of_it found root point outside p q out b

  pub in_used : (v : Value) (u : ℕ × ℕ) → In u (uses_of v (put (record { parent = y; region = r; before = first_came vs }) z (without (head z).id m.tree))) → In u (uses_of v m.tree)
  in_used = moving.used_before is_isolated is_table m s.located.wellformed z place_of_it found root point outside

  pub in_kept : (B : ℕ → Type 0) → ((b : ℕ) → B b → has_id b m.tree ≡ true) → ((b : ℕ) → B b → has_id b z ≡ false) → Kept is_isolated B m.tree (put (record { parent = y; region = r; before = first_came vs }) z (without (head z).id m.tree))
  in_kept B all out = kept.moved_kept is_isolated is_table m s.located.wellformed z place_of_it found root point outside B all out

  -- an operation before y that stays as it is
  pub in_moved : (o : Operation) → Lack z o → has_id y o ≡ false → Before (head o).id y m.tree → find (head o).id m.tree ≡ Some o
      → Before (head o).id y (put (record { parent = y; region = r; before = first_came vs }) z (without (head z).id m.tree)) × (find (head o).id (put (record { parent = y; region = r; before = first_came vs }) z (without (head z).id m.tree)) ≡ Some o)
  in_moved o lack far b at_o = (
    moving.before_same is_isolated is_table m s.located.wellformed z place_of_it found root point outside y y_there fits_in.y_out (head o).id
        (kept.apart is_isolated is_table m s.located.wellformed z place_of_it found root point outside (λ b. ⊥) (λ b h. absurd h) (λ b h. absurd h) (head o).id lack.0) b,
    moving.literal is_isolated is_table m s.located.wellformed z place_of_it found root point outside o at_o lack.0 lack.1 far,
  )

  -- the values that dominated the first moved operation dominate z, and the values that dominated the moved ones still
  -- do
  pub in_dominated_by : (v : Value) → eqb (owner_of v).0 (head z).id ≡ false → ((o : Operation) → In o vs → dominated_by (head o).id v m ≡ true) → (p : Operation) (ws : List Operation) → vs ≡ p ∷ ws → (o : Operation) → In o (z ∷ vs)
      → visible is_isolated (put (record { parent = y; region = r; before = first_came vs }) z (without (head z).id m.tree)) (head o).id v ≡ true
  in_dominated_by v other seen p ws same o (inr i) = moving.dominance is_isolated is_table m s.located.wellformed z place_of_it found root point outside (head o).id (other_there o i) (lacks o i).0 v other ∙ seen o i
  in_dominated_by v other seen p ws same o (inl e) =
      let pi : In p vs = subst (In p) (sym same) (inl refl) in
      let left = there_left t z d found (head p).id (other_there p pi) (lacks p pi).0 in
      let b : Following (head p).id place_of_it (without zi t) = inside_after (head p).id place_of_it (without zi t) (ap first_came same) (inside_left zi y r (head p).id t d left (came p pi).0) in
      ap (λ (q : Operation). visible is_isolated after (head q).id v) e
      ∙ placed.new_dominated_by (head p).id place_of_it (without zi t) (left_distinct zi t d) b z (moving.may is_isolated is_table m s.located.wellformed z place_of_it found root point outside) is_isolated v
      (dominance_stays zi t d (head p).id left is_isolated v other ∙ seen p pi)

  pub in_side : (q : ℕ) (targs : List TypeTerm) (ws : List Operation) → ((o : Operation) → In o ws → (has_id (head z).id o ≡ false) × (has_id y o ≡ false)) → region_at q (regions s.located.at.here) ≡ Some (block targs (joined_ops ws no_ops))
      → region_at q (regions in_across.located.at.here) ≡ Some (block targs (joined_ops ws no_ops))
  in_side q targs ws lacks side = side_moved x y insertion hx hy deep m s z place_of_it found root point outside fits_in in_across.located q targs ws lacks (λ i. two_apart x y insertion hx hy deep m s i && eqb q r) side

  pub in_count : op_count (put (record { parent = y; region = r; before = first_came vs }) z (without (head z).id m.tree)) ≡ op_count m.tree
  in_count = count_moved x y insertion hx hy deep m s z place_of_it found root point outside fits_in

  -- if none moved earlier, the operations in the block come before z
  pub in_last : vs ≡ [] → (c : ℕ) → Inside y r c (put (record { parent = y; region = r; before = first_came vs }) z (without (head z).id m.tree)) → eqb c (head z).id ≡ false → Before c (head z).id (put (record { parent = y; region = r; before = first_came vs }) z (without (head z).id m.tree))
  in_last none c i apart = put_last place_of_it z (without zi t) (moving.may is_isolated is_table m s.located.wellformed z place_of_it found root point outside) (ap first_came none) c i apart
