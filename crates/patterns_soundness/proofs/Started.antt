-- A lowered operation is inserted before x: properties of the two operations, and of the operations in a block of x.
use Rattle.std.proofs.Common.{◌≡◌, refl, ap, sym, ◌∙◌, subst, ℕ, zero, suc, ◌+◌, ◌<◌, ◌≤◌, Bool, true, false, true≢false, cond, not, ◌&&◌, ◌||◌, eqb, eq-eqb, eqb-true, List, [], ◌∷◌, ◌++◌, length, map, Option, Some, None, option_map, inl, inr, ◌⊎◌, arith, append_assoc}
use Rattle.std.specs.Prelude.{is_some, nat_lt, option_and_then, slice_get}
use Rattle.std.specs.List.{list_any}
use Rattle.std.proofs.lemmas.Cmp.{nat_eq_equiv}
use Rattle.ir_event.specs.types.Words.{is_isolated, is_table}
use Rattle.ir_event.specs.types.Terms.{TypeTerm, AttrTerm}
use Rattle.ir_event.specs.trees.declared.value.Value.{Value}
use Rattle.ir_event.specs.trees.declared.value.Value.TheVariants.{Result, Arg}
use Rattle.ir_event.specs.trees.declared.place.Place.{Place}
use Rattle.ir_event.specs.trees.Tree.{op, RegionsOf, no_regions, region, RegionOf, empty, block, OpsOf, no_ops, next, head, regions}
use Rattle.ir_event.specs.trees.Ids.{HasDistinctIds, find, has_id}
use Rattle.ir_event.specs.trees.Frames.{owner_of}
use Rattle.ir_event.specs.trees.Limits.{depth, most_around}
use Rattle.ir_event.specs.trees.Places.{is_in_block, put, put_here, put_in}
use Rattle.ir_event.specs.trees.Sites.{visible}
use Rattle.ir_event.specs.trees.Uses.{operand_uses, regions_uses, same_value, uses_of}
use Rattle.ir_event.specs.trees.Meaning.{Operation}
use Rattle.ir_event.specs.trees.WellFormed.{IsWellFormed}
use Rattle.ir_event.proofs.of_trees.Moves.{ops_unput}
use Rattle.ir_event.proofs.of_trees.Replaced.{same_value_true}
use Rattle.ir_event.specs.tree_laws.Stands.{OpWithPathOf, StepOf, op_with_path_id, stands, dominated_by as dominated_by_from}
use Rattle.ir_event.specs.tree_laws.Members.{In}
use Rattle.ir_event.specs.tree_laws.Reads.{around}
use Rattle.ir_event.specs.tree_laws.Reasons.{has_place, hold_none, with_id}
use Rattle.ir_event.specs.tree_laws.Values.{arguments_at, arguments_of, has_value, region_at}
use Rattle.ir_event.proofs.of_tree_laws.Around.{absent_find, around_there, present_stand, stand_present}
use Rattle.ir_event.proofs.of_tree_laws.Wellformed.{from_wellformed, greatest_within, ids_below}
use Rattle.ir_event.proofs.of_tree_laws.Listed.{all_each, bool_cases}
use Rattle.ir_event.proofs.of_tree_laws.Members.{found_stands, joined_ops, same_stand, stand, within}
use Rattle.ir_event.proofs.of_tree_laws.Put.{put_find}
use Rattle.ir_event.proofs.of_tree_laws.Reasoned.{none_ids}
use Rattle.ir_event.proofs.of_tree_laws.Readings.{stands_depth, stands_uses, step}
use Rattle.ir_event.proofs.of_tree_laws.DominatedBy.{stands_operands, visible_there}
use Rattle.ir_event.proofs.of_tree_laws.Values.{seen_by}
use Rattle.ir_event.specs.Modules.{Module}
use Rattle.rewriter_machine.specs.Contents.{edited}
use Rattle.rewriter_machine.specs.Edits.{Make}
use Rattle.patterns_base.proofs.Preceding.{cut_at, stands_before}
use Rattle.patterns_base.proofs.Given.{seer, user}
use Rattle.patterns_base.proofs.Headed.{found_there}
use Rattle.patterns_base.proofs.Made as made_there
use Rattle.patterns_base.proofs.Moved.{deeper}
use Rattle.patterns_base.proofs.Plans.{StandsAt, dominated_by}
use Rattle.patterns_soundness.specs.base.Keeps.{lowered_type}
use Rattle.patterns_soundness.specs.base.Looks.{Header}
use Rattle.patterns_soundness.specs.base.Lowering.{lowered_regions}
use Rattle.patterns_soundness.proofs.Across.{before_is, later_outside, not_parent, one_stands, own_depth, users_after}
use Rattle.patterns_soundness.proofs.Kept as kept
use Rattle.patterns_soundness.proofs.Moving.{HasBlock}
use Rattle.patterns_soundness.proofs.Ordered.{Before, around_at, put_before}
use Rattle.patterns_soundness.proofs.Phases.{AllRel, Rel}
use Rattle.patterns_soundness.proofs.Points.{own_operand}
use Rattle.patterns_soundness.proofs.Steps.{Across, IsWithinLimits, Lack, UsedBy, absent_all, each_at, nothing, there_of}
use Rattle.ir_event.proofs.of_tree_laws.Changed.{gather_none}
use Rattle.effects.proofs.Unused.{none_here}
use Rattle.ir_event.proofs.of_tree_laws.Facts.{new_id}

abbrev OpWithPath : Type 0
OpWithPath = OpWithPathOf (List ℕ) TypeTerm AttrTerm

-- ---- values that aren't in the module

pub missing_unused : (m : Module) → IsWellFormed is_isolated m → (v : Value) → has_value v m.tree ≡ false → uses_of v m.tree ≡ []
missing_unused m w v none =
    sym (stands_uses v [] m.tree)
    ∙ gather_none (λ (s : OpWithPath). operand_uses v (op_with_path_id s) 0 (head s.here).operands) (stands [] m.tree) (λ z i.
    none_here v (op_with_path_id z) 0 (head z.here).operands (λ u j. differs u (seen_by is_isolated m.tree w.distinct z i u (own_operand m.tree w.distinct w.wellformed.visible z i u j)).is))
  where
    differs : (u : Value) → has_value u m.tree ≡ true → same_value v u ≡ false
    differs u there = go (same_value v u) refl
      where
        go : (b : Bool) → same_value v u ≡ b → same_value v u ≡ false
        go false e = e
        go true e = (let bad : true ≡ false = sym there ∙ ap (λ z. has_value z m.tree) (sym (same_value_true v u e)) ∙ none in absurd cc)

none_regions : (v : Value) (rs : RegionsOf (List ℕ) TypeTerm AttrTerm) → hold_none rs ≡ true → regions_uses v rs ≡ []
none_regions v no_regions e = refl
none_regions v (region empty rs) e = none_regions v rs e
none_regions v (region (block args no_ops) rs) e = none_regions v rs e
none_regions v (region (block args (next o os)) rs) e = absurd cc

-- a block of a lowered operation
pub lowered_at : (r : ℕ) (rs : RegionsOf (List ℕ) TypeTerm AttrTerm) (args : List TypeTerm) (os : OpsOf (List ℕ) TypeTerm AttrTerm) → region_at r rs ≡ Some (block args os) → region_at r (lowered_regions rs) ≡ Some (block (map lowered_type args) no_ops)
lowered_at r no_regions args os e = absurd cc
lowered_at zero (region empty rs) args os e = absurd cc
lowered_at zero (region (block bs ps) rs) args os e = (let one : block bs ps ≡ block args os = cc in let same : bs ≡ args = cc in ap (λ l. Some (block (map lowered_type l) no_ops)) same)
lowered_at (suc r) (region g rs) args os e = lowered_at r rs args os e

-- ---- the operations of a block of x
module _ (x : ℕ) (insertion : Place) (m : Module) (s : StandsAt x insertion m) (r : ℕ) (args : List TypeTerm) (all : List Operation) (is : region_at r (regions s.at.here) ≡ Some (block args (joined_ops all no_ops))) where
  abbrev t : Operation
  t = m.tree

  abbrev d : HasDistinctIds m.tree
  d = s.wellformed.distinct

  abbrev xp : List (StepOf (List ℕ) TypeTerm AttrTerm)
  xp = s.at.step_in ∷ s.at.path

  abbrev z_path : List Operation → List Operation → List (StepOf (List ℕ) TypeTerm AttrTerm)
  z_path us vs = step s.at.here r args us (joined_ops vs no_ops) ∷ s.at.step_in ∷ s.at.path

  -- an operation that isn't deeper than x isn't inside one of them
  pub shallow_out : (us vs : List Operation) (z : Operation) → all ≡ us ++ z ∷ vs → (o : Operation) (p : List (StepOf (List ℕ) TypeTerm AttrTerm)) → In (stand o p) (stands [] m.tree) → length p ≤ length (s.at.step_in ∷ s.at.path) → has_id (head o).id z ≡ false
  shallow_out us vs z e o p h l = elim (bool_cases (has_id (head o).id z)) [
    | inr k ↦ k
    | inl k ↦ (let there = one_stands t d s.at.here xp s.at.there r args all is us vs z e in
        let u = present_stand (z_path us vs) z (head o).id k in
        let same = same_stand t d u.0 (stand o p) (within z (z_path us vs) u.0 u.1 [] t there) h u.2 in
        let n = deeper (z_path us vs) z u.0 u.1 in
        let q = ap (λ (z : OpWithPath). length z.path) same in
        absurd (omega (arith, l, n, q)))
  ]

  -- an operation isn't inside another one at the same depth and a different position
  pub next_to_out : (us vs : List Operation) (z : Operation) → all ≡ us ++ z ∷ vs → (o : Operation) (b : StepOf (List ℕ) TypeTerm AttrTerm) (p : List (StepOf (List ℕ) TypeTerm AttrTerm)) → In (stand o (b ∷ p)) (stands [] m.tree) → length p ≡ length (s.at.step_in ∷ s.at.path)
      → (step s.at.here r args us (joined_ops vs no_ops) ≡ b → ⊥) → has_id (head o).id z ≡ false
  next_to_out us vs z e o b p h l apart = elim (bool_cases (has_id (head o).id z)) [
    | inr k ↦ k
    | inl k ↦ (let there = one_stands t d s.at.here xp s.at.there r args all is us vs z e in
        let u = present_stand (z_path us vs) z (head o).id k in
        let same = same_stand t d u.0 (stand o (b ∷ p)) (within z (z_path us vs) u.0 u.1 [] t there) h u.2 in
        let q = ap (λ (z : OpWithPath). length z.path) same in
        let deep = own_depth (z_path us vs) z u.0 u.1 (omega (arith, q, l)) in
        let paths : z_path us vs ≡ b ∷ p = ap (λ (z : OpWithPath). z.path) (sym deep ∙ same) in
        absurd (apart cc))
  ]

  shorter : (us ws : List Operation) (z : Operation) → length us < length (us ++ z ∷ ws)
  shorter [] ws z = omega arith
  shorter (u ∷ us) ws z = (let k = shorter us ws z in omega (arith, k))

  -- their users; and none of them is inside another
  pub rel_of : (us vs : List Operation) → all ≡ us ++ vs → AllRel vs m.tree
  rel_of us [] e = tt
  rel_of us (z ∷ vs) e = ((used, lacks), rel_of (us ++ z ∷ []) vs (e ∙ sym (append_assoc us (z ∷ []) vs)))
    where
      used : UsedBy z vs m.tree
      used k u h =
          let w = user (Result (head z).id k) t u h in
          let own = own_operand t d s.wellformed.wellformed.visible w.0 w.1 (Result (head z).id k) w.3 in
          let r = users_after t d s.at.here xp s.at.there r args all is is_isolated us vs z e w.0.here w.0.path w.1 k own in
          (r.0, r.1, ap (λ i. has_id i r.0) w.2 ∙ r.2)

      lacks : (o : Operation) → In o vs → Lack z o
      lacks o i =
          let c = cut_at o vs i in
          let e2 : all ≡ (us ++ z ∷ c.0) ++ o ∷ c.1 = e ∙ ap (λ l. us ++ z ∷ l) c.2 ∙ sym (append_assoc us (z ∷ c.0) (o ∷ c.1)) in
          let oz = one_stands t d s.at.here xp s.at.there r args all is us vs z e in
          let oo = one_stands t d s.at.here xp s.at.there r args all is (us ++ z ∷ c.0) c.1 o e2 in
          let n = shorter us c.0 z in (
            next_to_out us vs z e o (step s.at.here r args (us ++ z ∷ c.0) (joined_ops c.1 no_ops)) xp oo refl (λ k. let q = ap (λ (b : StepOf (List ℕ) TypeTerm AttrTerm). length b.preceding) k in omega (arith, q, n)),
            next_to_out (us ++ z ∷ c.0) c.1 o e2 z (step s.at.here r args us (joined_ops vs no_ops)) xp oz refl (λ k. let q = ap (λ (b : StepOf (List ℕ) TypeTerm AttrTerm). length b.preceding) k in omega (arith, q, n)),
          )

  -- they are movable if y is new
  pub fit_of : (y : ℕ) (hx hy : Header) (deep : ℕ) → has_id y m.tree ≡ false → deep ≡ length (s.at.step_in ∷ s.at.path) → (z : Operation) → In z all → IsWithinLimits x y insertion hx hy deep z
  fit_of y hx hy deep new depth_is z i =
      let c = cut_at z all i in
      let there = one_stands t d s.at.here xp s.at.there r args all is c.0 c.1 z c.2 in
      record {
        x_out = ap (λ k. has_id k z) (sym s.at.id) ∙ shallow_out c.0 c.1 z c.2 s.at.here xp s.at.there (omega arith);
        y_out = absent c.0 c.1 there;
        parent_out = ap (λ (p : Place). has_id p.parent z) s.at.place ∙ shallow_out c.0 c.1 z c.2 s.at.step_in.parent s.at.path (around_there t s.at.here s.at.step_in s.at.path s.at.there).1 (omega arith);
        levels =
            (let g = greatest_within (λ (k : OpWithPath). length k.path) most_around (stands (z_path c.0 c.1) z) (λ k h. (from_wellformed is_isolated t s.wellformed.wellformed).shallow k (within z (z_path c.0 c.1) k h [] t there)) in
            let e = stands_depth (z_path c.0 c.1) z in
            omega (arith, g, e, depth_is));
      }
    where
      absent : (us vs : List Operation) → In (stand z (step s.at.here r args us (joined_ops vs no_ops) ∷ s.at.step_in ∷ s.at.path)) (stands [] m.tree) → has_id y z ≡ false
      absent us vs there = elim (bool_cases (has_id y z)) [
        | inr k ↦ k
        | inl k ↦ (let u = present_stand (z_path us vs) z y k in absurd (true≢false (sym (ap (λ i. has_id i t) (sym u.2) ∙ stand_present [] t u.0 (within z (z_path us vs) u.0 u.1 [] t there)) ∙ new)))
      ]

-- ids that aren't in the module yet
pub absent_from : (m : Module) → IsWellFormed is_isolated m → (b : ℕ) → m.next ≤ b → has_id b m.tree ≡ false
absent_from m w b l = elim (bool_cases (has_id b m.tree)) [
  | inr k ↦ k
  | inl k ↦ (let s = present_stand [] m.tree b k in let n = ids_below m.next m.tree w.below s.0 s.1 in let i = s.2 in absurd (omega (arith, n, i, l)))
]

-- the values that an operation with nothing inside doesn't use
pub leaf_uses : (n : ℕ) (q : Operation) → hold_none (regions q) ≡ true → (u : Value) → ((v : Value) → In v (head q).operands → same_value u v ≡ false) → uses_of u (with_id n q) ≡ []
leaf_uses n (op h rs) l u f = λ i. none_here u n 0 h.operands f i ++ none_regions u rs l i

-- inserting an operation that doesn't use a value leaves the value unused
pub nothing_used : (m : Module) (w : IsWellFormed is_isolated m) (place : Place) (point : has_place place m.tree ≡ true) (o : Operation) (leaf : hold_none (regions o) ≡ true) (v : Value) → uses_of v (with_id m.next o) ≡ [] → uses_of v m.tree ≡ [] → uses_of v (put place (with_id m.next o) m.tree) ≡ []
nothing_used m w place point o leaf v own none = nothing (uses_of v (put place (with_id m.next o) m.tree)) (λ u i. elim (kept.made_uses is_isolated m w place point o leaf v u i) [ inl k ↦ subst (In u) none k | inr k ↦ subst (In u) own k ])

-- ---- an operation with nothing inside is inserted before x
module _ (x : ℕ) (insertion : Place) (m : Module) (s : StandsAt x insertion m) (new : Operation) (leaf : hold_none (regions new) ≡ true) (seen : (v : Value) → In v (head new).operands → dominated_by x v m ≡ true) (located : StandsAt x insertion (edited (Make insertion new) m)) where
  abbrev n : ℕ
  n = m.next

  abbrev after : Operation
  after = put insertion (with_id m.next new) m.tree

  abbrev stays : kept.Kept is_isolated (λ b. has_id b m.tree ≡ true) m.tree (put insertion (with_id m.next new) m.tree)
  stays = kept.made_kept is_isolated m s.wellformed insertion (made_there.point is_isolated x insertion m s) new leaf (λ b. has_id b m.tree ≡ true) (λ b h. h)

  pub x_there : has_id x m.tree ≡ true
  x_there = ap (λ i. has_id i m.tree) (sym s.at.id) ∙ stand_present [] m.tree (stand s.at.here (s.at.step_in ∷ s.at.path)) s.at.there

  -- the id is new
  pub fresh : has_id m.next m.tree ≡ false
  fresh = elim (bool_cases (has_id m.next m.tree)) [
    | inr k ↦ k
    | inl k ↦ absurd (true≢false (sym (eq-eqb n n refl) ∙ kept.not_new is_isolated m s.wellformed insertion (made_there.point is_isolated x insertion m s) new leaf n k))
  ]

  not_of_new : (j : ℕ) (v : Value) → In v (head new).operands → same_value (Result m.next j) v ≡ false
  not_of_new j v i = go (same_value (Result n j) v) refl
    where
      go : (b : Bool) → same_value (Result m.next j) v ≡ b → same_value (Result m.next j) v ≡ false
      go false e = e
      go true e =
          (let k = seer is_isolated m.tree s.wellformed.distinct x v (seen v i) in
          let g = seen_by is_isolated m.tree s.wellformed.distinct k.0 k.1 v k.3 in
          absurd (true≢false (sym (ap (λ z. has_id z m.tree) (ap (λ (z : Value). (owner_of z).0) (same_value_true (Result n j) v e) ∙ g.id) ∙ stand_present [] m.tree g.owner g.there) ∙ fresh)))

  pub own_uses : (j : ℕ) → uses_of (Result m.next j) (with_id m.next new) ≡ []
  own_uses j = go new leaf (not_of_new j)
    where
      go : (q : Operation) → hold_none (regions q) ≡ true → ((v : Value) → In v (head q).operands → same_value (Result m.next j) v ≡ false) → uses_of (Result m.next j) (with_id m.next q) ≡ []
      go (op h rs) l f = λ i. none_here (Result m.next j) m.next 0 h.operands f i ++ none_regions (Result m.next j) rs l i

  pub no_uses_before : (j : ℕ) → uses_of (Result m.next j) m.tree ≡ []
  no_uses_before j = missing_unused m s.wellformed (Result n j) (ap (λ f. is_some (option_and_then (λ o. slice_get (head o).results j) f)) (absent_find n m.tree fresh))

  abbrev pub started : Across x m.next insertion (head s.at.here) (head (with_id m.next new)) (length (s.at.step_in ∷ s.at.path)) (edited (Make insertion new) m)
  started = record {
    located = located;
    before = subst (λ i. Before i x after) (new_id n new) (put_before insertion (with_id n new) m.tree (kept.may is_isolated m s.wellformed insertion (made_there.point is_isolated x insertion m s) new leaf) x (before_is x insertion m.tree s.at));
    x_is = stays.heads x x_there ∙ ap (option_map head) (found_there is_isolated x insertion m s);
    y_is = ap (option_map head) (kept.made_found is_isolated m s.wellformed insertion (made_there.point is_isolated x insertion m s) new leaf);
    unused = λ j. nothing (uses_of (Result n j) after) (λ u i. elim (kept.made_uses is_isolated m s.wellformed insertion (made_there.point is_isolated x insertion m s) new leaf (Result n j) u i) [
      | inl k ↦ subst (In u) (no_uses_before j) k
      | inr k ↦ subst (In u) (own_uses j) k
    ]);
    near = λ v e o. made_there.new_dominated_by is_isolated x insertion m s new leaf v (sym (kept.made_dominance is_isolated m s.wellformed insertion (made_there.point is_isolated x insertion m s) new leaf x x_there v o) ∙ e);
    depths = stays.arounds x x_there ∙ ap (λ i. around i m.tree) (sym s.at.id) ∙ around_at m.tree s.wellformed.distinct (stand s.at.here (s.at.step_in ∷ s.at.path)) s.at.there;
  }

  -- a block of it
  abbrev pub started_block : (r : ℕ) (args : List TypeTerm) (os : OpsOf (List ℕ) TypeTerm AttrTerm) → region_at r (regions new) ≡ Some (block args os) → HasBlock m.next r (put insertion (with_id m.next new) m.tree)
  started_block r args os e = record {
    here = with_id n new;
    found = kept.made_found is_isolated m s.wellformed insertion (made_there.point is_isolated x insertion m s) new leaf;
    args = args;
    list = os;
    is = same new ∙ e;
  }
    where
      same : (q : Operation) → region_at r (regions (with_id m.next q)) ≡ region_at r (regions q)
      same (op h rs) = refl

  lone : (b : ℕ) → has_id b m.tree ≡ true → has_id b (with_id m.next new) ≡ false
  lone b h = go new leaf (kept.not_new is_isolated m s.wellformed insertion (made_there.point is_isolated x insertion m s) new leaf b h)
    where
      go : (q : Operation) → hold_none (regions q) ≡ true → eqb b m.next ≡ false → has_id b (with_id m.next q) ≡ false
      go (op h rs) l e = λ i. (nat_eq_equiv.symm m.next b ∙ e) i || list_any (λ z. eqb z b) (none_ids rs l i)

  -- a block of x
  pub started_side : (q : ℕ) (args : List TypeTerm) (ws : List Operation) → ((p : Operation) → In p ws → has_id insertion.parent p ≡ false) → region_at q (regions s.at.here) ≡ Some (block args (joined_ops ws no_ops)) → region_at q (regions located.at.here) ≡ Some (block args (joined_ops ws no_ops))
  started_side q args ws lacks is =
      let xo = s.at.here in
      let nw = with_id n new in
      let rest = joined_ops ws no_ops in
      let now : find x after ≡ Some (put insertion nw xo) = put_find insertion nw x (absent_find x nw (lone x x_there)) m.tree ∙ ap (option_map (put insertion nw)) (found_there is_isolated x insertion m s) in
      let same : Some located.at.here ≡ Some (put insertion nw xo) = sym (found_there is_isolated x insertion (edited (Make insertion new) m) located) ∙ now in
      let here : located.at.here ≡ put insertion nw xo = cc in
      let unput = ops_unput insertion nw rest (absent_all insertion.parent ws lacks) in
      let other : is_in_block insertion (head xo).id q ≡ false = (λ i. eqb (s.at.id i) insertion.parent && eqb q insertion.region) ∙ λ i. not_parent x insertion m.tree s.wellformed.distinct s.at i && eqb q insertion.region in
      ap (λ z. region_at q (regions z)) here
      ∙ each_at (put_here insertion nw) q xo args rest is
      ∙ ap (λ l. Some (block args (put_here insertion nw (head xo).id q l))) unput
      ∙ ap (λ c. Some (block args (cond c (put_in insertion.before nw rest) rest))) other
