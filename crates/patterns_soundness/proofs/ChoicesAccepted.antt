-- `lower-choice`: an `scf.if` with index results becomes one with i64 results.
use Rattle.std.proofs.Common.{◌≡◌, refl, ap, sym, ◌∙◌, subst, ℕ, zero, suc, ◌+◌, ◌<◌, ◌≤◌, Bool, true, false, true≢false, cond, ◌&&◌, eqb, eqb-true, List, [], ◌∷◌, ◌++◌, length, map, Option, Some, None, option_map, inl, inr, ◌⊎◌, arith, append_assoc, lt-ltb}
use Rattle.std.specs.Prelude.{codes, is_some, nat_lt, option_and_then, slice_get}
use Rattle.std.proofs.lemmas.List.{length-map}
use Rattle.std.proofs.lemmas.Slice.Eq.{bytes_eq-Decides}
use Rattle.ir_event.specs.types.Words.{is_isolated, is_table}
use Rattle.ir_event.specs.types.Terms.{TypeTerm, Index, AttrTerm}
use Rattle.ir_event.specs.trees.declared.value.Value.{Value}
use Rattle.ir_event.specs.trees.declared.value.Value.TheVariants.{Result, Arg}
use Rattle.ir_event.specs.trees.declared.place.Place.{Place}
use Rattle.ir_event.specs.trees.Tree.{block, no_ops, head, regions}
use Rattle.ir_event.specs.trees.Ids.{find, has_id}
use Rattle.ir_event.specs.trees.Sites.{visible}
use Rattle.ir_event.specs.trees.Uses.{operand_uses, same_value, uses_of}
use Rattle.ir_event.specs.trees.Meaning.{Operation}
use Rattle.ir_event.specs.trees.WellFormed.{IsWellFormed}
use Rattle.ir_event.proofs.of_trees.Replaced.{same_value_refl, same_value_true}
use Rattle.ir_event.specs.tree_laws.Members.{In}
use Rattle.ir_event.specs.tree_laws.Reasons.{has_place, hold_none, with_id}
use Rattle.ir_event.specs.tree_laws.Stands.{OpWithPathOf, StepOf, op_with_path_id, stands}
use Rattle.ir_event.specs.tree_laws.Values.{arguments_at, arguments_of, has_value, region_at, type_of_value}
use Rattle.ir_event.proofs.of_tree_laws.HeadForm.{in_gather, used_here}
use Rattle.ir_event.proofs.of_tree_laws.Listed.{in_right}
use Rattle.ir_event.proofs.of_tree_laws.Members.{joined_ops, stand}
use Rattle.ir_event.proofs.of_tree_laws.Readings.{stands_uses}
use Rattle.ir_event.proofs.of_tree_laws.DominatedBy.{visible_there}
use Rattle.ir_event.specs.Modules.{Module}
use Rattle.rewriter_machine.specs.Contents.{Edit, all_edited, edited}
use Rattle.rewriter_machine.specs.Edits.{Make, SetOperand}
use Rattle.patterns_base.specs.Lists.{Free}
use Rattle.patterns_base.proofs.Headed.{found_there}
use Rattle.patterns_base.proofs.Made as made_there
use Rattle.patterns_base.proofs.Plans.{StandsAt, dominated_by}
use Rattle.patterns_soundness.specs.base.Made.{bridge, i64}
use Rattle.patterns_soundness.specs.base.Looks.{Header}
use Rattle.patterns_soundness.specs.base.Lowering.{before_in, bridges, brought, crossing, marked}
use Rattle.patterns_soundness.proofs.Across.{inside_after}
use Rattle.patterns_soundness.proofs.Brought as bringing
use Rattle.patterns_soundness.proofs.Brought.{Brought}
use Rattle.patterns_soundness.proofs.CastsAccepted.{Headroom}
use Rattle.patterns_soundness.proofs.Handed.{HandedOn, handed_on}
use Rattle.patterns_soundness.proofs.Kept as kept
use Rattle.patterns_soundness.proofs.Moving.{HasBlock}
use Rattle.patterns_soundness.proofs.Phases.{Out, id_of}
use Rattle.patterns_soundness.proofs.Points.{own_operand}
use Rattle.patterns_soundness.proofs.Started.{missing_unused, rel_of}
use Rattle.patterns_soundness.proofs.Steps.{Across, IsWithinLimits}
use Rattle.patterns_soundness.proofs.Within as within_y
use Rattle.ir_event.proofs.Facts.{own_id}

abbrev OpWithPath : Type 0
OpWithPath = OpWithPathOf (List ℕ) TypeTerm AttrTerm

pub used_value : (t : Operation) (s : OpWithPath) → In s (stands [] t) → (v : Value) → In v (head s.here).operands → uses_of v t ≡ [] → ⊥
used_value t s h v i none =
    let n = used_here v (op_with_path_id s) 0 (head s.here).operands v i (same_value_refl v) in
    subst (In (op_with_path_id s, n.0)) (stands_uses v [] t ∙ none) (in_gather (λ (z : OpWithPath). operand_uses v (op_with_path_id z) 0 (head z.here).operands) (op_with_path_id s, n.0) s (stands [] t) h n.1)

-- a cast uses only its operand
pub cast_uses : (n : ℕ) (ty : TypeTerm) (v u : Value) → same_value u v ≡ false → uses_of u (with_id n (bridge ty v)) ≡ []
cast_uses n ty v u e = ap (λ b. cond b ((n, 0) ∷ []) [] ++ []) e

-- a block of x without arguments, whose operations move into that of y; the terminator's operands go through casts
module _ (x y r : ℕ) (insertion : Place) (hx hy : Header) (deep : ℕ) (x_opened : is_isolated hx.name ≡ false) (x_plain : is_table hx.name ≡ false) (y_opened : is_isolated hy.name ≡ false) (y_plain : is_table hy.name ≡ false)
    (us : List Operation) (last : Operation) (ms : List Bool) (m : Module) (a : Across x y insertion hx hy deep m) (into : HasBlock y r m.tree) (is : region_at r (regions a.located.at.here) ≡ Some (block [] (joined_ops (us ++ last ∷ []) no_ops)))
    (fits : (o : Operation) → In o (us ++ last ∷ []) → IsWithinLimits x y insertion hx hy deep o) (wide : length ms ≡ length (head last).operands) (Q : (n : Module) → Across x y insertion hx hy deep n → Type 0) where
  abbrev B : ℕ → Type 0
  B b = ⊥

  abbrev News : Value → Type 0
  News v = ⊥

  abbrev l : ℕ
  l = (head last).id

  abbrev place : Place
  place = before_in y r (head last).id

  last_in : In last (us ++ last ∷ [])
  last_in = in_right last us (last ∷ []) (inl refl)

  pub spared : (k : ℕ) → uses_of (Arg x r k) m.tree ≡ []
  spared k = missing_unused m a.located.wellformed (Arg x r k)
      (ap (λ f. is_some (option_and_then (λ o. option_and_then (λ args. slice_get args k) (arguments_at r o)) f)) (found_there is_isolated x insertion m a.located) ∙ ap (λ g. is_some (option_and_then (λ args. slice_get args k) (option_and_then arguments_of g))) is ∙ none k)
    where
      none : (k : ℕ) → is_some (slice_get {X = TypeTerm} [] k) ≡ false
      none zero = refl
      none (suc k) = refl

  abbrev pub start : Out x y r insertion hx hy deep x_opened x_plain y_opened y_plain [] B [] (us ++ last ∷ []) m
  start = record {
    across = a;
    into = into;
    is = is;
    spared = spared;
    moved = λ o i. absurd i;
    fits = fits;
    moved_fits = λ o i. absurd i;
    rel = rel_of x insertion m a.located r [] (us ++ last ∷ []) is [] (us ++ last ∷ []) refl;
    turned = tt;
  }

  abbrev Bring : Type 0
  Bring = Brought x y r insertion hx hy deep x_opened x_plain y_opened y_plain [] B News us last m start

  pub b : Brought x y r insertion hx hy deep x_opened x_plain y_opened y_plain [] B News us last m start
  b = bringing.bring x y r insertion hx hy deep x_opened x_plain y_opened y_plain [] B News us last m start (λ v h o i. absurd h) (λ n c i k w f v h. absurd h)

  abbrev n : Module
  n = b.after

  located_last : StandsAt (head last).id (before_in y r (head last).id) b.after
  located_last = record { wellformed = b.coming.across.located.wellformed; at = inside_after l place n.tree refl (b.coming.came last last_in).0 }

  here_last : located_last.at.here ≡ last
  here_last = (let two : Some located_last.at.here ≡ Some last = sym (found_there is_isolated l place n located_last) ∙ (b.coming.came last last_in).1 in cc)

  last_dominated_by : (v : Value) → In v (head last).operands → dominated_by (head last).id v b.after ≡ true
  last_dominated_by v i =
      let q = located_last.at.step_in ∷ located_last.at.path in
      ap (λ z. visible is_isolated n.tree z v) (sym located_last.at.id) ∙ visible_there is_isolated n.tree located_last.wellformed.distinct (stand located_last.at.here q) located_last.at.there v
      ∙ own_operand n.tree located_last.wellformed.distinct located_last.wellformed.wellformed.visible (stand located_last.at.here q) located_last.at.there v (subst (λ (z : Operation). In v (head z).operands) (sym here_last) i)

  not_of_y : (v : Value) → In v (head last).operands → (j : ℕ) → same_value (Result y j) v ≡ false
  not_of_y v i j = go (same_value (Result y j) v) refl
    where
      go : (c : Bool) → same_value (Result y j) v ≡ c → same_value (Result y j) v ≡ false
      go false e = e
      go true e =
          (let q = located_last.at.step_in ∷ located_last.at.path in
          absurd (used_value n.tree (stand located_last.at.here q) located_last.at.there (Result y j) (subst (λ (z : Value). In z (head located_last.at.here).operands) (sym (same_value_true (Result y j) v e)) (subst (λ (z : Operation). In v (head z).operands) (sym here_last) i)) (b.coming.across.unused j)))

  apart : (z : ℕ) → has_id z last ≡ false → eqb z (head last).id ≡ false
  apart z h = go (eqb z (head last).id) refl
    where
      go : (c : Bool) → eqb z (head last).id ≡ c → eqb z (head last).id ≡ false
      go false e = e
      go true e = absurd (true≢false (sym (ap (λ i. has_id i last) (eqb-true z (head last).id e) ∙ own_id last) ∙ h))

  -- properties that must hold after each insertion
  abbrev Made : Type 0
  Made = (k : Module) (s : Across x y insertion hx hy deep k) (point : has_place (before_in y r (head last).id) k.tree ≡ true) (o : Operation) (leaf : hold_none (regions o) ≡ true) (unused : (j : ℕ) → uses_of (Result y j) (with_id k.next o) ≡ [])
      (wellformed : IsWellFormed is_isolated (edited (Make (before_in y r (head last).id) o) k)) → Q k s → Q (edited (Make (before_in y r (head last).id) o) k) (within_y.across_made x y r insertion hx hy deep k s (before_in y r (head last).id) point refl refl o leaf unused wellformed)

  abbrev Set : Type 0
  Set = (k : Module) (s : Across x y insertion hx hy deep k) (i : ℕ) (v : Value) (xa : eqb x (head last).id ≡ false) (ya : eqb y (head last).id ≡ false) (other : (j : ℕ) → same_value (Result y j) v ≡ false) (wellformed : IsWellFormed is_isolated (edited (SetOperand (head last).id i v) k))
      → Q k s → Q (edited (SetOperand (head last).id i v) k) (within_y.across_set x y r insertion hx hy deep k s (head last).id i v xa ya other wellformed)

  pub record Taken : Type 0 where
    pub after : Module
    pub free : (fs : List Edit) → Free fs after → Free ((brought insertion y r (map (λ o. id_of o) us) (head last).id ++ (bridges i64 (before_in y r (head last).id) ms (head last).operands ++ crossing (head last).id 0 m.next ms)) ++ fs) m
    pub across : Across x y insertion hx hy deep after
    pub extra : Q after across
    pub next : after.next ≡ m.next + marked ms
    pub headrooms : (k : ℕ) → Headroom (marked ms + k) m → Headroom k after

  abbrev P : Module → Type 0
  P k = (s : Across x y insertion hx hy deep k) × Q k s

  pub taken : (y < m.next) → (Q m a → Q b.after b.coming.across) → Made → Set → Headroom (marked ms) m → Q m a → Taken
  taken low brought_q made_q set_q headroom q =
      let same = b.stays.next in
      let h = handed_on l place b.after.next (head last).operands P p_made (p_set (omega (arith, low, same))) ms b.after located_last last_dominated_by wide
      (let e = ap (λ (z : Operation). length (head z).operands) here_last in omega (arith, wide, e)) (omega arith) (b.stays.headrooms (marked ms) headroom) (b.coming.across, brought_q q) in
      record {
        after = h.after;
        free = λ fs k. subst (λ es. Free es m) (sym (append_assoc (brought insertion y r (map (λ o. id_of o) us) l) (bridges i64 place ms (head last).operands ++ crossing l 0 m.next ms) fs))
            (b.free ((bridges i64 place ms (head last).operands ++ crossing l 0 m.next ms) ++ fs) (subst (λ c. Free ((bridges i64 place ms (head last).operands ++ crossing l 0 c ms) ++ fs) b.after) same (h.free fs k)));
        across = h.keeps.0;
        extra = h.keeps.1;
        next = h.next ∙ ap (λ k. k + marked ms) same;
        headrooms = λ k w. h.headrooms k (b.stays.headrooms (marked ms + k) w);
      }
    where
      p_made : (k : Module) → StandsAt (head last).id (before_in y r (head last).id) k → (v : Value) → In v (head last).operands → dominated_by (head last).id v k ≡ true → b.after.next ≤ k.next → StandsAt (head last).id (before_in y r (head last).id) (edited (Make (before_in y r (head last).id) (bridge i64 v)) k) → P k
          → P (edited (Make (before_in y r (head last).id) (bridge i64 v)) k)
      p_made k st v i e lw st2 p =
          let point = made_there.point is_isolated l place k st in
          let unused : (j : ℕ) → uses_of (Result y j) (with_id k.next (bridge i64 v)) ≡ [] = (λ j. cast_uses k.next i64 v (Result y j) (not_of_y v i j)) in
          (within_y.across_made x y r insertion hx hy deep k p.0 place point refl refl (bridge i64 v) refl unused st2.wellformed, made_q k p.0 point (bridge i64 v) refl unused st2.wellformed p.1)

      p_set : y < b.after.next → (k : Module) → StandsAt (head last).id (before_in y r (head last).id) k → (i c : ℕ) → b.after.next ≤ c → dominated_by (head last).id (Result c 0) k ≡ true → StandsAt (head last).id (before_in y r (head last).id) (edited (SetOperand (head last).id i (Result c 0)) k) → P k → P (edited (SetOperand (head last).id i (Result c 0)) k)
      p_set lower k st i c lw e st2 p =
          let xa = apart x (fits last last_in).x_out in
          let ya = apart y (fits last last_in).y_out in
          let other : (j : ℕ) → same_value (Result y j) (Result c 0) ≡ false = (λ j. ap (λ z. z && eqb j 0) (differs (eqb y c) refl)) in
          (within_y.across_set x y r insertion hx hy deep k p.0 l i (Result c 0) xa ya other st2.wellformed, set_q k p.0 i (Result c 0) xa ya other st2.wellformed p.1)
        where
          differs : (d : Bool) → eqb y c ≡ d → eqb y c ≡ false
          differs false h = h
          differs true h = (let same = eqb-true y c h in absurd (omega (arith, same, lower, lw)))
