-- The change of a module by each accepted edit, and the preconditions of an undo.
use Rattle.std.proofs.Common.{◌≡◌, refl, ap, sym, ◌∙◌, subst, ℕ, ◌+◌, ◌<◌, ◌≤◌, Bool, true, false, true≢false, cond, not, ◌||◌, eqb, eq-eqb, eqb-true, List, [], ◌∷◌, ◌++◌, length, length-append, map, filter, Option, Some, None, option_map, inl, inr, arith}
use Rattle.std.specs.List.{list_any, list_all}
use Rattle.ir_tree.specs.declared.value.Value.{Value}
use Rattle.ir_tree.specs.declared.place.Place.{Place}
use Rattle.ir_tree.specs.Tree.{HeadOf, OpOf, op, RegionsOf, no_regions, region, empty, block, OpsOf, no_ops, next, head, regions}
use Rattle.ir_tree.specs.Ids.{HasDistinctIds, has_id, find}
use Rattle.ir_tree.specs.Uses.{same_value, operand_uses, uses_of}
use Rattle.ir_tree.specs.Frames.{owner_of}
use Rattle.ir_tree.specs.Places.{first_id, place_of, each_list, region_each_list, ops_each_list, drop_op, put, without, shifted}
use Rattle.ir_tree.specs.WellFormed.{ModuleOf, IsWellFormed}
use Rattle.ir_tree.proofs.Left.{left_distinct}
use Rattle.ir_tree.proofs.Replaced.{same_value_true, same_value_refl}
use Rattle.ir_tree_laws.specs.Values.{region_at, has_value}
use Rattle.ir_tree_laws.specs.Reads.{is_among}
use Rattle.ir_tree_laws.specs.Reasons.{is_in_list, has_place, with_id, hold_none, holds_none, leaves, unused, leads_inside, put_reason, take_reason, shift_reason}
use Rattle.ir_tree_laws.specs.Stands.{StepOf, OpWithPathOf, op_with_path_id, stands, dominated_by, gone_in, gather, left_step, left_stand, dropping, place_in}
use Rattle.ir_tree_laws.specs.Changes.{HoldNone, NextAfter, Takes, Shifts}
use Rattle.ir_tree_laws.specs.Restores.{MayRestore, MayRetract}
use Rattle.ir_tree_laws.specs.Members.{In}
use Rattle.ir_tree_laws.proofs.Listed.{all_each, each_all, both, bool_cases, or_left, or_right, not_false}
use Rattle.ir_tree_laws.proofs.Readings.{step, stands_uses, stands_every}
use Rattle.ir_tree_laws.proofs.Members.{stand, within, has_around, joined_ops, ops_child, stand_found, same_stand}
use Rattle.ir_tree_laws.proofs.Around.{stand_present, present_stand, around_there, gone_within, member_of_place}
use Rattle.ir_tree_laws.proofs.Without.{left_member, same_head, left_dominated_by_same}
use Rattle.ir_tree_laws.proofs.Put.{of_point, region_each, child}
use Rattle.ir_tree_laws.proofs.Wellformed.{from_wellformed, ids_below}
use Rattle.ir_tree_laws.proofs.PutForm.{put_place, put_found, put_back, put_cases, landed}
use Rattle.ir_tree_laws.proofs.Shift as shift
use Rattle.ir_tree_laws.proofs.Shift.{still_among, inner_of, inner_place}
use Rattle.ir_tree_laws.proofs.Reasoned.{no_put_reason, no_take_reason, no_shift_reason, none_ids}
use Rattle.ir_tree_laws.proofs.WellKept.{put_keeps, may_put_leaf}
use Rattle.ir_tree_laws.proofs.HeadForm.{used_here, in_gather}
use Rattle.ir_tree_laws.proofs.Values.{shaped_as, seen_by, seen_from, not_own, joined_more}

pub gather_none : {X Y : Type 0} (f : X → List Y) (xs : List X) → ((x : X) → In x xs → f x ≡ []) → gather f xs ≡ []
gather_none f [] h = refl
gather_none f (x ∷ xs) h = λ i. h x (inl refl) i ++ gather_none f xs (λ y k. h y (inr k)) i

no_uses : (v : Value) (x : ℕ) → (owner_of v).0 ≡ x → (y k : ℕ) (ws : List Value) → list_all (λ w. not (eqb (owner_of w).0 x)) ws ≡ true → operand_uses v y k ws ≡ []
no_uses v x e y k [] h = refl
no_uses v x e y k (w ∷ ws) h = go (same_value v w) refl (no_uses v x e y (k + 1) ws b.1)
  where
    b : (not (eqb (owner_of w).0 x) ≡ true) × (list_all (λ w. not (eqb (owner_of w).0 x)) ws ≡ true)
    b = both (not (eqb (owner_of w).0 x)) _ h

    go : (c : Bool) → same_value v w ≡ c → operand_uses v y (k + 1) ws ≡ [] → cond (same_value v w) ((y, k) ∷ operand_uses v y (k + 1) ws) (operand_uses v y (k + 1) ws) ≡ []
    go false p later = ap (λ c. cond c ((y, k) ∷ operand_uses v y (k + 1) ws) (operand_uses v y (k + 1) ws)) p ∙ later
    go true p later =
        let same : (owner_of w).0 ≡ x = ap (λ u. (owner_of u).0) (sym (same_value_true v w p)) ∙ e in
        absurd (true≢false (sym (eq-eqb (owner_of w).0 x same) ∙ not_false (eqb (owner_of w).0 x) b.0))

module _ {N T A : Type 0} where
  -- empty blocks
  pub bare : (rs : RegionsOf N T A) → hold_none rs ≡ true → HoldNone rs
  bare no_regions e = tt
  bare (region empty rs) e = bare rs e
  bare (region (block args no_ops) rs) e = bare rs e
  bare (region (block args (next o os)) rs) e = absurd (true≢false (sym e))

  pub is_bare : (rs : RegionsOf N T A) → HoldNone rs → hold_none rs ≡ true
  is_bare no_regions h = refl
  is_bare (region empty rs) h = is_bare rs h
  is_bare (region (block args no_ops) rs) h = is_bare rs h
  is_bare (region (block args (next o os)) rs) h = absurd h

  found_bare : (x : ℕ) (t : OpOf N T A) → holds_none (find x t) ≡ true → (o : OpOf N T A) → find x t ≡ Some o → HoldNone (regions o)
  found_bare x t e o f = bare (regions o) (sym (ap holds_none f) ∙ e)

  bare_found : (x : ℕ) (t : OpOf N T A) → ((o : OpOf N T A) → find x t ≡ Some o → HoldNone (regions o)) → holds_none (find x t) ≡ true
  bare_found x t h = go (find x t) refl
    where
      go : (o : Option (OpOf N T A)) → find x t ≡ o → holds_none (find x t) ≡ true
      go None e = ap holds_none e
      go (Some o) e = ap holds_none e ∙ is_bare (regions o) (h o e)

  -- an operation whose values no other operation uses
  pub unused_uses : (x : ℕ) (t : OpOf N T A) → unused x t ≡ true → (v : Value) → (owner_of v).0 ≡ x → uses_of v t ≡ []
  unused_uses x t e v own =
      sym (stands_uses v [] t)
      ∙ gather_none (λ (s : OpWithPathOf N T A). operand_uses v (op_with_path_id s) 0 (head s.here).operands) (stands [] t)
      (λ s h. no_uses v x own (op_with_path_id s) 0 (head s.here).operands (all_each (λ (u : OpWithPathOf N T A). leaves x (head u.here)) (stands [] t) (stands_every (λ o. leaves x (head o)) [] t ∙ e) s h))

  pub uses_unused : (x : ℕ) (t : OpOf N T A) → ((v : Value) → (owner_of v).0 ≡ x → uses_of v t ≡ []) → unused x t ≡ true
  uses_unused x t f =
      sym (stands_every (λ o. leaves x (head o)) [] t)
      ∙ each_all (λ (u : OpWithPathOf N T A). leaves x (head u.here)) (stands [] t) (λ s h. each_all (λ v. not (eqb (owner_of v).0 x)) (head s.here).operands (λ v i. elim (bool_cases (eqb (owner_of v).0 x)) [
        | inr k ↦ ap not k
        | inl k ↦ (let n = used_here v (op_with_path_id s) 0 (head s.here).operands v i (same_value_refl v) in
            let j : In (op_with_path_id s, n.0) (uses_of v t) = subst (λ l. In (op_with_path_id s, n.0) l) (stands_uses v [] t) (in_gather (λ (u : OpWithPathOf N T A). operand_uses v (op_with_path_id u) 0 (head u.here).operands) (op_with_path_id s, n.0) s (stands [] t) h n.1) in
            absurd (subst (λ l. In (op_with_path_id s, n.0) l) (f v (eqb-true (owner_of v).0 x k)) j))
      ]))

  -- a take
  pub take_changes : (x : ℕ) (fresh : Bool) (m n : ModuleOf N T A) → HasDistinctIds m.tree → take_reason x m.tree ≡ None → n.tree ≡ without x m.tree → NextAfter fresh x m.next n.next → (place : Place) × Takes x place fresh m n
  take_changes x fresh m n d e left after =
      let r = no_take_reason x m.tree e in
      let s = present_stand [] m.tree x r.there in
      let f : find x m.tree ≡ Some s.0.here = ap (λ z. find z m.tree) (sym s.2) ∙ stand_found m.tree d s.0 s.1 in
      let i = inner_of x m.tree s.0.here f r.inner in (
        record { parent = (head i.step_in.parent).id; region = i.step_in.region; before = first_id i.step_in.rest },
        record {
          there = inner_place x m.tree s.0.here d i;
          inner = r.inner;
          empty = found_bare x m.tree r.empty;
          unused = unused_uses x m.tree r.spared;
          left = left;
          next = after;
        },
      )

  -- a shift
  pub shift_changes : (isolated is_table : N → Bool) (x : ℕ) (place : Place) (m : ModuleOf N T A) → HasDistinctIds m.tree → shift_reason isolated is_table x place m.tree ≡ None
      → (old : Place) × Shifts is_table x old place m (record m { tree = shifted x place m.tree })
  shift_changes isolated is_table x place m d e =
      let r = no_shift_reason isolated is_table x place m.tree e in
      let s = present_stand [] m.tree x r.there in
      let o = s.0.here in
      let f : find x m.tree ≡ Some o = ap (λ z. find z m.tree) (sym s.2) ∙ stand_found m.tree d s.0 s.1 in
      let out = sym (ap (leads_inside place) f) ∙ r.outside in
      let is = shift.is_put x place m.tree o d f r.inner r.point out in
      let i = shift.inner x place m.tree o d f r.inner r.point out in (
        record { parent = (head i.step_in.parent).id; region = i.step_in.region; before = first_id i.step_in.rest },
        record {
          was = shift.shift_was x place m.tree o d f r.inner r.point out;
          is = ap (place_of x) is ∙ shift.shift_place x place m.tree o d f r.inner r.point out;
          same = ap (find x) is ∙ shift.shift_found x place m.tree o d f r.inner r.point out;
          rest = ap (without x) is ∙ shift.shift_rest x place m.tree o d f r.inner r.point out;
          table = sym r.table;
          next = refl;
        },
      )

  -- a put, which a take undoes
  pub put_changes : (isolated : N → Bool) (place : Place) (o : OpOf N T A) (m : ModuleOf N T A) (w : IsWellFormed isolated m) → hold_none (regions o) ≡ true → put_reason isolated place o m.next m.tree ≡ None
      → Takes m.next place true (record { tree = put place (with_id m.next o) m.tree; next = m.next + 1 }) m
  put_changes isolated place o m w leaf e =
      let r = no_put_reason isolated place o m.next m.tree e in
      let may = may_put_leaf isolated place o m w leaf r.point in
      let u = with_id m.next o in
      let id = own_id m.next o in
      let after = put_keeps isolated place o m w leaf e in
      let g = from_wellformed isolated (put place u m.tree) after.wellformed in
      let g0 = from_wellformed isolated m.tree w.wellformed in
      let root : (head (put place u m.tree)).id ≡ (head m.tree).id = ap (λ (h : HeadOf N T A). h.id) (same_root place u m.tree) in
      record {
        there = ap (λ z. place_of z (put place u m.tree)) (sym id) ∙ put_place place u m.tree may;
        inner = other (head (put place u m.tree)).id m.next (let lt = ids_below m.next m.tree w.below (stand m.tree []) (root_in m.tree) in omega (arith, lt, root));
        empty = λ q f. bare (regions q) (
            let same : Some u ≡ Some q = sym (ap (λ z. find z (put place u m.tree)) (sym id) ∙ put_found place u m.tree may) ∙ f in
            let one : u ≡ q = cc in
            ap (λ (z : OpOf N T A). hold_none (regions z)) (sym one) ∙ own_bare m.next o leaf);
        unused = unused_uses m.next (put place u m.tree) (sym (stands_every (λ q. leaves m.next (head q)) [] (put place u m.tree)) ∙ each_all (λ (s : OpWithPathOf N T A). leaves m.next (head s.here)) (stands [] (put place u m.tree))
            (λ s h. each_all (λ v. not (eqb (owner_of v).0 m.next)) (head s.here).operands (λ v i. elim (bool_cases (eqb (owner_of v).0 m.next)) [
              | inr k ↦ ap not k
              | inl k ↦ (let seen = all_each (dominated_by isolated s.path) (head s.here).operands (g.dominated_by_own s h) v i in
                  let own = eqb-true (owner_of v).0 m.next k in
                  absurd (elim (put_cases place u m.tree may s h) [
                    | inl c ↦ (let z = left_stand (head u).id s in
                        let seen0 = all_each (dominated_by isolated z.path) (head z.here).operands (g0.dominated_by_own z c.0) v (subst (λ (h : HeadOf N T A). In v h.operands) (sym (same_head (head u).id (dropping (head u).id) s.here)) i) in
                        let b = seen_by isolated m.tree w.distinct z c.0 v seen0 in
                        let lt = ids_below m.next m.tree w.below b.owner b.there in
                        let q = b.id in
                        omega (arith, lt, q, own))
                    | inr c ↦ (let l = landed place u m.tree may in
                        let p = stand_present (l.step_in ∷ l.path) u s c in
                        let same : m.next ≡ op_with_path_id s = leaf_one m.next o leaf (op_with_path_id s) p in
                        not_own isolated (put place u m.tree) after.distinct s h v seen (own ∙ same))
                  ]))
            ])));
        left = sym (ap (λ z. without z (put place u m.tree)) (sym id) ∙ put_back place u m.tree may);
        next = (refl, refl);
      }
    where
      own_id : (x : ℕ) (o : OpOf N T A) → (head (with_id x o)).id ≡ x
      own_id x (op h rs) = refl

      own_bare : (x : ℕ) (o : OpOf N T A) → hold_none (regions o) ≡ true → hold_none (regions (with_id x o)) ≡ true
      own_bare x (op h rs) e = e

      same_root : (place : Place) (u t : OpOf N T A) → head (put place u t) ≡ head t
      same_root place u (op h rs) = refl

      root_in : (t : OpOf N T A) → In (stand t []) (stands [] t)
      root_in (op h rs) = inl refl

      other : (a b : ℕ) → a < b → eqb a b ≡ false
      other a b h = elim (bool_cases (eqb a b)) [ inr k ↦ k | inl k ↦ let s = eqb-true a b k in absurd (omega (arith, s, h)) ]

      leaf_one : (x : ℕ) (o : OpOf N T A) → hold_none (regions o) ≡ true → (y : ℕ) → has_id y (with_id x o) ≡ true → x ≡ y
      leaf_one x (op h rs) e y p = one (eqb x y) refl (sym (ap (λ l. eqb x y || list_any (λ z. eqb z y) l) (none_ids rs e)) ∙ p)
        where
          one : (b : Bool) → eqb x y ≡ b → (eqb x y || false) ≡ true → x ≡ y
          one true k q = eqb-true x y k
          one false k q = absurd (true≢false (sym q ∙ ap (λ b. b || false) k))

  -- undoing a put
  pub may_retract : (x : ℕ) (place : Place) (fresh : Bool) (m n : ModuleOf N T A) → Takes x place fresh m n → MayRetract x fresh m
  may_retract x place fresh m n c =
      let u = member_of_place x place m.tree c.there in
      record {
        there = subst (λ z. has_id z m.tree ≡ true) u.2 (stand_present [] m.tree u.0 u.1);
        inner = c.inner;
        empty = bare_found x m.tree c.empty;
        unused = uses_unused x m.tree c.unused;
        newest = λ f. newer fresh f c.next;
      }
    where
      newer : (b : Bool) → b ≡ true → NextAfter b x m.next n.next → m.next ≡ x + 1
      newer true f h = h.0
      newer false f h = absurd (true≢false (sym f))

  -- undoing a take
  longer : (b : List (StepOf N T A)) (t : OpOf N T A) (path : List (StepOf N T A)) (o : OpOf N T A) → In (stand o path) (stands b t) → length b ≤ length path
  longer b t [] o h = elim (has_around b t (stand o []) h) [
    | inl k ↦ (let l = ap (λ (z : OpWithPathOf N T A). length z.path) k in omega (arith, l))
    | inr w ↦ (let bad : [] ≡ w.0 ∷ w.1 = w.2 in absurd cc)
  ]
  longer b t (a ∷ path) o h = elim (has_around b t (stand o (a ∷ path)) h) [
    | inl k ↦ (let l = ap (λ (z : OpWithPathOf N T A). length z.path) k in omega (arith, l))
    | inr w ↦ (let same : a ∷ path ≡ w.0 ∷ w.1 = w.2 in
        let first : w.0 ≡ a = cc in
        let later : w.1 ≡ path = cc in
        let m : In (stand a.parent path) (stands b t) = subst (λ (z : OpWithPathOf N T A). In z (stands b t)) (λ i. stand ((first i).parent) (later i)) w.4 in
        let l = longer b t path a.parent m in
        omega (arith, l))
  ]

  -- the parent of x isn't within x
  around_stays : (x : ℕ) (t : OpOf N T A) → HasDistinctIds t → (o : OpOf N T A) (a : StepOf N T A) (q : List (StepOf N T A)) → In (stand o (a ∷ q)) (stands [] t) → (head o).id ≡ x → gone_in x a.parent q ≡ false
  around_stays x t d o a q h id = elim (bool_cases (gone_in x a.parent q)) [
    | inr k ↦ k
    | inl k ↦ (let w = gone_within x t q a.parent (around_there t o a q h).1 k in
        let same = same_stand t d (stand w.here (w.step_in ∷ w.path)) (stand o (a ∷ q)) w.there h (w.id ∙ sym id) in
        let m : In (stand a.parent q) (stands (a ∷ q) o) = subst (λ (z : OpWithPathOf N T A). In (stand a.parent q) (stands z.path z.here)) same w.inner in
        let l = longer (a ∷ q) o q a.parent m in
        absurd (omega (arith, l)))
  ]

  pub kept_preceding : (x : ℕ) (preceding : List (OpOf N T A)) (os : OpsOf N T A) → drop_op x (ops_each_list (dropping x) (joined_ops preceding os)) ≡ joined_ops (filter (λ o. not (eqb (head o).id x)) (map (each_list (dropping x)) preceding)) (drop_op x (ops_each_list (dropping x) os))
  kept_preceding x [] os = refl
  kept_preceding x (op h rs ∷ fs) os =
      elim (eqb h.id x) as (λ b. cond b (drop_op x (ops_each_list (dropping x) (joined_ops fs os))) (next (each_list (dropping x) (op h rs)) (drop_op x (ops_each_list (dropping x) (joined_ops fs os))))
      ≡ joined_ops (cond (not b) (each_list (dropping x) (op h rs) ∷ filter (λ o. not (eqb (head o).id x)) (map (each_list (dropping x)) fs)) (filter (λ o. not (eqb (head o).id x)) (map (each_list (dropping x)) fs))) (drop_op x (ops_each_list (dropping x) os)))
      [ true ↦ kept_preceding x fs os | false ↦ ap (next (each_list (dropping x) (op h rs))) (kept_preceding x fs os) ]

  each_block : (x r : ℕ) (q : OpOf N T A) (args : List T) (os : OpsOf N T A) → region_at r (regions q) ≡ Some (block args os) → region_at r (regions (each_list (dropping x) q)) ≡ Some (block args (drop_op x (ops_each_list (dropping x) os)))
  each_block x r (op h rs) args os e = region_each (dropping x) h.id 0 r rs ∙ ap (option_map (region_each_list (dropping x) h.id (0 + r))) e

  pub joined_among : (b : ℕ) (preceding : List (OpOf N T A)) (os : OpsOf N T A) → is_among b os ≡ true → is_among b (joined_ops preceding os) ≡ true
  joined_among b [] os h = h
  joined_among b (f ∷ fs) os h = or_right (eqb (head f).id b) (is_among b (joined_ops fs os)) (joined_among b fs os h)

  module _ (isolated : N → Bool) (x : ℕ) (t : OpOf N T A) (d : HasDistinctIds t) (o : OpOf N T A) (a : StepOf N T A) (q : List (StepOf N T A)) (h : In (stand o (a ∷ q)) (stands [] t)) (id : (head o).id ≡ x) where
    abbrev u : OpOf N T A
    u = without x t

    up : In (stand (each_list (dropping x) a.parent) (map (left_step x) q)) (stands [] u)
    up = left_member x t (stand a.parent q) (around_there t o a q h).1 (around_stays x t d o a q h id)

    at : region_at a.region (regions (each_list (dropping x) a.parent)) ≡ Some (block a.args (drop_op x (ops_each_list (dropping x) (joined_ops a.preceding (next o a.rest)))))
    at = each_block x a.region a.parent a.args (joined_ops a.preceding (next o a.rest)) (shaped_as t o a q h)

    -- the operation after x is another one
    trailing : (p : OpOf N T A) (os : OpsOf N T A) → a.rest ≡ next p os → eqb (head p).id x ≡ false
    trailing p os e = elim (bool_cases (eqb (head p).id x)) [
      | inr k ↦ k
      | inl k ↦ (let c = step a.parent a.region a.args (a.preceding ++ o ∷ []) os in
          let list : region_at a.region (regions a.parent) ≡ Some (block a.args (joined_ops (a.preceding ++ o ∷ []) (next p os))) = shaped_as t o a q h ∙ ap (λ (z : OpsOf N T A). Some (block a.args (joined_ops a.preceding (next o z)))) e ∙ ap (λ z. Some (block a.args z)) (sym (joined_more a.preceding o (next p os))) in
          let m : In (stand p (c ∷ q)) (stands [] t) = within a.parent q (stand p (c ∷ q)) (child a.parent q a.region a.args (joined_ops (a.preceding ++ o ∷ []) (next p os)) (stand p (c ∷ q)) list (ops_child a.parent q a.region a.args [] (a.preceding ++ o ∷ []) p os)) [] t (around_there t o a q h).1 in
          let same = same_stand t d (stand p (c ∷ q)) (stand o (a ∷ q)) m h (eqb-true (head p).id x k ∙ sym id) in
          let paths : c ∷ q ≡ a ∷ q = ap (λ (z : OpWithPathOf N T A). z.path) same in
          let steps : c ≡ a = cc in
          let l = ap (λ (z : StepOf N T A). length z.preceding) steps in
          let n = length-append a.preceding (o ∷ []) in
          absurd (omega (arith, l, n)))
    ]

    among : (rest : OpsOf N T A) → a.rest ≡ rest → is_in_list (first_id rest) (Some (drop_op x (ops_each_list (dropping x) (joined_ops a.preceding (next o a.rest))))) ≡ true
    among no_ops e = refl
    among (next p os) e =
        still_among x (head p).id (dropping x) (joined_ops a.preceding (next o a.rest)) (trailing p os e)
        (joined_among (head p).id a.preceding (next o a.rest) (or_right (eqb (head o).id (head p).id) _ (ap (is_among (head p).id) e ∙ or_left (eqb (head p).id (head p).id) _ (eq-eqb (head p).id (head p).id refl))))

    pub point_left : (place : Place) → place_in (a ∷ q) ≡ Some place → has_place place (without x t) ≡ true
    point_left place e =
        let is : record { parent = (head a.parent).id; region = a.region; before = first_id a.rest } ≡ place = cc in
        subst (λ (z : Place). has_place z (without x t) ≡ true) is
        (of_point (record { parent = (head a.parent).id; region = a.region; before = first_id a.rest }) u (record {
          parent = each_list (dropping x) a.parent;
          found = ap (λ (g : HeadOf N T A). find g.id u) (sym (same_head x (dropping x) a.parent)) ∙ stand_found u (left_distinct x t d) (stand (each_list (dropping x) a.parent) (map (left_step x) q)) up;
          args = a.args;
          list = drop_op x (ops_each_list (dropping x) (joined_ops a.preceding (next o a.rest)));
          is = at;
          among = among a.rest refl;
        }))

    pub value_left : (v : Value) → dominated_by isolated (a ∷ q) v ≡ true → has_value v (without x t) ≡ true
    value_left v e =
        let other : eqb (owner_of v).0 x ≡ false = elim (bool_cases (eqb (owner_of v).0 x)) [ inr k ↦ k | inl k ↦ absurd (not_own isolated t d (stand o (a ∷ q)) h v e (eqb-true (owner_of v).0 x k ∙ sym id)) ] in
        let seen : dominated_by isolated (map (left_step x) (a ∷ q)) v ≡ true = left_dominated_by_same x isolated v other (a ∷ q) ∙ e in
        (seen_from isolated u (left_distinct x t d) (map (left_step x) (a ∷ q)) v seen (λ b p same.
        let first : left_step x a ≡ b = cc in
        let later : map (left_step x) q ≡ p = cc in
        subst (λ (z : StepOf N T A). In (stand z.parent p) (stands [] u) × ((os : OpsOf N T A) × (region_at z.region (regions z.parent) ≡ Some (block z.args (joined_ops z.preceding os))))) first
        (subst (λ l. In (stand (each_list (dropping x) a.parent) l) (stands [] u)) later up, (drop_op x (ops_each_list (dropping x) (next o a.rest)), at ∙ ap (λ z. Some (block a.args z)) (kept_preceding x a.preceding (next o a.rest)))))).is

  pub may_restore : (isolated : N → Bool) (x : ℕ) (place : Place) (fresh : Bool) (m n : ModuleOf N T A) → IsWellFormed isolated n → Takes x place fresh n m → (o : OpOf N T A) → find x n.tree ≡ Some o → MayRestore x place fresh o m
  may_restore isolated x place fresh m n w c o f =
      let u = member_of_place x place n.tree c.there in
      go u.0 u.1 u.2 u.0.path refl u.3
    where
      newer : (b : Bool) → b ≡ true → NextAfter b x n.next m.next → m.next ≡ x
      newer true f h = h.1
      newer false f h = absurd (true≢false (sym f))

      gone : (b : Bool) → b ≡ true → NextAfter b x n.next m.next → n.next ≡ x + 1
      gone true f h = h.0
      gone false f h = absurd (true≢false (sym f))

      same_next : (b : Bool) → b ≡ false → NextAfter b x n.next m.next → m.next ≡ n.next
      same_next false f h = h
      same_next true f h = absurd (true≢false f)

      go : (s : OpWithPathOf N T A) → In s (stands [] n.tree) → op_with_path_id s ≡ x → (p : List (StepOf N T A)) → s.path ≡ p → place_in s.path ≡ Some place → MayRestore x place fresh o m
      go s h id [] p e = (let bad : None ≡ Some place = sym (ap place_in p) ∙ e in absurd cc)
      go s h id (a ∷ q) p e =
          let there : In (stand s.here (a ∷ q)) (stands [] n.tree) = subst (λ l. In (stand s.here l) (stands [] n.tree)) p h in
          let found : Some s.here ≡ Some o = sym (stand_found n.tree w.distinct s h) ∙ ap (λ z. find z n.tree) id ∙ f in
          let is : s.here ≡ o = cc in
          let g = from_wellformed isolated n.tree w.wellformed in
          record {
            point = ap (has_place place) c.left ∙ point_left isolated x n.tree w.distinct s.here a q there id place (sym (ap place_in p) ∙ e);
            values = each_all (λ v. has_value v m.tree) (head o).operands (λ v i. ap (has_value v) c.left ∙ value_left isolated x n.tree w.distinct s.here a q there id v
                (sym (ap (λ l. dominated_by isolated l v) p) ∙ all_each (dominated_by isolated s.path) (head s.here).operands (g.dominated_by_own s h) v (subst (λ (z : OpOf N T A). In v (head z).operands) (sym is) i)));
            newest = λ k. newer fresh k c.next;
            headroom = λ k. let e = gone fresh k c.next in let n = w.next in omega (arith, e, n);
            below = λ k. let lt = ids_below n.next n.tree w.below s h in let same = same_next fresh k c.next in omega (arith, lt, same, id);
          }
