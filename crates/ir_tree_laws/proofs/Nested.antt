-- Inserting into an operation that was inserted before, and taking out of it.
use Rattle.std.proofs.Common.{◌≡◌, refl, ap, sym, ◌∙◌, ℕ, zero, suc, ◌+◌, ◌<◌, Bool, true, false, true≢false, cond, ◌&&◌, eqb, eq-eqb, eqb-true, List, [], ◌∷◌, Option, Some, None, option_map, inl, inr, arith}
use Rattle.std.specs.Prelude.{option_and_then}
use Rattle.std.specs.List.{list_any}
use Rattle.ir_tree.specs.declared.place.Place.{Place}
use Rattle.ir_tree.specs.Tree.{HeadOf, OpOf, op, RegionsOf, no_regions, region, RegionOf, empty, block, OpsOf, no_ops, next, head, regions}
use Rattle.ir_tree.specs.Ids.{ids, regions_ids, region_ids, ops_ids, has_id, find}
use Rattle.ir_tree.specs.Places.{each_list, regions_each_list, region_each_list, ops_each_list, put_last, put_before, put_in, is_in_block, put_here, put, drop_op, without}
use Rattle.ir_tree.proofs.Gained.{gained_ids}
use Rattle.ir_tree.proofs.Moves.{Absent, absent_parts, list_id, ops_unput}
use Rattle.ir_tree_laws.specs.Nested.{with_last}
use Rattle.ir_tree_laws.specs.Reads.{ops_in}
use Rattle.ir_tree_laws.specs.Reasons.{is_in_list, has_place}
use Rattle.ir_tree_laws.specs.Restores.{MayPut}
use Rattle.ir_tree_laws.specs.Values.{region_at}
use Rattle.ir_tree_laws.specs.Stands.{StepOf, OpWithPathOf, find_op_with_path, stands}
use Rattle.ir_tree_laws.proofs.Listed.{bool_cases, neither}
use Rattle.ir_tree_laws.proofs.Readings.{stands_find}
use Rattle.ir_tree_laws.proofs.Members.{within, member, stand_found}
use Rattle.ir_tree_laws.proofs.PutForm.{landed, put_distinct}

pub unequal : (a b : ℕ) → eqb a b ≡ false → eqb b a ≡ false
unequal a b e = elim (bool_cases (eqb b a)) [ inr k ↦ k | inl k ↦ absurd (true≢false (sym (eq-eqb a b (sym (eqb-true b a k))) ∙ e)) ]

module _ {N T A : Type 0} where
  -- an edit of lists of a list with an operation put in
  module _ (f : ℕ → ℕ → OpsOf N T A → OpsOf N T A) where
    list_put_last : (o : OpOf N T A) (os : OpsOf N T A) → ops_each_list f (put_last o os) ≡ put_last (each_list f o) (ops_each_list f os)
    list_put_last o no_ops = refl
    list_put_last o (next p os) = ap (next (each_list f p)) (list_put_last o os)

    list_put_before : (b : ℕ) (o : OpOf N T A) (os : OpsOf N T A) → ops_each_list f (put_before b o os) ≡ put_before b (each_list f o) (ops_each_list f os)
    list_put_before b o no_ops = refl
    list_put_before b o (next (op h rs) os) =
        elim (eqb h.id b) as (λ c. ops_each_list f (cond c (next o (next (op h rs) os)) (next (op h rs) (put_before b o os)))
        ≡ cond c (next (each_list f o) (next (each_list f (op h rs)) (ops_each_list f os))) (next (each_list f (op h rs)) (put_before b (each_list f o) (ops_each_list f os))))
        [ true ↦ refl | false ↦ ap (next (each_list f (op h rs))) (list_put_before b o os) ]

    list_put_in : (b : Option ℕ) (o : OpOf N T A) (os : OpsOf N T A) → ops_each_list f (put_in b o os) ≡ put_in b (each_list f o) (ops_each_list f os)
    list_put_in None o os = list_put_last o os
    list_put_in (Some b) o os = list_put_before b o os

    pub list_put_here : (place : Place) (o : OpOf N T A) (p r : ℕ) (os : OpsOf N T A) → ops_each_list f (put_here place o p r os) ≡ put_here place (each_list f o) p r (ops_each_list f os)
    list_put_here place o p r os =
        elim (is_in_block place p r) as (λ b. ops_each_list f (cond b (put_in place.before o os) os) ≡ cond b (put_in place.before (each_list f o) (ops_each_list f os)) (ops_each_list f os))
        [ true ↦ list_put_in place.before o os | false ↦ refl ]

  -- inserting into an inserted operation
  module _ (place into : Place) (o c : OpOf N T A) where
    abbrev first : ℕ → ℕ → OpsOf N T A → OpsOf N T A
    first = put_here place o

    abbrev second : ℕ → ℕ → OpsOf N T A → OpsOf N T A
    second = put_here into c

    abbrev whole : ℕ → ℕ → OpsOf N T A → OpsOf N T A
    whole = put_here place (put into c o)

    elsewhere : (p r : ℕ) (os : OpsOf N T A) → eqb p into.parent ≡ false → put_here into c p r os ≡ os
    elsewhere p r os e = ap (λ b. cond (b && eqb r into.region) (put_in into.before c os) os) e

    mutual
      op_along : (t : OpOf N T A) → Absent into.parent (ids t) → each_list (put_here into c) (each_list (put_here place o) t) ≡ each_list (put_here place (put into c o)) t
      op_along (op h rs) a = let b = neither _ _ a in ap (op h) (regions_along h.id 0 rs b.0 b.1)

      regions_along : (p r : ℕ) (rs : RegionsOf N T A) → eqb p into.parent ≡ false → Absent into.parent (regions_ids rs)
          → regions_each_list (put_here into c) p r (regions_each_list (put_here place o) p r rs) ≡ regions_each_list (put_here place (put into c o)) p r rs
      regions_along p r no_regions e a = refl
      regions_along p r (region g rs) e a = let b = absent_parts into.parent (region_ids g) (regions_ids rs) a in λ i. region (region_along p r g e b.0 i) (regions_along p (r + 1) rs e b.1 i)

      region_along : (p r : ℕ) (g : RegionOf N T A) → eqb p into.parent ≡ false → Absent into.parent (region_ids g)
          → region_each_list (put_here into c) p r (region_each_list (put_here place o) p r g) ≡ region_each_list (put_here place (put into c o)) p r g
      region_along p r empty e a = refl
      region_along p r (block args os) e a =
          ap (block args) (elsewhere p r (ops_each_list second (first p r (ops_each_list first os))) e ∙ list_put_here second place o p r (ops_each_list first os) ∙ ap (whole p r) (ops_along os a))

      ops_along : (os : OpsOf N T A) → Absent into.parent (ops_ids os) → ops_each_list (put_here into c) (ops_each_list (put_here place o) os) ≡ ops_each_list (put_here place (put into c o)) os
      ops_along no_ops a = refl
      ops_along (next q os) a = let b = absent_parts into.parent (ids q) (ops_ids os) a in λ i. next (op_along q b.0 i) (ops_along os b.1 i)

    pub put_along : (t : OpOf N T A) → has_id into.parent t ≡ false → put into c (put place o t) ≡ put place (put into c o) t
    put_along t a = op_along t a

  -- taking out of an inserted operation
  module _ (y : ℕ) (place : Place) (o : OpOf N T A) (other : eqb (head o).id y ≡ false) where
    abbrev dropped : ℕ → ℕ → OpsOf N T A → OpsOf N T A
    dropped = λ p r os. drop_op y os

    abbrev left : OpOf N T A
    left = each_list (λ p r os. drop_op y os) o

    left_other : eqb (head left).id y ≡ false
    left_other = ap (λ z. eqb z y) (list_id dropped o) ∙ other

    -- no operation of a list is y
    abbrev Others : OpsOf N T A → Type 0
    Others no_ops = Unit {0}
    Others (next p os) = (eqb (head p).id y ≡ false) × Others os

    others : (f : ℕ → ℕ → OpsOf N T A → OpsOf N T A) (os : OpsOf N T A) → Absent y (ops_ids os) → Others (ops_each_list f os)
    others f no_ops a = tt
    others f (next (op h rs) os) a = let b = absent_parts y (ids (op h rs)) (ops_ids os) a in ((neither _ _ b.0).0, others f os b.1)

    stays : (os : OpsOf N T A) → Others os → drop_op y os ≡ os
    stays no_ops a = refl
    stays (next p os) a = λ i. cond (a.0 i) (stays os a.1 i) (next p (stays os a.1 i))

    others_last : (os : OpsOf N T A) → Others os → Others (put_last left os)
    others_last no_ops a = (left_other, tt)
    others_last (next p os) a = (a.0, others_last os a.1)

    others_before : (b : ℕ) (os : OpsOf N T A) → Others os → Others (put_before b left os)
    others_before b no_ops a = tt
    others_before b (next p os) a = elim (eqb (head p).id b) as (λ c. Others (cond c (next left (next p os)) (next p (put_before b left os)))) [ true ↦ (left_other, a) | false ↦ (a.0, others_before b os a.1) ]

    others_in : (b : Option ℕ) (os : OpsOf N T A) → Others os → Others (put_in b left os)
    others_in None os a = others_last os a
    others_in (Some b) os a = others_before b os a

    others_here : (p r : ℕ) (os : OpsOf N T A) → Others os → Others (put_here place left p r os)
    others_here p r os a = elim (is_in_block place p r) as (λ b. Others (cond b (put_in place.before left os) os)) [ true ↦ others_in place.before os a | false ↦ a ]

    mutual
      op_left : (t : OpOf N T A) → Absent y (ids t) → each_list (λ p r os. drop_op y os) (each_list (put_here place o) t) ≡ each_list (put_here place (without y o)) t
      op_left (op h rs) a = let b = neither _ _ a in ap (op h) (regions_left h.id 0 rs b.1)

      regions_left : (p r : ℕ) (rs : RegionsOf N T A) → Absent y (regions_ids rs) → regions_each_list (λ p r os. drop_op y os) p r (regions_each_list (put_here place o) p r rs) ≡ regions_each_list (put_here place (without y o)) p r rs
      regions_left p r no_regions a = refl
      regions_left p r (region g rs) a = let b = absent_parts y (region_ids g) (regions_ids rs) a in λ i. region (region_left p r g b.0 i) (regions_left p (r + 1) rs b.1 i)

      region_left : (p r : ℕ) (g : RegionOf N T A) → Absent y (region_ids g) → region_each_list (λ p r os. drop_op y os) p r (region_each_list (put_here place o) p r g) ≡ region_each_list (put_here place (without y o)) p r g
      region_left p r empty a = refl
      region_left p r (block args os) a =
          ap (block args) (ap (drop_op y) (list_put_here dropped place o p r (ops_each_list (put_here place o) os) ∙ ap (put_here place left p r) (ops_left os a))
          ∙ stays (put_here place left p r (ops_each_list (put_here place left) os)) (others_here p r (ops_each_list (put_here place left) os) (others (put_here place left) os a)))

      ops_left : (os : OpsOf N T A) → Absent y (ops_ids os) → ops_each_list (λ p r os. drop_op y os) (ops_each_list (put_here place o) os) ≡ ops_each_list (put_here place (without y o)) os
      ops_left no_ops a = refl
      ops_left (next q os) a = let b = absent_parts y (ids q) (ops_ids os) a in λ i. next (op_left q b.0 i) (ops_left os b.1 i)

    pub without_along : (t : OpOf N T A) → has_id y t ≡ false → without y (put place o t) ≡ put place (without y o) t
    without_along t a = op_left t a

  -- an operation inside an inserted operation is found unchanged
  pub found_along : (place : Place) (o t : OpOf N T A) (may : MayPut place o t) (y : ℕ) (z : OpOf N T A) → find y o ≡ Some z → find y (put place o t) ≡ Some z
  found_along place o t may y z e = go (find_op_with_path y (stands path o)) refl (stands_find y path o ∙ e)
    where
      path : List (StepOf N T A)
      path = (landed place o t may).step_in ∷ (landed place o t may).path

      go : (f : Option (OpWithPathOf N T A)) → find_op_with_path y (stands path o) ≡ f → option_map (λ (s : OpWithPathOf N T A). s.here) f ≡ Some z → find y (put place o t) ≡ Some z
      go None k h = absurd cc
      go (Some s) k h =
          let m = member y (stands path o) s k in
          ap (λ q. find q (put place o t)) (sym m.1) ∙ stand_found (put place o t) (put_distinct place o t may) s (within o path s m.0 [] (put place o t) (landed place o t may).there) ∙ h

  -- a place in an inserted operation is a place of the tree
  pub place_along : (place into : Place) (o t : OpOf N T A) → MayPut place o t → has_place into o ≡ true → has_place into (put place o t) ≡ true
  place_along place into o t may e = go (find into.parent o) refl e
    where
      go : (f : Option (OpOf N T A)) → find into.parent o ≡ f → is_in_list into.before (option_and_then (λ o. option_and_then ops_in (region_at into.region (regions o))) f) ≡ true → has_place into (put place o t) ≡ true
      go None k h = absurd (true≢false (sym h))
      go (Some p) k h = ap (λ f. is_in_list into.before (option_and_then (λ o. option_and_then ops_in (region_at into.region (regions o))) f)) (found_along place o t may into.parent p k) ∙ h

  pub may_along : (place into : Place) (o c t : OpOf N T A) → MayPut place o t → MayPut into c o → ((y : ℕ) → has_id y c ≡ true → has_id y t ≡ false) → MayPut into c (put place o t)
  may_along place into o c t may inner out = record {
    distinct = put_distinct place o t may;
    own = inner.own;
    apart = λ y h. gained_ids place o y t (inner.apart y h) (out y h);
    point = place_along place into o t may inner.point;
  }

  -- at the end of a block of an operation
  module _ (x n : ℕ) (c : OpOf N T A) where
    abbrev end : Place
    end = record { parent = x; region = n; before = None }

    untouched_ops : (os : OpsOf N T A) → Absent x (ops_ids os) → ops_each_list (put_here (record { parent = x; region = n; before = None }) c) os ≡ os
    untouched_ops os a = ops_unput end c os a

    region_elsewhere : (k : ℕ) (g : RegionOf N T A) → eqb k n ≡ false → Absent x (region_ids g) → region_each_list (put_here (record { parent = x; region = n; before = None }) c) x k g ≡ g
    region_elsewhere k empty e a = refl
    region_elsewhere k (block args os) e a =
        ap (block args) (ap (λ b. cond b (put_last c (ops_each_list (put_here end c) os)) (ops_each_list (put_here end c) os)) (ap (λ b. eqb x x && b) e ∙ never (eqb x x)) ∙ untouched_ops os a)
      where
        never : (b : Bool) → (b && false) ≡ false
        never true = refl
        never false = refl

    region_there : (k : ℕ) (args : List T) (os : OpsOf N T A) → k ≡ n → Absent x (ops_ids os) → region_each_list (put_here (record { parent = x; region = n; before = None }) c) x k (block args os) ≡ block args (put_last c os)
    region_there k args os e a = (λ i. block args (cond (eq-eqb x x refl i && eq-eqb k n e i) (put_last c (ops_each_list (put_here end c) os)) (ops_each_list (put_here end c) os))) ∙ ap (λ l. block args (put_last c l)) (untouched_ops os a)

    other_number : (k : ℕ) → (k ≡ n → ⊥) → eqb k n ≡ false
    other_number k f = elim (bool_cases (eqb k n)) [ inr e ↦ e | inl e ↦ absurd (f (eqb-true k n e)) ]

    later : (k : ℕ) (rs : RegionsOf N T A) → n < k → Absent x (regions_ids rs) → regions_each_list (put_here (record { parent = x; region = n; before = None }) c) x k rs ≡ rs
    later k no_regions e a = refl
    later k (region g rs) e a =
        let b = absent_parts x (region_ids g) (regions_ids rs) a in
        λ i. region (region_elsewhere k g (other_number k (λ same. omega (arith, e, same))) b.0 i) (later (k + 1) rs (omega (arith, e)) b.1 i)

    last_here : (r k : ℕ) (rs : RegionsOf N T A) → n ≡ r + k → Absent x (regions_ids rs) → regions_each_list (put_here (record { parent = x; region = n; before = None }) c) x k rs ≡ with_last r c rs
    last_here r k no_regions e a = refl
    last_here zero k (region empty rs) e a = ap (region empty) (later (k + 1) rs (omega (arith, e)) a)
    last_here zero k (region (block args os) rs) e a =
        let b = absent_parts x (ops_ids os) (regions_ids rs) a in
        let same : k ≡ n = omega (arith, e) in
        λ i. region (region_there k args os same b.0 i) (later (k + 1) rs (omega (arith, e)) b.1 i)
    last_here (suc r) k (region g rs) e a =
        let b = absent_parts x (region_ids g) (regions_ids rs) a in
        λ i. region (region_elsewhere k g (other_number k (λ same. omega (arith, e, same))) b.0 i) (last_here r (k + 1) rs (omega (arith, e)) b.1 i)

  pub put_at_end : (h : HeadOf N T A) (rs : RegionsOf N T A) (r : ℕ) (c : OpOf N T A) → list_any (λ y. eqb y h.id) (regions_ids rs) ≡ false → put (record { parent = h.id; region = r; before = None }) c (op h rs) ≡ op h (with_last r c rs)
  put_at_end h rs r c a = let e : r ≡ r + 0 = omega arith in ap (op h) (last_here h.id r c r 0 rs e a)
