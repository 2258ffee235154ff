-- A tree that is inserted at a place header by header.
use Rattle.std.proofs.Common.{◌≡◌, refl, ap, sym, ◌∙◌, subst, ℕ, ◌+◌, true, false, true≢false, cond, eqb, eq-eqb, eqb-true, List, [], ◌∷◌, ◌++◌, length, map, append_assoc, append-nil, length-append, Some, inl, inr, arith}
use Rattle.std.specs.List.{list_any, IsDistinct}
use Rattle.std.proofs.lemmas.List.{length-map, map-append}
use Rattle.ir_event.specs.trees.declared.place.Place.{Place}
use Rattle.ir_event.specs.trees.Tree.{HeadOf, OpOf, op, RegionsOf, no_regions, region, RegionOf, empty, block, OpsOf, no_ops, next, head, regions}
use Rattle.ir_event.specs.trees.Ids.{ids, regions_ids, region_ids, ops_ids, has_id, op_count, regions_find}
use Rattle.ir_event.specs.trees.Places.{put, put_last}
use Rattle.ir_event.proofs.of_trees.Gained.{gained_ids}
use Rattle.ir_event.proofs.of_trees.Returns.{Present, halves, absent_first, cons_distinct, nil_distinct}
use Rattle.ir_event.specs.tree_laws.Members.{In}
use Rattle.ir_event.specs.tree_laws.Nested.{with_last}
use Rattle.ir_event.specs.tree_laws.Reasons.{has_place, hold_none}
use Rattle.ir_event.specs.tree_laws.Restores.{MayPut}
use Rattle.ir_event.specs.tree_laws.Stands.{StepOf, OpWithPathOf, op_with_path_id, stands, regions_stands, region_stands, ops_stands}
use Rattle.ir_event.specs.tree_laws.Values.{region_at}
use Rattle.ir_event.proofs.of_tree_laws.Listed.{bool_cases, either, in_left, in_right, in_parts}
use Rattle.ir_event.proofs.of_tree_laws.Readings.{step}
use Rattle.ir_event.proofs.of_tree_laws.Members.{stand, joined_ops}
use Rattle.ir_event.proofs.of_tree_laws.Around.{stand_present}
use Rattle.ir_event.proofs.of_tree_laws.Put.{of_point}
use Rattle.ir_event.proofs.of_tree_laws.PutForm.{put_distinct}
use Rattle.ir_event.proofs.of_tree_laws.Cuts.{all_ids}
use Rattle.ir_event.proofs.of_tree_laws.Nested.{put_along, may_along, put_at_end}
use Rattle.ir_event.proofs.of_tree_laws.Reverted.{point_parent}
use Rattle.rewriter_machine.specs.Inserting.{bare, bare_region, bare_regions, end_of, headers, regions_headers, region_headers, ops_headers}
use Rattle.rewriter_machine.proofs.Earlier.{present_left}
use Rattle.ir_event.proofs.of_tree_laws.Values.{joined_more}

own_id : (x y : ℕ) → Present y (x ∷ []) → x ≡ y
own_id x y h = elim (either (eqb x y) false h) [ inl k ↦ eqb-true x y k | inr k ↦ absurd (true≢false (sym k)) ]

module _ {N T A : Type 0} where
  -- ---- headers

  abbrev pub header_id : Place × OpOf N T A → ℕ
  header_id u = (head u.1).id

  none_inside : (rs : RegionsOf N T A) → regions_ids (bare_regions rs) ≡ []
  none_inside no_regions = refl
  none_inside (region empty rs) = none_inside rs
  none_inside (region (block args os) rs) = none_inside rs

  none_held : (rs : RegionsOf N T A) → hold_none (bare_regions rs) ≡ true
  none_held no_regions = refl
  none_held (region empty rs) = none_held rs
  none_held (region (block args os) rs) = none_held rs

  pub bare_ids : (o : OpOf N T A) → ids (bare o) ≡ (head o).id ∷ []
  bare_ids (op h rs) = ap (λ l. h.id ∷ l) (none_inside rs)

  pub bare_holds : (o : OpOf N T A) → hold_none (regions (bare o)) ≡ true
  bare_holds (op h rs) = none_held rs

  -- their ids are those of the tree
  mutual
    pub header_ids : (place : Place) (o : OpOf N T A) → map header_id (headers place o) ≡ ids o
    header_ids place (op h rs) = ap (λ l. h.id ∷ l) (regions_header_ids h.id 0 rs)

    regions_header_ids : (p r : ℕ) (rs : RegionsOf N T A) → map header_id (regions_headers p r rs) ≡ regions_ids rs
    regions_header_ids p r no_regions = refl
    regions_header_ids p r (region g rs) = map-append header_id (region_headers p r g) (regions_headers p (r + 1) rs) ∙ λ i. region_header_ids p r g i ++ regions_header_ids p (r + 1) rs i

    region_header_ids : (p r : ℕ) (g : RegionOf N T A) → map header_id (region_headers p r g) ≡ region_ids g
    region_header_ids p r empty = refl
    region_header_ids p r (block args os) = ops_header_ids p r os

    ops_header_ids : (p r : ℕ) (os : OpsOf N T A) → map header_id (ops_headers p r os) ≡ ops_ids os
    ops_header_ids p r no_ops = refl
    ops_header_ids p r (next o os) = map-append header_id (headers (end_of p r) o) (ops_headers p r os) ∙ λ i. header_ids (end_of p r) o i ++ ops_header_ids p r os i

  pub header_count : (place : Place) (o : OpOf N T A) → length (headers place o) ≡ op_count o
  header_count place o = sym (length-map (headers place o) header_id) ∙ ap length (header_ids place o)

  -- each is the header of an operation of the tree
  abbrev pub HeaderIn : Place × OpOf N T A → List (OpWithPathOf N T A) → Type 0
  HeaderIn u ss = (s : OpWithPathOf N T A) × In s ss × (u.1 ≡ bare s.here)

  left_in : (u : Place × OpOf N T A) (xs ys : List (OpWithPathOf N T A)) → HeaderIn u xs → HeaderIn u (xs ++ ys)
  left_in u xs ys w = (w.0, in_left w.0 xs ys w.1, w.2)

  right_in : (u : Place × OpOf N T A) (xs ys : List (OpWithPathOf N T A)) → HeaderIn u ys → HeaderIn u (xs ++ ys)
  right_in u xs ys w = (w.0, in_right w.0 xs ys w.1, w.2)

  mutual
    pub header_of : (path : List (StepOf N T A)) (place : Place) (o : OpOf N T A) (u : Place × OpOf N T A) → In u (headers place o) → HeaderIn u (stands path o)
    header_of path place (op h rs) u (inl e) = (stand (op h rs) path, inl refl, ap (λ z. z.1) e)
    header_of path place (op h rs) u (inr k) = let w = regions_header_of (op h rs) path h.id 0 rs u k in (w.0, inr w.1, w.2)

    regions_header_of : (p : OpOf N T A) (path : List (StepOf N T A)) (x r : ℕ) (rs : RegionsOf N T A) (u : Place × OpOf N T A) → In u (regions_headers x r rs) → HeaderIn u (regions_stands p path r rs)
    regions_header_of p path x r no_regions u k = absurd k
    regions_header_of p path x r (region g rs) u k = elim (in_parts u (region_headers x r g) (regions_headers x (r + 1) rs) k) [
      | inl l ↦ left_in u (region_stands p path r g) (regions_stands p path (r + 1) rs) (region_header_of p path x r g u l)
      | inr l ↦ right_in u (region_stands p path r g) (regions_stands p path (r + 1) rs) (regions_header_of p path x (r + 1) rs u l)
    ]

    region_header_of : (p : OpOf N T A) (path : List (StepOf N T A)) (x r : ℕ) (g : RegionOf N T A) (u : Place × OpOf N T A) → In u (region_headers x r g) → HeaderIn u (region_stands p path r g)
    region_header_of p path x r empty u k = absurd k
    region_header_of p path x r (block args os) u k = ops_header_of p path x r args [] os u k

    ops_header_of : (p : OpOf N T A) (path : List (StepOf N T A)) (x r : ℕ) (args : List T) (preceding : List (OpOf N T A)) (os : OpsOf N T A) (u : Place × OpOf N T A) → In u (ops_headers x r os) → HeaderIn u (ops_stands p path r args preceding os)
    ops_header_of p path x r args preceding no_ops u k = absurd k
    ops_header_of p path x r args preceding (next o os) u k = elim (in_parts u (headers (end_of x r) o) (ops_headers x r os) k) [
      | inl l ↦ left_in u (stands (step p r args preceding os ∷ path) o) (ops_stands p path r args (preceding ++ o ∷ []) os) (header_of (step p r args preceding os ∷ path) (end_of x r) o u l)
      | inr l ↦ right_in u (stands (step p r args preceding os ∷ path) o) (ops_stands p path r args (preceding ++ o ∷ []) os) (ops_header_of p path x r args (preceding ++ o ∷ []) os u l)
    ]

  -- each has an id of the tree
  pub header_within : (place : Place) (o : OpOf N T A) (u : Place × OpOf N T A) → In u (headers place o) → (y : ℕ) → has_id y u.1 ≡ true → has_id y o ≡ true
  header_within place o u h y k =
      let w = header_of [] place o u h in
      let one : op_with_path_id w.0 ≡ y = own_id (op_with_path_id w.0) y (sym (ap (list_any (λ z. eqb z y)) (ap ids w.2 ∙ bare_ids w.0.here)) ∙ k) in
      subst (λ z. has_id z o ≡ true) one (stand_present [] o w.0 w.1)

  -- ---- insertions one after another

  abbrev pub all_put : List (Place × OpOf N T A) → OpOf N T A → OpOf N T A
  all_put [] t = t
  all_put (u ∷ us) t = all_put us (put u.0 u.1 t)

  -- each has its place, and ids stay distinct
  abbrev pub Lands : List (Place × OpOf N T A) → OpOf N T A → Type 0
  Lands [] t = Unit {0}
  Lands (u ∷ us) t = MayPut u.0 u.1 t × Lands us (put u.0 u.1 t)

  pub put_more : (us vs : List (Place × OpOf N T A)) (t : OpOf N T A) → all_put (us ++ vs) t ≡ all_put vs (all_put us t)
  put_more [] vs t = refl
  put_more (u ∷ us) vs t = put_more us vs (put u.0 u.1 t)

  lands_more : (us vs : List (Place × OpOf N T A)) (t : OpOf N T A) → Lands us t → Lands vs (all_put us t) → Lands (us ++ vs) t
  lands_more [] vs t a b = b
  lands_more (u ∷ us) vs t a b = (a.0, lands_more us vs (put u.0 u.1 t) a.1 b)

  pub lands_rest : (us vs : List (Place × OpOf N T A)) (t : OpOf N T A) → Lands (us ++ vs) t → Lands vs (all_put us t)
  lands_rest [] vs t a = a
  lands_rest (u ∷ us) vs t a = lands_rest us vs (put u.0 u.1 t) a.1

  -- they lead from one tree to another
  pub record Builds (us : List (Place × OpOf N T A)) (t z : OpOf N T A) : Type 0 where
    pub is : all_put us t ≡ z
    pub lands : Lands us t

  then_builds : (us vs : List (Place × OpOf N T A)) (t u z : OpOf N T A) → Builds us t u → Builds vs u z → Builds (us ++ vs) t z
  then_builds us vs t u z a b = record {
    is = put_more us vs t ∙ ap (all_put vs) a.is ∙ b.is;
    lands = lands_more us vs t a.lands (subst (Lands vs) (sym a.is) b.lands);
  }

  -- headers that can be inserted into an operation can be inserted after the operation is inserted at its place
  builds_along : (place : Place) (q t : OpOf N T A) → MayPut place q t → (us : List (Place × OpOf N T A)) → Lands us q → ((u : Place × OpOf N T A) → In u us → (y : ℕ) → has_id y u.1 ≡ true → has_id y t ≡ false)
      → Builds us (put place q t) (put place (all_put us q) t)
  builds_along place q t may [] lands out = record { is = refl; lands = tt }
  builds_along place q t may (u ∷ us) lands out =
      let e = put_along place u.0 q u.1 t (may.apart u.0.parent (point_parent u.0 q lands.0.point)) in
      let b = builds_along place (put u.0 u.1 q) t (record {
        distinct = may.distinct;
        own = put_distinct u.0 u.1 q lands.0;
        apart = λ y h. elim (bool_cases (has_id y u.1)) [
          | inl k ↦ out u (inl refl) y k
          | inr k ↦ elim (bool_cases (has_id y q)) [ inl l ↦ may.apart y l | inr l ↦ absurd (true≢false (sym h ∙ gained_ids u.0 u.1 y q k l)) ]
        ];
        point = may.point;
      }) us lands.1 (λ z m. out z (inr m)) in
      record { is = ap (all_put us) e ∙ b.is; lands = (may_along place u.0 q u.1 t may lands.0 (out u (inl refl)), subst (Lands us) (sym e) b.lands) }

  -- ---- appended regions

  abbrev joined : List (RegionOf N T A) → RegionsOf N T A → RegionsOf N T A
  joined [] rs = rs
  joined (g ∷ gs) rs = region g (joined gs rs)

  abbrev list_ids : List (RegionOf N T A) → List ℕ
  list_ids [] = []
  list_ids (g ∷ gs) = region_ids g ++ list_ids gs

  joined_ids : (gs : List (RegionOf N T A)) (rs : RegionsOf N T A) → regions_ids (joined gs rs) ≡ list_ids gs ++ regions_ids rs
  joined_ids [] rs = refl
  joined_ids (g ∷ gs) rs = ap (λ l. region_ids g ++ l) (joined_ids gs rs) ∙ sym (append_assoc (region_ids g) (list_ids gs) (regions_ids rs))

  one_more : (gs : List (RegionOf N T A)) (g : RegionOf N T A) (rs : RegionsOf N T A) → joined (gs ++ g ∷ []) rs ≡ joined gs (region g rs)
  one_more [] g rs = refl
  one_more (q ∷ gs) g rs = ap (region q) (one_more gs g rs)

  more_ids : (gs : List (RegionOf N T A)) (g : RegionOf N T A) → list_ids (gs ++ g ∷ []) ≡ list_ids gs ++ region_ids g
  more_ids [] g = append-nil (region_ids g)
  more_ids (q ∷ gs) g = ap (λ l. region_ids q ++ l) (more_ids gs g) ∙ sym (append_assoc (region_ids q) (list_ids gs) (region_ids g))

  region_there : (gs : List (RegionOf N T A)) (g : RegionOf N T A) (rs : RegionsOf N T A) → region_at (length gs) (joined gs (region g rs)) ≡ Some g
  region_there [] g rs = refl
  region_there (q ∷ gs) g rs = region_there gs g rs

  -- appended operations
  preceding_ids : (preceding : List (OpOf N T A)) → ops_ids (joined_ops preceding no_ops) ≡ all_ids preceding
  preceding_ids [] = refl
  preceding_ids (o ∷ preceding) = ap (λ l. ids o ++ l) (preceding_ids preceding)

  more_op_ids : (preceding : List (OpOf N T A)) (o : OpOf N T A) → all_ids (preceding ++ o ∷ []) ≡ all_ids preceding ++ ids o
  more_op_ids [] o = append-nil (ids o)
  more_op_ids (q ∷ preceding) o = ap (λ l. ids q ++ l) (more_op_ids preceding o) ∙ sym (append_assoc (ids q) (all_ids preceding) (ids o))

  last_of : (q : OpOf N T A) (preceding : List (OpOf N T A)) → put_last q (joined_ops preceding no_ops) ≡ joined_ops (preceding ++ q ∷ []) no_ops
  last_of q [] = refl
  last_of q (p ∷ preceding) = ap (next p) (last_of q preceding)

  last_there : (q : OpOf N T A) (gs : List (RegionOf N T A)) (args : List T) (preceding : List (OpOf N T A)) (rs : RegionsOf N T A)
      → with_last (length gs) q (joined gs (region (block args (joined_ops preceding no_ops)) rs)) ≡ joined gs (region (block args (joined_ops (preceding ++ q ∷ []) no_ops)) rs)
  last_there q [] args preceding rs = ap (λ l. region (block args l) rs) (last_of q preceding)
  last_there q (g ∷ gs) args preceding rs = ap (region g) (last_there q gs args preceding rs)

  -- ---- an operation whose regions are filled from the first on
  module _ (h : HeadOf N T A) (gs : List (RegionOf N T A)) (args : List T) (rs : RegionsOf N T A) (none : regions_ids rs ≡ []) where
    abbrev filled : List (OpOf N T A) → OpOf N T A
    filled preceding = op h (joined gs (region (block args (joined_ops preceding no_ops)) rs))

    filled_ids : (preceding : List (OpOf N T A)) → ids (filled preceding) ≡ h.id ∷ (list_ids gs ++ all_ids preceding)
    filled_ids preceding =
        ap (λ l. h.id ∷ l) (joined_ids gs (region (block args (joined_ops preceding no_ops)) rs)
        ∙ ap (λ l. list_ids gs ++ l) ((λ i. preceding_ids preceding i ++ none i) ∙ append-nil (all_ids preceding)))

    has_end : (preceding : List (OpOf N T A)) → has_place (end_of h.id (length gs)) (filled preceding) ≡ true
    has_end preceding = of_point (end_of h.id (length gs)) (filled preceding) (record {
      parent = filled preceding;
      found = ap (λ b. cond b (Some (filled preceding)) (regions_find h.id (joined gs (region (block args (joined_ops preceding no_ops)) rs)))) (eq-eqb h.id h.id refl);
      args = args;
      list = joined_ops preceding no_ops;
      is = region_there gs (block args (joined_ops preceding no_ops)) rs;
      among = refl;
    })

    -- one more operation is appended
    one_filled : (preceding : List (OpOf N T A)) (q : OpOf N T A) → IsDistinct eqb (h.id ∷ (list_ids gs ++ all_ids preceding)) → put (end_of h.id (length gs)) q (filled preceding) ≡ filled (preceding ++ q ∷ [])
    one_filled preceding q d =
        put_at_end h (joined gs (region (block args (joined_ops preceding no_ops)) rs)) (length gs) q
        (absent_first h.id (regions_ids (joined gs (region (block args (joined_ops preceding no_ops)) rs))) (subst (IsDistinct eqb) (sym (filled_ids preceding)) d))
        ∙ ap (op h) (last_there q gs args preceding rs)

    may_fill : (preceding : List (OpOf N T A)) (q : OpOf N T A) (later : List ℕ) → IsDistinct eqb ((h.id ∷ (list_ids gs ++ all_ids preceding)) ++ (ids q ++ later)) → MayPut (end_of h.id (length gs)) q (filled preceding)
    may_fill preceding q later d =
        let hv = halves (h.id ∷ (list_ids gs ++ all_ids preceding)) (ids q ++ later) d in
        let inner = halves (ids q) later hv.right in
        record {
          distinct = subst (IsDistinct eqb) (sym (filled_ids preceding)) hv.left;
          own = inner.left;
          apart = λ y k. ap (list_any (λ z. eqb z y)) (filled_ids preceding) ∙ elim (bool_cases (list_any (λ z. eqb z y) (h.id ∷ (list_ids gs ++ all_ids preceding)))) [
            | inr j ↦ j
            | inl j ↦ absurd (true≢false (sym (present_left y (ids q) later k) ∙ hv.disjoint y j))
          ];
          point = has_end preceding;
        }

    next_distinct : (preceding : List (OpOf N T A)) (q : OpOf N T A) (later : List ℕ) → IsDistinct eqb ((h.id ∷ (list_ids gs ++ all_ids preceding)) ++ (ids q ++ later)) → IsDistinct eqb ((h.id ∷ (list_ids gs ++ all_ids (preceding ++ q ∷ []))) ++ later)
    next_distinct preceding q later d =
        subst (IsDistinct eqb) (ap (λ l. h.id ∷ l) (sym (ap (λ l. (list_ids gs ++ l) ++ later) (more_op_ids preceding q)
        ∙ append_assoc (list_ids gs) (all_ids preceding ++ ids q) later
        ∙ ap (λ l. list_ids gs ++ l) (append_assoc (all_ids preceding) (ids q) later)
        ∙ sym (append_assoc (list_ids gs) (all_ids preceding) (ids q ++ later))))) d

  mutual
    -- a tree is built at its place by its headers
    pub build : (place : Place) (o t : OpOf N T A) → MayPut place o t → Builds (headers place o) t (put place o t)
    build place (op h rs) t may =
        let inner = regions_build h [] 0 refl rs may.own in
        let may0 : MayPut place (op h (bare_regions rs)) t = record {
          distinct = may.distinct;
          own = subst (IsDistinct eqb) (sym (bare_ids (op h rs))) (cons_distinct h.id [] refl nil_distinct);
          apart = λ y k. may.apart y (header_within place (op h rs) (place, op h (bare_regions rs)) (inl refl) y k);
          point = may.point;
        } in
        let b = builds_along place (op h (bare_regions rs)) t may0 (regions_headers h.id 0 rs) inner.lands (λ u m y k. may.apart y (header_within place (op h rs) u (inr m) y k)) in
        record { is = b.is ∙ ap (λ z. put place z t) inner.is; lands = (may0, b.lands) }

    regions_build : (h : HeadOf N T A) (gs : List (RegionOf N T A)) (r : ℕ) → r ≡ length gs → (rs : RegionsOf N T A) → IsDistinct eqb ((h.id ∷ list_ids gs) ++ regions_ids rs)
        → Builds (regions_headers h.id r rs) (op h (joined gs (bare_regions rs))) (op h (joined gs rs))
    regions_build h gs r e no_regions d = record { is = refl; lands = tt }
    regions_build h gs r e (region g rs) d =
        let one = region_build h gs r e g (bare_regions rs) (none_inside rs) ((halves ((h.id ∷ list_ids gs) ++ region_ids g) (regions_ids rs) (subst (IsDistinct eqb) (sym (append_assoc (h.id ∷ list_ids gs) (region_ids g) (regions_ids rs))) d)).left) in
        let rest = regions_build h (gs ++ g ∷ []) (r + 1) (let n = length-append gs (g ∷ []) in omega (arith, n, e)) rs
        (subst (IsDistinct eqb) (ap (λ l. h.id ∷ l) (sym (ap (λ l. l ++ regions_ids rs) (more_ids gs g) ∙ append_assoc (list_ids gs) (region_ids g) (regions_ids rs)))) d) in
        then_builds (region_headers h.id r g) (regions_headers h.id (r + 1) rs) (op h (joined gs (region (bare_region g) (bare_regions rs)))) (op h (joined gs (region g (bare_regions rs)))) (op h (joined gs (region g rs))) one
        (subst (λ (l : RegionsOf N T A). Builds (regions_headers h.id (r + 1) rs) (op h l) (op h (joined gs (region g rs)))) (one_more gs g (bare_regions rs))
        (subst (λ (l : RegionsOf N T A). Builds (regions_headers h.id (r + 1) rs) (op h (joined (gs ++ g ∷ []) (bare_regions rs))) (op h l)) (one_more gs g rs) rest))

    region_build : (h : HeadOf N T A) (gs : List (RegionOf N T A)) (r : ℕ) → r ≡ length gs → (g : RegionOf N T A) (rs : RegionsOf N T A) → regions_ids rs ≡ [] → IsDistinct eqb ((h.id ∷ list_ids gs) ++ region_ids g)
        → Builds (region_headers h.id r g) (op h (joined gs (region (bare_region g) rs))) (op h (joined gs (region g rs)))
    region_build h gs r e empty rs none d = record { is = refl; lands = tt }
    region_build h gs r e (block args os) rs none d = ops_build h gs r e args [] os rs none (subst (λ l. IsDistinct eqb ((h.id ∷ l) ++ ops_ids os)) (sym (append-nil (list_ids gs))) d)

    ops_build : (h : HeadOf N T A) (gs : List (RegionOf N T A)) (r : ℕ) → r ≡ length gs → (args : List T) (preceding : List (OpOf N T A)) (os : OpsOf N T A) (rs : RegionsOf N T A) → regions_ids rs ≡ []
        → IsDistinct eqb ((h.id ∷ (list_ids gs ++ all_ids preceding)) ++ ops_ids os)
        → Builds (ops_headers h.id r os) (op h (joined gs (region (block args (joined_ops preceding no_ops)) rs))) (op h (joined gs (region (block args (joined_ops preceding os)) rs)))
    ops_build h gs r e args preceding no_ops rs none d = record { is = refl; lands = tt }
    ops_build h gs r e args preceding (next q os) rs none d =
        let t = op h (joined gs (region (block args (joined_ops preceding no_ops)) rs)) in
        let may : MayPut (end_of h.id r) q t = subst (λ n. MayPut (end_of h.id n) q t) (sym e) (may_fill h gs args rs none preceding q (ops_ids os) d) in
        let one = build (end_of h.id r) q t may in
        let is : put (end_of h.id r) q t ≡ op h (joined gs (region (block args (joined_ops (preceding ++ q ∷ []) no_ops)) rs)) =
        ap (λ n. put (end_of h.id n) q t) e ∙ one_filled h gs args rs none preceding q (halves (h.id ∷ (list_ids gs ++ all_ids preceding)) (ids q ++ ops_ids os) d).left in
        let rest = ops_build h gs r e args (preceding ++ q ∷ []) os rs none (next_distinct h gs args rs none preceding q (ops_ids os) d) in
        then_builds (headers (end_of h.id r) q) (ops_headers h.id r os) t (op h (joined gs (region (block args (joined_ops (preceding ++ q ∷ []) no_ops)) rs))) (op h (joined gs (region (block args (joined_ops preceding (next q os))) rs)))
        (subst (Builds (headers (end_of h.id r) q) t) is one)
        (subst (λ (l : OpsOf N T A). Builds (ops_headers h.id r os) (op h (joined gs (region (block args (joined_ops (preceding ++ q ∷ []) no_ops)) rs))) (op h (joined gs (region (block args l) rs)))) (joined_more preceding q os) rest)
