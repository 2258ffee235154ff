-- A tree that is built operation by operation is the whole tree.
use Rattle.std.proofs.Common.{◌≡◌, ℕ, ◌+◌, List, [], ◌∷◌, ◌++◌, refl, sym, ap, ◌∙◌, subst, length, Bool, true, false, eqb, ◌||◌, ⊎_elim, arith, Option, Some, None}
use Rattle.std.specs.Prelude.{option_and_then, if◌then◌else◌}
use Rattle.std.specs.List.{list_any, IsDistinct}
use Rattle.std.proofs.lemmas.Bool.{cases_Bool, false≢true, eq-eqb}
use Rattle.std.proofs.lemmas.List.{append_assoc, append-nil}
use Rattle.ir_store_reads.specs.trees.declared.place.Place.{Place}
use Rattle.ir_store_reads.specs.trees.Tree.{Head, Op, op, Regions, no_regions, region, Region, empty, block, Ops, no_ops, next, head, regions}
use Rattle.ir_store_reads.specs.trees.Ids.{HasDistinctIds, ids, regions_ids, region_ids, ops_ids, has_id, regions_find}
use Rattle.ir_store_reads.specs.trees.Places.{put, put_last}
use Rattle.ir_store_reads.proofs.of_trees.Moves.{Absent}
use Rattle.ir_store_reads.proofs.of_trees.Returns.{halves, absent_first}
use Rattle.ir_store_reads.specs.tree_laws.Nested.{with_last}
use Rattle.ir_store_reads.specs.tree_laws.Reads.{ops_in}
use Rattle.ir_store_reads.specs.tree_laws.Reasons.{is_in_list}
use Rattle.ir_store_reads.specs.tree_laws.Values.{region_at}
use Rattle.ir_store_reads.specs.tree_laws.Restores.{MayPut}
use Rattle.ir_store_reads.proofs.of_tree_laws.Nested.{put_along, may_along, put_at_end}
use Rattle.ir_store_reads.specs.Emptied.{emptied_regions, emptied}
use Rattle.ir_store.specs.Loads.{end_of, put_ops, put_regions, MayOps, MayRegions}
use Rattle.std.proofs.lemmas.List.Folds.{list_any-append}

in_preceding : (p : ℕ → Bool) (xs ys : List ℕ) → list_any p xs ≡ true → list_any p (xs ++ ys) ≡ true
in_preceding p xs ys e = list_any-append p xs ys ∙ ap (λ b. b || list_any p ys) e

in_back : (p : ℕ → Bool) (xs ys : List ℕ) → list_any p ys ≡ true → list_any p (xs ++ ys) ≡ true
in_back p xs ys e = list_any-append p xs ys ∙ ap (λ b. list_any p xs || b) e ∙ at_last (list_any p xs)
  where
    at_last : (a : Bool) → (a || true) ≡ true
    at_last true = refl
    at_last false = refl

-- appends regions to a list of regions
abbrev trailing : List Region → Regions → Regions
trailing [] rs = rs
trailing (f ∷ fs) rs = region f (trailing fs rs)

abbrev fs_ids : List Region → List ℕ
fs_ids [] = []
fs_ids (f ∷ fs) = region_ids f ++ fs_ids fs

after_ids : (fs : List Region) (rs : Regions) → regions_ids (trailing fs rs) ≡ fs_ids fs ++ regions_ids rs
after_ids [] rs = refl
after_ids (f ∷ fs) rs = ap (λ z. region_ids f ++ z) (after_ids fs rs) ∙ sym (append_assoc (region_ids f) (fs_ids fs) (regions_ids rs))

emptied_ids : (rs : Regions) → regions_ids (emptied_regions rs) ≡ []
emptied_ids no_regions = refl
emptied_ids (region empty rs) = emptied_ids rs
emptied_ids (region (block args os) rs) = emptied_ids rs

after_last : (fs : List Region) (args : List ℕ) (os : Ops) (rs : Regions) (c : Op) → with_last (length fs) c (trailing fs (region (block args os) rs)) ≡ trailing fs (region (block args (put_last c os)) rs)
after_last [] args os rs c = refl
after_last (f ∷ fs) args os rs c = ap (region f) (after_last fs args os rs c)

after_at : (fs : List Region) (g : Region) (rs : Regions) → region_at (length fs) (trailing fs (region g rs)) ≡ Some g
after_at [] g rs = refl
after_at (f ∷ fs) g rs = after_at fs g rs

after_more : (fs : List Region) (g : Region) (rs : Regions) → trailing (fs ++ g ∷ []) rs ≡ trailing fs (region g rs)
after_more [] g rs = refl
after_more (f ∷ fs) g rs = ap (region f) (after_more fs g rs)

length_more : (fs : List Region) (g : Region) → length fs + 1 ≡ length (fs ++ g ∷ [])
length_more [] g = refl
length_more (f ∷ fs) g = let e = length_more fs g in omega arith

last_ids : (c : Op) (os : Ops) → ops_ids (put_last c os) ≡ ops_ids os ++ ids c
last_ids c no_ops = append-nil (ids c)
last_ids c (next o os) = ap (λ z. ids o ++ z) (last_ids c os) ∙ sym (append_assoc (ids o) (ops_ids os) (ids c))

-- appends operations to other operations
abbrev ops_after : Ops → Ops → Ops
ops_after no_ops ps = ps
ops_after (next o os) ps = next o (ops_after os ps)

after_ops : (os : Ops) (c : Op) (ps : Ops) → ops_after (put_last c os) ps ≡ ops_after os (next c ps)
after_ops no_ops c ps = refl
after_ops (next o os) c ps = ap (next o) (after_ops os c ps)

after_none : (os : Ops) → ops_after os no_ops ≡ os
after_none no_ops = refl
after_none (next o os) = ap (next o) (after_none os)

-- every id of one tree is an id of another
abbrev Within : Op → Op → Type 0
Within o p = (y : ℕ) → has_id y o ≡ true → has_id y p ≡ true

-- an operation inside a tree, or the tree itself
module _ (h : Head) (rs : Regions) (own : HasDistinctIds (op h rs)) (stand : Op → Op)
    (along : (n : ℕ) (c : Op) (cur : Regions) → put (end_of h.id n) c (stand (op h cur)) ≡ stand (put (end_of h.id n) c (op h cur)))
    (mays : (n : ℕ) (c : Op) (cur : Regions) → HasDistinctIds (op h cur) → Within (op h cur) (op h rs) → MayPut (end_of h.id n) c (op h cur) → Within c (op h rs) → MayPut (end_of h.id n) c (stand (op h cur))) where
  -- the tree with the part of the operation that is built so far
  abbrev so_far : Regions → Op
  so_far cur = stand (op h cur)

  abbrev Preceding : Regions → List ℕ → Type 0
  Preceding cur more = regions_ids cur ++ more ≡ regions_ids rs

  module _ (cur : Regions) (more : List ℕ) (e : Preceding cur more) where
    whole : h.id ∷ regions_ids cur ++ more ≡ ids (op h rs)
    whole = ap (λ z. h.id ∷ z) e

    own_ids : IsDistinct eqb ((h.id ∷ regions_ids cur) ++ more)
    own_ids = subst (IsDistinct eqb) (sym whole) own

    cur_own : HasDistinctIds (op h cur)
    cur_own = (halves (h.id ∷ regions_ids cur) more own_ids).left

    cur_within : Within (op h cur) (op h rs)
    cur_within y z = ap (list_any (λ w. eqb w y)) (sym whole) ∙ in_preceding (λ w. eqb w y) (h.id ∷ regions_ids cur) more z

  -- one more operation
  module _ (fs : List Region) (args : List ℕ) (os : Ops) (rest : Regions) (c : Op) (more : List ℕ) where
    abbrev cur : Regions
    cur = trailing fs (region (block args os) (emptied_regions rest))

    abbrev cur' : Regions
    cur' = trailing fs (region (block args (put_last c os)) (emptied_regions rest))

    cur_ids : regions_ids cur ≡ fs_ids fs ++ ops_ids os
    cur_ids = after_ids fs (region (block args os) (emptied_regions rest)) ∙ ap (λ z. fs_ids fs ++ (ops_ids os ++ z)) (emptied_ids rest) ∙ ap (λ z. fs_ids fs ++ z) (append-nil (ops_ids os))

    more_ids : regions_ids cur' ≡ regions_ids cur ++ ids c
    more_ids =
        after_ids fs (region (block args (put_last c os)) (emptied_regions rest)) ∙ ap (λ z. fs_ids fs ++ (ops_ids (put_last c os) ++ z)) (emptied_ids rest) ∙ ap (λ z. fs_ids fs ++ z) (append-nil (ops_ids (put_last c os)) ∙ last_ids c os)
        ∙ sym (append_assoc (fs_ids fs) (ops_ids os) (ids c)) ∙ ap (λ z. z ++ ids c) (sym cur_ids)

    module _ (e : Preceding cur (ids c ++ more)) where
      preceding' : Preceding cur' more
      preceding' = ap (λ z. z ++ more) more_ids ∙ append_assoc (regions_ids cur) (ids c) more ∙ e

      root_once : Absent h.id (regions_ids cur)
      root_once = absent_first h.id (regions_ids cur) (cur_own cur (ids c ++ more) e)

      in_whole : (y : ℕ) → has_id y c ≡ true → has_id y (op h rs) ≡ true
      in_whole y z = ap (list_any (λ w. eqb w y)) (sym (whole cur (ids c ++ more) e)) ∙ in_back (λ w. eqb w y) (h.id ∷ regions_ids cur) (ids c ++ more) (in_preceding (λ w. eqb w y) (ids c) more z)

      parts : (h.id ∷ regions_ids cur) ++ (ids c ++ more) ≡ ((h.id ∷ regions_ids cur) ++ ids c) ++ more
      parts = sym (append_assoc (h.id ∷ regions_ids cur) (ids c) more)

      inner_may : MayPut (end_of h.id (length fs)) c (op h cur)
      inner_may = record {
        distinct = cur_own cur (ids c ++ more) e;
        own = (halves (ids c) more (halves (h.id ∷ regions_ids cur) (ids c ++ more) (own_ids cur (ids c ++ more) e)).right).left;
        apart = λ y z. ⊎_elim
            (λ p. absurd (false≢true (sym ((halves (h.id ∷ regions_ids cur) (ids c ++ more) (own_ids cur (ids c ++ more) e)).disjoint y p) ∙ in_preceding (λ w. eqb w y) (ids c) more z)))
            (λ n. n)
            (cases_Bool (has_id y (op h cur)));
        point = ap (λ b. is_in_list None (option_and_then (λ o. option_and_then ops_in (region_at (length fs) (regions o))) (if b then Some (op h cur) else find_rest))) (eq-eqb h.id h.id refl)
            ∙ ap (λ z. is_in_list None (option_and_then ops_in z)) (after_at fs (block args os) (emptied_regions rest));
      }
        where
          find_rest : Option Op
          find_rest = regions_find h.id cur

      step_may : MayPut (end_of h.id (length fs)) c (so_far cur)
      step_may = mays (length fs) c cur (cur_own cur (ids c ++ more) e) (cur_within cur (ids c ++ more) e) inner_may in_whole

      step_put : put (end_of h.id (length fs)) c (so_far cur) ≡ so_far cur'
      step_put = along (length fs) c cur ∙ ap stand (put_at_end h cur (length fs) c root_once ∙ ap (op h) (after_last fs args os (emptied_regions rest) c))

  -- the operations of a block
  ops_all : (fs : List Region) (args : List ℕ) (os ps : Ops) (rest : Regions) (more : List ℕ) → Preceding (trailing fs (region (block args os) (emptied_regions rest))) (ops_ids ps ++ more)
      → MayOps h.id (length fs) ps (so_far (trailing fs (region (block args os) (emptied_regions rest))))
      × ((put_ops h.id (length fs) ps (so_far (trailing fs (region (block args os) (emptied_regions rest)))) ≡ so_far (trailing fs (region (block args (ops_after os ps)) (emptied_regions rest))))
      × Preceding (trailing fs (region (block args (ops_after os ps)) (emptied_regions rest))) more)
  ops_all fs args os no_ops rest more e =
      (tt, (ap (λ z. so_far (trailing fs (region (block args z) (emptied_regions rest)))) (sym (after_none os)), subst (λ z. Preceding (trailing fs (region (block args z) (emptied_regions rest))) more) (sym (after_none os)) e))
  ops_all fs args os (next c ps) rest more e =
      let f : Preceding (trailing fs (region (block args os) (emptied_regions rest))) (ids c ++ (ops_ids ps ++ more)) = ap (λ z. regions_ids (trailing fs (region (block args os) (emptied_regions rest))) ++ z) (sym (append_assoc (ids c) (ops_ids ps) more)) ∙ e in
      let p = step_put fs args os rest c (ops_ids ps ++ more) f in
      let r = ops_all fs args (put_last c os) ps rest more (preceding' fs args os rest c (ops_ids ps ++ more) f) in (
        (step_may fs args os rest c (ops_ids ps ++ more) f, subst (MayOps h.id (length fs) ps) (sym p) r.0),
        (
          ap (put_ops h.id (length fs) ps) p ∙ r.1.0 ∙ ap (λ z. so_far (trailing fs (region (block args z) (emptied_regions rest)))) (after_ops os c ps),
          subst (λ z. Preceding (trailing fs (region (block args z) (emptied_regions rest))) more) (after_ops os c ps) r.1.1,
        ),
      )

  -- the regions
  regions_all : (fs : List Region) (gs : Regions) → Preceding (trailing fs (emptied_regions gs)) (regions_ids gs)
      → MayRegions h.id (length fs) gs (so_far (trailing fs (emptied_regions gs))) × (put_regions h.id (length fs) gs (so_far (trailing fs (emptied_regions gs))) ≡ so_far (trailing fs gs))
  regions_all fs no_regions e = (tt, refl)
  regions_all fs (region empty gs) e =
      let m = after_more fs empty (emptied_regions gs) in
      let r = regions_all (fs ++ empty ∷ []) gs (subst (λ z. Preceding z (regions_ids gs)) (sym m) e) in (
        (tt, next_may fs empty gs (so_far (trailing fs (emptied_regions (region empty gs)))) (subst (λ z. MayRegions h.id (length (fs ++ empty ∷ [])) gs (so_far z)) m r.0)),
        next_put fs empty gs (so_far (trailing fs (emptied_regions (region empty gs)))) ∙ ap (λ z. put_regions h.id (length (fs ++ empty ∷ [])) gs (so_far z)) (sym m) ∙ r.1 ∙ ap so_far (after_more fs empty gs),
      )
    where
      next_may : (fs : List Region) (g : Region) (gs : Regions) (t : Op) → MayRegions h.id (length (fs ++ g ∷ [])) gs t → MayRegions h.id (length fs + 1) gs t
      next_may fs g gs t m = subst (λ n. MayRegions h.id n gs t) (sym (length_more fs g)) m

      next_put : (fs : List Region) (g : Region) (gs : Regions) (t : Op) → put_regions h.id (length fs + 1) gs t ≡ put_regions h.id (length (fs ++ g ∷ [])) gs t
      next_put fs g gs t = ap (λ n. put_regions h.id n gs t) (length_more fs g)
  regions_all fs (region (block args os) gs) e =
      let a = ops_all fs args no_ops os gs (regions_ids gs) e in
      let g = block args os in
      let m = after_more fs g (emptied_regions gs) in
      let r = regions_all (fs ++ g ∷ []) gs (subst (λ z. Preceding z (regions_ids gs)) (sym m) a.1.1) in (
        (a.0, subst (λ z. MayRegions h.id (length fs + 1) gs z) (sym a.1.0) (subst (λ n. MayRegions h.id n gs (so_far (trailing fs (region g (emptied_regions gs))))) (sym (length_more fs g)) (subst (λ z. MayRegions h.id (length (fs ++ g ∷ [])) gs (so_far z)) m r.0))),
        ap (put_regions h.id (length fs + 1) gs) a.1.0 ∙ ap (λ n. put_regions h.id n gs (so_far (trailing fs (region g (emptied_regions gs))))) (length_more fs g)
            ∙ ap (λ z. put_regions h.id (length (fs ++ g ∷ [])) gs (so_far z)) (sym m) ∙ r.1 ∙ ap so_far (after_more fs g gs),
      )

  start : Preceding (emptied_regions rs) (regions_ids rs)
  start = ap (λ z. z ++ regions_ids rs) (emptied_ids rs)

  all_in : MayRegions h.id 0 rs (so_far (emptied_regions rs)) × (put_regions h.id 0 rs (so_far (emptied_regions rs)) ≡ so_far rs)
  all_in = regions_all [] rs start

  emptied_own : HasDistinctIds (op h (emptied_regions rs))
  emptied_own = cur_own (emptied_regions rs) (regions_ids rs) start

  emptied_within : Within (op h (emptied_regions rs)) (op h rs)
  emptied_within = cur_within (emptied_regions rs) (regions_ids rs) start

module _ (place : Place) (h : Head) (rs : Regions) (t : Op) (may : MayPut place (op h rs) t) where
  root_out : has_id h.id t ≡ false
  root_out = may.apart h.id (ap (λ b. b || list_any (λ y. eqb y h.id) (regions_ids rs)) (eq-eqb h.id h.id refl))

  part_may : (cur : Regions) → HasDistinctIds (op h cur) → Within (op h cur) (op h rs) → MayPut place (op h cur) t
  part_may cur d w = record { distinct = may.distinct; own = d; apart = λ y z. may.apart y (w y z); point = may.point }

  put_all : MayRegions h.id 0 rs (put place (op h (emptied_regions rs)) t) × (put_regions h.id 0 rs (put place (op h (emptied_regions rs)) t) ≡ put place (op h rs) t)
  put_all = all_in h rs may.own (λ o. put place o t) (λ n c cur. put_along place (end_of h.id n) (op h cur) c t root_out)
      (λ n c cur d w inner v. may_along place (end_of h.id n) (op h cur) c t (part_may cur d w) inner (λ y z. may.apart y (v y z)))

  put_emptied : MayPut place (op h (emptied_regions rs)) t
  put_emptied = part_may (emptied_regions rs)
      (emptied_own h rs may.own (λ o. put place o t) (λ n c cur. put_along place (end_of h.id n) (op h cur) c t root_out) (λ n c cur d w inner v. may_along place (end_of h.id n) (op h cur) c t (part_may cur d w) inner (λ y z. may.apart y (v y z))))
      (emptied_within h rs may.own (λ o. put place o t) (λ n c cur. put_along place (end_of h.id n) (op h cur) c t root_out) (λ n c cur d w inner v. may_along place (end_of h.id n) (op h cur) c t (part_may cur d w) inner (λ y z. may.apart y (v y z))))

-- if an operation may be inserted, it may also be inserted with empty blocks that are filled later
pub may_emptied : (place : Place) (o t : Op) → MayPut place o t → MayPut place (emptied o) t
may_emptied place (op h rs) t m = put_emptied place h rs t m

pub may_inside : (place : Place) (o t : Op) → MayPut place o t → MayRegions (head o).id 0 (regions o) (put place (emptied o) t)
may_inside place (op h rs) t m = (put_all place h rs t m).0

pub put_inside : (place : Place) (o t : Op) → MayPut place o t → put_regions (head o).id 0 (regions o) (put place (emptied o) t) ≡ put place o t
put_inside place (op h rs) t m = (put_all place h rs t m).1

-- the same for a whole tree
pub whole_inside : (o : Op) → HasDistinctIds o → MayRegions (head o).id 0 (regions o) (emptied o) × (put_regions (head o).id 0 (regions o) (emptied o) ≡ o)
whole_inside (op h rs) d = all_in h rs d (λ o. o) (λ n c cur. refl) (λ n c cur e w inner v. inner)
