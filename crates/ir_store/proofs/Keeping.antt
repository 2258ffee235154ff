-- Whether values of an operation, or of those inside it, are used outside, in slots and in the tree.
use Rattle.std.proofs.Common.{◌≡◌, ℕ, zero, suc, ◌+◌, ◌<◌, ◌≤◌, max, List, [], ◌∷◌, refl, sym, ap, ◌∙◌, subst, length, Bool, true, false, true≢false, eqb, eq-eqb, eqb-true, not, ◌&&◌, ⊎_elim, Option, Some, None, arith, inl, inr, slice_get}
use Rattle.std.specs.Prelude.{if◌then◌else◌, is_some, option_and_then, nat_lt}
use Rattle.std.specs.List.{list_all, list_any}
use Rattle.std.proofs.lemmas.Bool.{and_cases, or_cases, or_left, or_right, ltb-true, not-false, not-true}
use Rattle.std.proofs.lemmas.Bool.Decides.{nat_tests}
use Rattle.std.proofs.lemmas.List.Folds.{list_all-append}
use Rattle.ir_store_reads.specs.Lists.{Laws, has, list_at, home_at}
use Rattle.ir_store_reads.specs.trees.declared.value.Value.{Value}
use Rattle.ir_store_reads.specs.trees.declared.value.Value.TheVariants.{Result as ResultOf, Arg}
use Rattle.ir_store_reads.specs.trees.Tree.{Op, op, Regions, no_regions, region, empty, block, Ops, no_ops, next, head}
use Rattle.ir_store_reads.specs.trees.Frames.{owner_of}
use Rattle.ir_store_reads.specs.trees.Ids.{ids, regions_ids, ops_ids, find, has_id}
use Rattle.ir_store_reads.specs.trees.Limits.{depth, regions_depth, ops_depth}
use Rattle.ir_store_reads.specs.trees.Places.{without}
use Rattle.ir_store_reads.specs.tree_laws.Members.{In}
use Rattle.ir_store_reads.specs.tree_laws.Reads.{is_within}
use Rattle.ir_store_reads.specs.tree_laws.Reasons.{leaves_within, unused_outside}
use Rattle.ir_store_reads.specs.tree_laws.Stands.{OpWithPathOf, op_with_path_id, stands, is_gone}
use Rattle.ir_store_reads.proofs.of_tree_laws.Listed.{any_one, bool_cases, both, each_all}
use Rattle.ir_store_reads.proofs.of_tree_laws.Members.{stand_found}
use Rattle.ir_store_reads.proofs.of_tree_laws.Around.{stand_present}
use Rattle.ir_store.specs.declared.store.Store.TheInside.{Inside}
use Rattle.ir_store_reads.specs.Stored.{Stored}
use Rattle.ir_store_reads.specs.Rows.{Row, RegionShape, row_at, live_slot}
use Rattle.ir_store_reads.specs.Right.{Live}
use Rattle.ir_store_reads.specs.Index.{operand_at, use_at, cell_at, cells_of, argument_head, slot_head, value_head}
use Rattle.ir_store_reads.specs.Spells.{SpellsOp, SpellsRegions, SpellsOps}
use Rattle.ir_store_reads.specs.Using.{use_in}
use Rattle.ir_store.specs.Outside.{leaves_use, lists_pass, shapes_keep, slot_keeps}
use Rattle.ir_store_reads.proofs.Idle.{is_below}
use Rattle.ir_store_reads.proofs.SlotLaws.{found, found_op, in_tree_is, slot_of_live}
use Rattle.ir_store.proofs.Called.{rows_in, keys_in, stored}
use Rattle.ir_store.proofs.Leaving.{depth_within, each_outside, kept_stays, none_outside, stays_kept}
use Rattle.ir_store.proofs.Unused.{listed_item}
use Rattle.ir_store.proofs.Whole.{Whole}
use Rattle.ir_store_reads.proofs.of_trees.of_types.Truths.{all_at, if_some, same_bool, split_below}
use Rattle.ir_store_reads.proofs.of_trees.of_types.WordNumbers.{all_at as all_get}
use Rattle.ir_store_reads.proofs.of_trees.Counts.{and_assoc}
use Rattle.std.proofs.lemmas.Option.{same_Some}

shuffle : (a l b r : Bool) → (a && (l && (b && r))) ≡ ((a && b) && (l && r))
shuffle true true b r = refl
shuffle true false true r = refl
shuffle true false false r = refl
shuffle false l b r = refl

-- the walk tests the slot of each id
module _ (slots : List Row) (lists : List (List ℕ)) (f : ℕ → ℕ → Bool) (keys : ℕ → Option ℕ) (keyed : (k : ℕ) → Live slots k → keys (row_at slots k).head.id ≡ Some k) where
  abbrev pub args_all : List RegionShape → Bool
  args_all [] = true
  args_all (None ∷ xs) = args_all xs
  args_all (Some a ∷ xs) = f (row_at slots a.1).values (length a.0) && args_all xs

  abbrev pub row_test : Option ℕ → Bool
  row_test None = true
  row_test (Some q) = f (row_at slots q).values (length (row_at slots q).head.results) && args_all (row_at slots q).shapes

  abbrev pub test : ℕ → Bool
  test y = row_test (keys y)

  mutual
    pub keeps_is : (n k : ℕ) (o : Op) → depth o < n → SpellsOp slots lists k o → slot_keeps slots lists f n k ≡ list_all test (ids o)
    keeps_is zero k o l s = absurd (omega (arith, l))
    keeps_is (suc n) k (op h rs) l s =
        (λ i. s.0 i && (f (row_at slots k).values (length (row_at slots k).head.results) && regions_keep n (row_at slots k).shapes rs (omega (arith, l)) s.1.1 i))
        ∙ and_assoc (f (row_at slots k).values (length (row_at slots k).head.results)) (args_all (row_at slots k).shapes) (list_all test (regions_ids rs))
        ∙ ap (λ o. row_test o && list_all test (regions_ids rs)) (sym (ap keys (ap (λ z. z.id) (sym s.1.0)) ∙ keyed k (record { live = s.0 })))

    regions_keep : (n : ℕ) (xs : List RegionShape) (rs : Regions) → regions_depth rs ≤ n → SpellsRegions slots lists xs rs → shapes_keep slots lists f (slot_keeps slots lists f n) xs ≡ (args_all xs && list_all test (regions_ids rs))
    regions_keep n [] no_regions l s = refl
    regions_keep n [] (region g rs) l s = absurd s
    regions_keep n (a ∷ xs) no_regions l s = absurd s
    regions_keep n (None ∷ xs) (region empty rs) l s = regions_keep n xs rs (omega (arith, l)) s.1
    regions_keep n (None ∷ xs) (region (block args os) rs) l s = absurd s.0
    regions_keep n (Some a ∷ xs) (region empty rs) l s = absurd s.0
    regions_keep n (Some a ∷ xs) (region (block args os) rs) l s =
        let own = f (row_at slots a.1).values (length a.0) in
        (λ i. own && (ops_keep n (list_at lists a.1) os (omega (arith, l)) s.0.1 i && regions_keep n xs rs (omega (arith, l)) s.1 i))
        ∙ shuffle own (list_all test (ops_ids os)) (args_all xs) (list_all test (regions_ids rs))
        ∙ ap (λ b. (own && args_all xs) && b) (sym (list_all-append test (ops_ids os) (regions_ids rs)))

    ops_keep : (n : ℕ) (ks : List ℕ) (os : Ops) → ops_depth os ≤ n → SpellsOps slots lists ks os → list_all (slot_keeps slots lists f n) ks ≡ list_all test (ops_ids os)
    ops_keep n [] no_ops l s = refl
    ops_keep n [] (next o os) l s = absurd s
    ops_keep n (k ∷ ks) no_ops l s = absurd s
    ops_keep n (k ∷ ks) (next o os) l s =
        let w = split_below (depth o) (ops_depth os) n l in
        (λ i. keeps_is n k o w.0 s.0 i && ops_keep n ks os w.1 s.1 i) ∙ sym (list_all-append test (ids o) (ops_ids os))

-- a node of a list passes if the list does; if the list doesn't, some node doesn't
pub all_has : (p : ℕ → Bool) (u : ℕ) (ks : List ℕ) → list_all p ks ≡ true → has u ks ≡ true → p u ≡ true
all_has p u [] e h = absurd (true≢false (sym h))
all_has p u (k ∷ ks) e h =
    let b = both (p k) (list_all p ks) e in
    ⊎_elim (λ s. ap p (sym (eqb-true k u s)) ∙ b.0) (λ m. all_has p u ks b.1 m) (or_cases (eqb k u) (has u ks) h)

pub failing : (p : ℕ → Bool) (ks : List ℕ) → list_all p ks ≡ false → (u : ℕ) × (has u ks ≡ true) × (p u ≡ false)
failing p [] e = absurd (true≢false e)
failing p (k ∷ ks) e = ⊎_elim
    (λ f. (k, or_left (eqb k k) (has k ks) (eq-eqb k k refl), f))
    (λ f. let w = failing p ks f in (w.0, or_right (eqb k w.0) (has w.0 ks) w.1, w.2))
    (and_cases (p k) (list_all p ks) e)

all_any : (p : ℕ → Bool) (y : ℕ) (xs : List ℕ) → list_all p xs ≡ true → list_any (λ z. eqb z y) xs ≡ true → p y ≡ true
all_any p y [] e h = absurd (true≢false (sym h))
all_any p y (x ∷ xs) e h =
    let b = both (p x) (list_all p xs) e in
    ⊎_elim (λ s. ap p (sym (eqb-true x y s)) ∙ b.0) (λ m. all_any p y xs b.1 m) (or_cases (eqb x y) (list_any (λ z. eqb z y) xs) h)

-- the values of a slot, by their heads
module _ (slots : List Row) (sibs lists : List (List ℕ)) (p : ℕ → Bool) (keys : ℕ → Option ℕ) (keyed : (k : ℕ) → Live slots k → keys (row_at slots k).head.id ≡ Some k) where
  abbrev pub args_pass : List RegionShape → Bool
  args_pass = args_all slots sibs (lists_pass lists p) keys keyed

  abbrev pub row_passes : Option ℕ → Bool
  row_passes = row_test slots sibs (lists_pass lists p) keys keyed

  pass_at : (b n i : ℕ) → lists_pass lists p b n ≡ true → i < n → list_all p (list_at lists (b + i)) ≡ true
  pass_at b zero i e l = absurd (omega (arith, l))
  pass_at b (suc n) zero e l = ap (λ z. list_all p (list_at lists z)) (omega arith) ∙ (both (list_all p (list_at lists b)) (lists_pass lists p (b + 1) n) e).0
  pass_at b (suc n) (suc i) e l = ap (λ z. list_all p (list_at lists z)) (omega arith) ∙ pass_at (b + 1) n i (both (list_all p (list_at lists b)) (lists_pass lists p (b + 1) n) e).1 (omega (arith, l))

  fail_at : (b n : ℕ) → lists_pass lists p b n ≡ false → (i : ℕ) × (i < n) × (list_all p (list_at lists (b + i)) ≡ false)
  fail_at b zero e = absurd (true≢false e)
  fail_at b (suc n) e = ⊎_elim
      (λ f. (0, omega arith, ap (λ z. list_all p (list_at lists z)) (omega arith) ∙ f))
      (λ f. let r = fail_at (b + 1) n f in (suc r.0, omega (arith, r.1), ap (λ z. list_all p (list_at lists z)) (omega arith) ∙ r.2))
      (and_cases (list_all p (list_at lists b)) (lists_pass lists p (b + 1) n) e)

  args_at : (xs : List RegionShape) (r : ℕ) (a : List ℕ × ℕ) → args_pass xs ≡ true → slice_get xs r ≡ Some (Some a) → lists_pass lists p (row_at slots a.1).values (length a.0) ≡ true
  args_at [] r a e f = absurd cc
  args_at (None ∷ xs) zero a e f = absurd cc
  args_at (None ∷ xs) (suc r) a e f = args_at xs r a e f
  args_at (Some c ∷ xs) zero a e f =
      let same : c ≡ a = cc in
      subst (λ z. lists_pass lists p (row_at slots z.1).values (length z.0) ≡ true) same (both (lists_pass lists p (row_at slots c.1).values (length c.0)) (args_pass xs) e).0
  args_at (Some c ∷ xs) (suc r) a e f = args_at xs r a (both (lists_pass lists p (row_at slots c.1).values (length c.0)) (args_pass xs) e).1 f

  abbrev FailingArg : List RegionShape → Type 0
  FailingArg xs = (r : ℕ) × (a : List ℕ × ℕ) × (slice_get xs r ≡ Some (Some a)) × (lists_pass lists p (row_at slots a.1).values (length a.0) ≡ false)

  fail_arg : (xs : List RegionShape) → args_pass xs ≡ false → FailingArg xs
  fail_arg [] e = absurd (true≢false e)
  fail_arg (None ∷ xs) e = let w = fail_arg xs e in (suc w.0, w.1, w.2, w.3)
  fail_arg (Some c ∷ xs) e = ⊎_elim
      (λ f. (0, c, refl, f))
      (λ f. let w = fail_arg xs f in (suc w.0, w.1, w.2, w.3))
      (and_cases (lists_pass lists p (row_at slots c.1).values (length c.0)) (args_pass xs) e)

  -- if a slot passes, the use list of each of its values passes
  pub value_passes : (k : ℕ) → row_passes (Some k) ≡ true → (v : Value) (h : ℕ) → slot_head slots v k ≡ Some h → list_all p (list_at lists h) ≡ true
  value_passes k e (ResultOf x i) h f =
      let b = both (lists_pass lists p (row_at slots k).values (length (row_at slots k).head.results)) (args_pass (row_at slots k).shapes) e in
      let g = if_some (nat_lt i (length (row_at slots k).head.results)) ((row_at slots k).values + i) h f in
      subst (λ z. list_all p (list_at lists z) ≡ true) g.1 (pass_at (row_at slots k).values (length (row_at slots k).head.results) i b.0 (ltb-true i (length (row_at slots k).head.results) g.0))
  value_passes k e (Arg x r i) h f = go (slice_get (row_at slots k).shapes r) refl f
    where
      go : (o : Option RegionShape) → slice_get (row_at slots k).shapes r ≡ o → option_and_then (argument_head slots i) o ≡ Some h → list_all p (list_at lists h) ≡ true
      go None m f = absurd cc
      go (Some None) m f = absurd cc
      go (Some (Some a)) m f =
          let b = both (lists_pass lists p (row_at slots k).values (length (row_at slots k).head.results)) (args_pass (row_at slots k).shapes) e in
          let g = if_some (nat_lt i (length a.0)) ((row_at slots a.1).values + i) h f in
          subst (λ z. list_all p (list_at lists z) ≡ true) g.1 (pass_at (row_at slots a.1).values (length a.0) i (args_at (row_at slots k).shapes r a b.1 m) (ltb-true i (length a.0) g.0))

  -- if a slot doesn't pass, some value of it has a use list that doesn't
  pub record Failing (k x : ℕ) : Type 0 where
    pub value : Value
    pub head_at : ℕ
    pub own : (owner_of value).0 ≡ x
    pub here : slot_head slots value k ≡ Some head_at
    pub fails : list_all p (list_at lists head_at) ≡ false

  pub failing_value : (k x : ℕ) → row_passes (Some k) ≡ false → Failing k x
  failing_value k x e = ⊎_elim
      (λ f.
      let w = fail_at (row_at slots k).values (length (row_at slots k).head.results) f in
      record {
        value = ResultOf x w.0;
        head_at = (row_at slots k).values + w.0;
        own = refl;
        here = ap (λ c. if c then Some ((row_at slots k).values + w.0) else None) (is_below w.0 (length (row_at slots k).head.results) w.1);
        fails = w.2;
      })
      (λ f.
      let y = fail_arg (row_at slots k).shapes f in
      let w = fail_at (row_at slots y.1.1).values (length y.1.0) y.3 in
      record {
        value = Arg x y.0 w.0;
        head_at = (row_at slots y.1.1).values + w.0;
        own = refl;
        here = ap (option_and_then (argument_head slots w.0)) y.2 ∙ ap (λ c. if c then Some ((row_at slots y.1.1).values + w.0) else None) (is_below w.0 (length y.1.0) w.1);
        fails = w.2;
      })
      (and_cases (lists_pass lists p (row_at slots k).values (length (row_at slots k).head.results)) (args_pass (row_at slots k).shapes) e)

module _ (a : Inside) (w : Whole a) (laws : Laws a.uses.lists a.uses.homes) (x k : ℕ) (ek : Some k ≡ live_slot (rows_in a) (keys_in a) x) where
  abbrev slots : List Row
  slots = rows_in a

  abbrev cells : List (ℕ × ℕ)
  cells = cells_of a.cells.items

  abbrev t : Op
  t = a.represented.0

  keyed_by : (q : ℕ) → Live (rows_in a) q → keys_in a (row_at (rows_in a) q).head.id ≡ Some q
  keyed_by q l = w.right.keyed q (w.right.live_used q l)

  own : (o : Op) × ((find x a.represented.0 ≡ Some o) × SpellsOp (rows_in a) a.sibs.lists k o)
  own = found_op (rows_in a) (keys_in a) a.sibs a.root t w.right a.represented.1 x k (found (rows_in a) (keys_in a) a.sibs a.root t w.right a.represented.1 x k (sym ek))

  abbrev p : ℕ → Bool
  p u = not (leaves_use (rows_in a) (cells_of a.cells.items) x a.represented.0 u)

  abbrev tested : ℕ → Bool
  tested = test (rows_in a) a.sibs.lists (lists_pass a.uses.lists p) (keys_in a) keyed_by

  spelt_head : (q : ℕ) (o : Op) → SpellsOp (rows_in a) a.sibs.lists q o → (row_at (rows_in a) q).head ≡ head o
  spelt_head q (op h rs) s = s.1.0

  -- the slot of an operation of the tree
  head_of : (s : OpWithPathOf ℕ ℕ ℕ) → In s (stands [] a.represented.0) → (q : ℕ) → Live (rows_in a) q → (row_at (rows_in a) q).head.id ≡ op_with_path_id s → (row_at (rows_in a) q).head ≡ head s.here
  head_of s h q l e =
      let f = found_op (rows_in a) (keys_in a) a.sibs a.root t w.right a.represented.1 (op_with_path_id s) q (found (rows_in a) (keys_in a) a.sibs a.root t w.right a.represented.1 (op_with_path_id s) q (slot_of_live (rows_in a) (keys_in a) a.sibs a.root t w.right a.represented.1 (op_with_path_id s) q l e)) in
      let one : f.0 ≡ s.here = same_Some f.0 s.here (sym f.1.0 ∙ stand_found t w.distinct s h) in
      spelt_head q f.0 f.1.1 ∙ ap (λ (z : Op). head z) one

  slot_of : (s : OpWithPathOf ℕ ℕ ℕ) → In s (stands [] a.represented.0) → (q : ℕ) × Live (rows_in a) q × ((row_at (rows_in a) q).head.id ≡ op_with_path_id s)
  slot_of s h = go (live_slot (rows_in a) (keys_in a) (op_with_path_id s)) refl
    where
      go : (o : Option ℕ) → live_slot (rows_in a) (keys_in a) (op_with_path_id s) ≡ o → (q : ℕ) × Live (rows_in a) q × ((row_at (rows_in a) q).head.id ≡ op_with_path_id s)
      go None e = absurd (true≢false (sym (sym (ap is_some e) ∙ in_tree_is (rows_in a) (keys_in a) a.sibs a.root t w.right a.represented.1 (op_with_path_id s) ∙ stand_present [] t s h)))
      go (Some q) e = let f = found (rows_in a) (keys_in a) a.sibs a.root t w.right a.represented.1 (op_with_path_id s) q e in (q, f.live, f.id)

  -- if the walk passes, no remaining operation uses a value defined inside the operation
  spared : list_all tested (ids own.0) ≡ true → (s : OpWithPathOf ℕ ℕ ℕ) → In s (stands [] a.represented.0) → is_gone x s ≡ false → (j : ℕ) (v : Value) → slice_get (head s.here).operands j ≡ Some v → is_within (owner_of v).0 (Some own.0) ≡ true → ⊥
  spared e s h g j v m i =
      let q = slot_of s h in
      let heads = head_of s h q.0 q.1 q.2 in
      let used = w.right.live_used q.0 q.1 in
      let at : operand_at (rows_in a) q.0 j ≡ Some v = ap (λ z. slice_get z.operands j) heads ∙ m in
      let link = w.index.linked q.0 j v used at q.1.live in
      let u = use_at (rows_in a) q.0 j in
      let cell : cell_at cells u ≡ (q.0, j) = (w.index.cell q.0 j v used at).cell in
      let user : (use_in (rows_in a) cells u).0 ≡ op_with_path_id s = ap (λ (z : ℕ × ℕ). (row_at (rows_in a) z.0).head.id) cell ∙ q.2 in
      let passes = all_any tested (owner_of v).0 (ids own.0) e i in
      let all = go v (home_at a.uses.homes u) (keys_in a (owner_of v).0) passes link.home in
      let one : leaves_use (rows_in a) cells x t u ≡ false = not-true (leaves_use (rows_in a) cells x t u) (all_has p u (list_at a.uses.lists (home_at a.uses.homes u)) all (laws.covers u link.item)) in
      true≢false (sym (ap (λ y. has_id y (without x t)) user ∙ kept_stays t w.distinct x s h g) ∙ one)
    where
      go : (v : Value) (n : ℕ) (o : Option ℕ) → row_test (rows_in a) a.sibs.lists (lists_pass a.uses.lists p) (keys_in a) keyed_by o ≡ true → option_and_then (slot_head (rows_in a) v) o ≡ Some n → list_all p (list_at a.uses.lists n) ≡ true
      go v n None f l = absurd cc
      go v n (Some q) f l = value_passes (rows_in a) a.sibs.lists a.uses.lists p (keys_in a) keyed_by q f v n l

  unused_where : list_all tested (ids own.0) ≡ true → unused_outside x a.represented.0 ≡ true
  unused_where e = none_outside t w.distinct x (λ s h g. ap (λ f. leaves_within f (head s.here)) own.1.0 ∙ all_at (λ v. not (is_within (owner_of v).0 (Some own.0))) (head s.here).operands (λ j v m. one s h g j v m (is_within (owner_of v).0 (Some own.0)) refl))
    where
      one : (s : OpWithPathOf ℕ ℕ ℕ) → In s (stands [] a.represented.0) → is_gone x s ≡ false → (j : ℕ) (v : Value) → slice_get (head s.here).operands j ≡ Some v → (b : Bool) → is_within (owner_of v).0 (Some own.0) ≡ b → not (is_within (owner_of v).0 (Some own.0)) ≡ true
      one s h g j v m true i = absurd (spared e s h g j v m i)
      one s h g j v m false i = ap not i

  -- if a slot doesn't pass, a remaining operation uses a value of it
  used_where : unused_outside x a.represented.0 ≡ true → (y q : ℕ) → keys_in a y ≡ Some q → is_within y (Some own.0) ≡ true → row_passes (rows_in a) a.sibs.lists a.uses.lists p (keys_in a) keyed_by (Some q) ≡ false → ⊥
  used_where e y q eq i n =
      let b = failing_value (rows_in a) a.sibs.lists a.uses.lists p (keys_in a) keyed_by q y n in
      let hd : value_head (rows_in a) (keys_in a) b.value ≡ Some b.head_at = ap (option_and_then (slot_head (rows_in a) b.value)) (ap (keys_in a) b.own ∙ eq) ∙ b.here in
      let u = failing p (list_at a.uses.lists b.head_at) b.fails in
      let st = w.index.users u.0 (listed_item a.uses laws b.head_at u.0 (w.index.heads b.value b.head_at hd) u.1) in
      let link = w.index.linked st.row st.place st.value st.use_of.used st.use_of.operand st.put in
      let home : home_at a.uses.homes (use_at (rows_in a) st.row st.place) ≡ b.head_at = ap (home_at a.uses.homes) st.use_of.node ∙ (laws.members b.head_at u.0 u.1).0 in
      let same : st.value ≡ b.value = w.index.one st.value b.value b.head_at (link.home ∙ ap Some home) hd in
      let live : Live (rows_in a) st.row = record { live = st.put } in
      let cell : cell_at cells u.0 ≡ (st.row, st.place) = ap (cell_at cells) (sym st.use_of.node) ∙ (w.index.cell st.row st.place st.value st.use_of.used st.use_of.operand).cell in
      let user : (use_in (rows_in a) cells u.0).0 ≡ (row_at (rows_in a) st.row).head.id = ap (λ (z : ℕ × ℕ). (row_at (rows_in a) z.0).head.id) cell in
      let s = stays_kept t w.distinct x (use_in (rows_in a) cells u.0).0 (not-false (leaves_use (rows_in a) cells x t u.0) u.2) in
      let heads = head_of s.0 s.1 st.row live (sym user ∙ sym s.3) in
      let kept = each_outside t w.distinct x e s.0 s.1 s.2 in
      let spares : not (is_within (owner_of st.value).0 (find x t)) ≡ true = all_get (λ v. not (is_within (owner_of v).0 (find x t))) (head s.0.here).operands st.place st.value kept (ap (λ z. slice_get z.operands st.place) (sym heads) ∙ st.use_of.operand) in
      let within : is_within (owner_of st.value).0 (find x t) ≡ true = ap (λ d. is_within (owner_of d).0 (find x t)) same ∙ ap (λ z. is_within z (find x t)) b.own ∙ ap (is_within y) own.1.0 ∙ i in
      true≢false (sym within ∙ not-true (is_within (owner_of st.value).0 (find x t)) spares)

  all_where : unused_outside x a.represented.0 ≡ true → list_all tested (ids own.0) ≡ true
  all_where e = each_all tested (ids own.0) (λ y i. go y (keys_in a y) refl (any_one (λ z. eqb z y) (ids own.0) y i (eq-eqb y y refl)))
    where
      go : (y : ℕ) (o : Option ℕ) → keys_in a y ≡ o → is_within y (Some own.0) ≡ true → row_test (rows_in a) a.sibs.lists (lists_pass a.uses.lists p) (keys_in a) keyed_by (keys_in a y) ≡ true
      go y None eo i = ap (row_test (rows_in a) a.sibs.lists (lists_pass a.uses.lists p) (keys_in a) keyed_by) eo
      go y (Some q) eo i = ap (row_test (rows_in a) a.sibs.lists (lists_pass a.uses.lists p) (keys_in a) keyed_by) eo ∙ elim (bool_cases (row_passes (rows_in a) a.sibs.lists a.uses.lists p (keys_in a) keyed_by (Some q))) [
        | inl f ↦ f
        | inr n ↦ absurd (used_where e y q eo i n)
      ]

  keeps_tree : slot_keeps (rows_in a) a.sibs.lists (lists_pass a.uses.lists (λ u. not (leaves_use (rows_in a) (cells_of a.cells.items) x a.represented.0 u))) a.count k ≡ unused_outside x a.represented.0
  keeps_tree =
      keeps_is (rows_in a) a.sibs.lists (lists_pass a.uses.lists p) (keys_in a) keyed_by a.count k own.0 (subst (λ n. depth own.0 < n) (sym w.counted) (depth_within t w.distinct x own.0 own.1.0)) own.1.1
      ∙ same_bool (list_all tested (ids own.0)) (unused_outside x t) unused_where all_where

  -- the answer of the walk, as a property of the store
  pub keeps_whole : (s : Stored) → stored a ≡ s → slot_keeps (rows_in a) a.sibs.lists (lists_pass a.uses.lists (λ u. not (leaves_use (rows_in a) (cells_of a.cells.items) x s.module_of.tree u))) a.count k ≡ unused_outside x s.module_of.tree
  keeps_whole s e = subst (λ s. slot_keeps (rows_in a) a.sibs.lists (lists_pass a.uses.lists (λ u. not (leaves_use (rows_in a) (cells_of a.cells.items) x s.module_of.tree u))) a.count k ≡ unused_outside x s.module_of.tree) e keeps_tree
