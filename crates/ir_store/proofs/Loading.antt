-- Steps of loading a tree.
use Rattle.std.proofs.Common.{◌≡◌, ℕ, zero, suc, ◌+◌, ◌-◌, ◌<◌, ◌≤◌, List, [], ◌∷◌, ◌++◌, map, take, drop, get_or, refl, sym, ap, ◌∙◌, subst, length, Bool, true, false, eqb, cond, ◌||◌, ◌&&◌, ⊎_elim, arith, Some, None}
use Rattle.std.specs.Prelude.{is_some, if◌then◌else◌}
use Rattle.std.proofs.lemmas.List.{drop_more}
use Rattle.std.specs.List.{All, AllByRecursion, list_any, list_all}
use Rattle.std.specs.Ordering.{nat_cmp}
use Rattle.std.specs.Cmp.{nat_cmp_total}
use Rattle.std.specs.FinMap as finmap
use Rattle.std.proofs.lemmas.Bool.{cases_eq, eq-eqb, ne_eqb, cond-true, cond-false, false≢true, eqb-true, or_cases}
use Rattle.ir_store_reads.specs.trees.declared.tree.TreeRegion.{TreeRegion}
use Rattle.ir_store_reads.specs.trees.View.{region_view}
use Rattle.ir_store_reads.specs.trees.Tree.{Op, op, Regions, no_regions, region, Region, block, Ops, no_ops, next, head, regions, regions_of, ops_of, op_size, regions_size, region_size, ops_size}
use Rattle.ir_store_reads.specs.trees.Ids.{HasDistinctIds, ids, regions_ids, region_ids, ops_ids, has_id, first_of}
use Rattle.ir_store_reads.specs.trees.Places.{put}
use Rattle.ir_store_reads.specs.trees.declared.value.Value.{Value}
use Rattle.ir_store_reads.specs.trees.Sites.{in_scope, inside, regions_sites, dominated_by_operands, operands_visible}
use Rattle.std.proofs.lemmas.List.Elements.{recursion_from_All}
use Rattle.ir_store_reads.specs.tree_laws.Reasons.{with_id}
use Rattle.ir_store_reads.specs.tree_laws.Restores.{MayPut}
use Rattle.ir_store_reads.specs.tree_laws.Values.{has_value}
use Rattle.ir_store_reads.specs.Stored.{Stored, Gone, none_gone, known}
use Rattle.ir_store_reads.specs.Emptied.{seeded, emptied_regions, emptied, after_grow}
use Rattle.ir_store.specs.Calls.{Loaded, CanRestore, after_restore, put_held}
use Rattle.ir_store.specs.Loads.{end_of, put_ops, put_region, put_regions, MayOps, MayRegion, MayRegions, gone_with, Adds, AreBelow, RegionsLeft, OpsLeft}
use Rattle.ir_store_reads.proofs.Founds.{has_is, not_found}
use Rattle.ir_store_reads.proofs.Items.{eq_nat}
use Rattle.ir_store_reads.proofs.Grown.{take_all}
use Rattle.ir_store.proofs.Loaded.{may_inside, put_inside, whole_inside}
use Rattle.std.proofs.lemmas.List.Folds.{list_any-append}
use Rattle.std.proofs.lemmas.Option.{same_Some}

gone_same : (xs : List ℕ) (s u : Stored) → s.gone ≡ u.gone → (x : ℕ) → gone_with xs s x ≡ gone_with xs u x
gone_same xs s u e x = ap (λ z. if list_any (λ y. eqb y x) xs then Some none_gone else finmap.get z x) e

-- some operations are added, and then others
pub gone_then : (xs ys : List ℕ) (s u : Stored) → ((x : ℕ) → finmap.get u.gone x ≡ gone_with xs s x) → (x : ℕ) → gone_with ys u x ≡ gone_with (xs ++ ys) s x
gone_then xs ys s u e x =
    ap (λ z. if list_any (λ y. eqb y x) ys then Some none_gone else z) (e x) ∙ turn (list_any (λ y. eqb y x) xs) (list_any (λ y. eqb y x) ys)
    ∙ ap (λ b. if b then Some none_gone else finmap.get s.gone x) (sym (list_any-append (λ y. eqb y x) xs ys))
  where
    turn : (a b : Bool) → (if b then Some none_gone else (if a then Some none_gone else finmap.get s.gone x)) ≡ (if a || b then Some none_gone else finmap.get s.gone x)
    turn true true = refl
    turn true false = refl
    turn false true = refl
    turn false false = refl

below_left : (n : ℕ) (xs ys : List ℕ) → AreBelow n (xs ++ ys) → AreBelow n xs
below_left n xs ys b x e = b x (list_any-append (λ y. eqb y x) xs ys ∙ ap (λ c. c || list_any (λ y. eqb y x) ys) e)

below_right : (n : ℕ) (xs ys : List ℕ) → AreBelow n (xs ++ ys) → AreBelow n ys
below_right n xs ys b x e = b x (list_any-append (λ y. eqb y x) xs ys ∙ ap (λ c. list_any (λ y. eqb y x) xs || c) e ∙ at_last (list_any (λ y. eqb y x) xs))
  where
    at_last : (a : Bool) → (a || true) ≡ true
    at_last true = refl
    at_last false = refl

-- regions
pub region_step : (p n : ℕ) (g : Region) (rs : Regions) (goal : Op) (xs : List ℕ) (s u v : Stored) → RegionsLeft p n (region g rs) goal xs s u → Adds (put_region p n g u.module_of.tree) (region_ids g) u v → RegionsLeft p (n + 1) rs goal xs s v
region_step p n g rs goal xs s u v l a =
    let t : v.module_of.tree ≡ put_region p n g u.module_of.tree = ap (λ z. z.tree) a.module_of in
    record {
      may = subst (MayRegions p (n + 1) rs) (sym t) l.may.1;
      whole = ap (put_regions p (n + 1) rs) t ∙ l.whole;
      held = a.held ∙ l.held;
      next = ap (λ z. z.next) a.module_of ∙ l.next;
      below = below_right s.module_of.next (region_ids g) (regions_ids rs) l.below;
      gone = λ x. gone_then (region_ids g) (regions_ids rs) u v a.gone x ∙ l.gone x;
    }

pub region_asks : (p n : ℕ) (g : Region) (rs : Regions) (goal : Op) (xs : List ℕ) (s u : Stored) → RegionsLeft p n (region g rs) goal xs s u → AreBelow u.module_of.next (region_ids g)
region_asks p n g rs goal xs s u l = subst (λ z. AreBelow z (region_ids g)) (sym l.next) (below_left s.module_of.next (region_ids g) (regions_ids rs) l.below)

pub regions_done : (p n : ℕ) (rs : Regions) (goal : Op) (xs : List ℕ) (s u : Stored) → rs ≡ no_regions → s.held ≡ finmap.empty → RegionsLeft p n rs goal xs s u → Adds goal xs s u
regions_done p n rs goal xs s u e h l0 =
    let l : RegionsLeft p n no_regions goal xs s u = subst (λ z. RegionsLeft p n z goal xs s u) e l0 in
    record { module_of = λ i. record { tree = l.whole i; next = l.next i }; held = l.held ∙ sym h; gone = l.gone }

-- operations
pub op_step : (p n : ℕ) (o : Op) (os : Ops) (goal : Op) (xs : List ℕ) (s u v : Stored) → OpsLeft p n (next o os) goal xs s u → Adds (put (end_of p n) o u.module_of.tree) (ids o) u v → OpsLeft p n os goal xs s v
op_step p n o os goal xs s u v l a =
    let t : v.module_of.tree ≡ put (end_of p n) o u.module_of.tree = ap (λ z. z.tree) a.module_of in
    record {
      may = subst (MayOps p n os) (sym t) l.may.1;
      whole = ap (put_ops p n os) t ∙ l.whole;
      held = a.held ∙ l.held;
      next = ap (λ z. z.next) a.module_of ∙ l.next;
      below = below_right s.module_of.next (ids o) (ops_ids os) l.below;
      gone = λ x. gone_then (ids o) (ops_ids os) u v a.gone x ∙ l.gone x;
    }

pub op_asks : (p n : ℕ) (o : Op) (os : Ops) (goal : Op) (xs : List ℕ) (s u : Stored) → OpsLeft p n (next o os) goal xs s u → AreBelow u.module_of.next (ids o)
op_asks p n o os goal xs s u l = subst (λ z. AreBelow z (ids o)) (sym l.next) (below_left s.module_of.next (ids o) (ops_ids os) l.below)

pub ops_done : (p n : ℕ) (os : Ops) (goal : Op) (xs : List ℕ) (s u : Stored) → os ≡ no_ops → s.held ≡ finmap.empty → OpsLeft p n os goal xs s u → Adds goal xs s u
ops_done p n os goal xs s u e h l0 =
    let l : OpsLeft p n no_ops goal xs s u = subst (λ z. OpsLeft p n z goal xs s u) e l0 in
    record { module_of = λ i. record { tree = l.whole i; next = l.next i }; held = l.held ∙ sym h; gone = l.gone }

-- a slice is its first item and the rest
pub first_and_rest : {X : Type 0} (xs : List X) (x : X) → x ≡ get_or xs 0 x → 1 ≤ length xs → xs ≡ x ∷ take (length xs - 1) (drop 1 xs)
first_and_rest [] x e l = absurd (omega (arith, l))
first_and_rest (y ∷ xs) x e l = let long : suc (length xs) - 1 ≡ length xs = omega arith in λ i. sym e i ∷ sym (take_all (suc (length xs) - 1) xs long) i

-- the head of an operation
module _ (p r : ℕ) (o : Op) (s : Stored) (may : MayPut (end_of p r) (emptied o) s.module_of.tree) (held : s.held ≡ finmap.empty) (below : (head o).id < s.module_of.next) where
  abbrev x : ℕ
  x = (head o).id

  here : has_id x (emptied o) ≡ true
  here = go o
    where
      go : (o : Op) → has_id (head o).id (emptied o) ≡ true
      go (op h rs) = ap (λ b. b || list_any (λ y. eqb y h.id) (regions_ids (emptied_regions rs))) (eq-eqb h.id h.id refl)

  same_id : with_id x (emptied o) ≡ emptied o
  same_id = go o
    where
      go : (o : Op) → with_id (head o).id (emptied o) ≡ emptied o
      go (op h rs) = refl

  operands_same : (head (emptied o)).operands ≡ (head o).operands
  operands_same = go o
    where
      go : (o : Op) → (head (emptied o)).operands ≡ (head o).operands
      go (op h rs) = refl

  pub head_unknown : known x s ≡ None
  head_unknown = (λ i. first_of (not_found [] [] x s.module_of.tree (has_is x s.module_of.tree ∙ may.apart x here) i) (finmap.get (held i) x)) ∙ finmap.get-empty nat_cmp x

  held_there : finmap.get (after_grow x o s).held x ≡ Some (emptied o)
  held_there = finmap.get-insert nat_cmp_total s.held x (with_id x (emptied o)) x ∙ cond-true _ (Some (with_id x (emptied o))) (finmap.get s.held x) (eq_nat x x ∙ eq-eqb x x refl) ∙ ap Some same_id

  pub head_can : list_all (λ v. has_value v s.module_of.tree) (head o).operands ≡ true → CanRestore x (end_of p r) false (after_grow x o s)
  head_can e = record {
    held = ap is_some held_there;
    point = may.point;
    values = λ u f. ap (λ z. list_all (λ v. has_value v s.module_of.tree) (head z).operands) (same_Some u (emptied o) (sym f ∙ held_there)) ∙ ap (list_all (λ v. has_value v s.module_of.tree)) operands_same ∙ e;
    newest = λ z. absurd (false≢true z);
    headroom = λ z. absurd (false≢true z);
    below = λ z. below;
  }

  pub head_adds : (u : Stored) → u ≡ after_restore x (end_of p r) false (after_grow x o s) → Adds (put (end_of p r) (emptied o) s.module_of.tree) (x ∷ []) s u
  head_adds u e = subst (Adds (put (end_of p r) (emptied o) s.module_of.tree) (x ∷ []) s) (sym e) (record {
    module_of = ap (λ z. record { tree = put_held (end_of p r) z s.module_of.tree; next = s.module_of.next }) held_there;
    held = finmap.same_map nat_cmp_total finmap.nat_cmp-IsAntisymmetric (finmap.remove (finmap.insert s.held x (with_id x (emptied o))) x) s.held out;
    gone = λ y. finmap.get-insert nat_cmp_total s.gone x none_gone y ∙ ap (λ b. cond b (Some none_gone) (finmap.get s.gone y)) (eq_nat y x ∙ flip y ∙ sym (or_none (eqb x y)));
  })
    where
      or_none : (b : Bool) → (b || false) ≡ b
      or_none true = refl
      or_none false = refl

      flip : (y : ℕ) → eqb y x ≡ eqb x y
      flip y = ⊎_elim (λ z. eq-eqb y x z ∙ sym (eq-eqb x y (sym z))) (λ n. ne_eqb y x n ∙ sym (ne_eqb x y (λ z. n (sym z)))) (cases_eq y x)

      out : (y : ℕ) → finmap.get (finmap.remove (finmap.insert s.held x (with_id x (emptied o))) x) y ≡ finmap.get s.held y
      out y = finmap.get-remove nat_cmp_total (finmap.insert s.held x (with_id x (emptied o))) x y ∙ ap (λ b. cond b None (finmap.get (finmap.insert s.held x (with_id x (emptied o))) y)) (eq_nat y x) ∙ ⊎_elim
          (λ z. cond-true (eqb y x) None _ (eq-eqb y x z) ∙ sym (ap (λ m. finmap.get m y) held ∙ finmap.get-empty nat_cmp y))
          (λ n. cond-false (eqb y x) None _ (ne_eqb y x n) ∙ finmap.get-insert nat_cmp_total s.held x (with_id x (emptied o)) y ∙ cond-false _ (Some (with_id x (emptied o))) (finmap.get s.held y) (eq_nat y x ∙ ne_eqb y x n))
          (cases_eq y x)

-- loads an operation with everything inside it
module _ (p r : ℕ) (o : Op) (s u : Stored) (may : MayPut (end_of p r) o s.module_of.tree) (held : s.held ≡ finmap.empty) (below : AreBelow s.module_of.next (ids o))
    (a : Adds (put (end_of p r) (emptied o) s.module_of.tree) ((head o).id ∷ []) s u) where
  tree_is : u.module_of.tree ≡ put (end_of p r) (emptied o) s.module_of.tree
  tree_is = ap (λ z. z.tree) a.module_of

  pub inside_may : MayRegions (head o).id 0 (regions o) u.module_of.tree
  inside_may = subst (MayRegions (head o).id 0 (regions o)) (sym tree_is) (may_inside (end_of p r) o s.module_of.tree may)

  split_ids : ids o ≡ (head o).id ∷ regions_ids (regions o)
  split_ids = go o
    where
      go : (o : Op) → ids o ≡ (head o).id ∷ regions_ids (regions o)
      go (op h rs) = refl

  pub inside_below : AreBelow u.module_of.next (regions_ids (regions o))
  inside_below = subst (λ z. AreBelow z (regions_ids (regions o))) (sym (ap (λ z. z.next) a.module_of)) (below_right s.module_of.next ((head o).id ∷ []) (regions_ids (regions o)) (subst (AreBelow s.module_of.next) split_ids below))

  pub inside_held : u.held ≡ finmap.empty
  inside_held = a.held ∙ held

  pub whole_adds : (v : Stored) → Adds (put_regions (head o).id 0 (regions o) u.module_of.tree) (regions_ids (regions o)) u v → Adds (put (end_of p r) o s.module_of.tree) (ids o) s v
  whole_adds v b = record {
    module_of = b.module_of ∙ (λ i. record { tree = (ap (put_regions (head o).id 0 (regions o)) tree_is ∙ put_inside (end_of p r) o s.module_of.tree may) i; next = (a.module_of i).next });
    held = b.held ∙ a.held;
    gone = λ x. b.gone x ∙ gone_then ((head o).id ∷ []) (regions_ids (regions o)) s u a.gone x ∙ ap (λ z. gone_with z s x) (sym split_ids);
  }

pub head_below : (n : ℕ) (o : Op) → AreBelow n (ids o) → (head o).id < n
head_below n (op h rs) b = b h.id (ap (λ c. c || list_any (λ y. eqb y h.id) (regions_ids rs)) (eq-eqb h.id h.id refl))

-- the rest of a loop starts with the next item
pub next_at : {X : Type 0} (ys xs : List X) → ys ≡ xs → (n : ℕ) (x : X) → n < length ys → x ≡ get_or ys n x → drop n xs ≡ x ∷ drop (n + 1) xs
next_at ys xs e n x l f = subst (λ z. drop n z ≡ x ∷ drop (n + 1) z) e (drop_more ys n x l ∙ ap (λ z. z ∷ drop (n + 1) ys) (sym f))

pub none_at : {X : Type 0} (ys xs : List X) → ys ≡ xs → (n : ℕ) → length ys ≤ n → drop n xs ≡ []
none_at ys xs e n l = subst (λ z. drop n z ≡ []) e (go ys n l)
  where
    go : {X : Type 0} (ys : List X) (n : ℕ) → length ys ≤ n → drop n ys ≡ []
    go [] zero l = refl
    go [] (suc n) l = refl
    go (y ∷ ys) zero l = absurd (omega (arith, l))
    go (y ∷ ys) (suc n) l = go ys n (omega (arith, l))

pub ops_start : (p n : ℕ) (g : Region) (args : List ℕ) (os : Ops) (s : Stored) → g ≡ block args os → MayRegion p n g s.module_of.tree → s.held ≡ finmap.empty → AreBelow s.module_of.next (region_ids g)
    → OpsLeft p n os (put_region p n g s.module_of.tree) (region_ids g) s s
ops_start p n g args os s e may held below = record {
  may = subst (λ z. MayRegion p n z s.module_of.tree) e may;
  whole = ap (λ z. put_region p n z s.module_of.tree) (sym e);
  held = held;
  next = refl;
  below = subst (λ z. AreBelow s.module_of.next (region_ids z)) e below;
  gone = λ x. ap (λ z. gone_with (region_ids z) s x) (sym e);
}

pub regions_start : (p : ℕ) (rs : Regions) (s : Stored) → MayRegions p 0 rs s.module_of.tree → s.held ≡ finmap.empty → AreBelow s.module_of.next (regions_ids rs) → RegionsLeft p 0 rs (put_regions p 0 rs s.module_of.tree) (regions_ids rs) s s
regions_start p rs s may held below = record { may = may; whole = refl; held = held; next = refl; below = below; gone = λ x. refl }

-- a region in an operation isn't greater than the operation's regions
pub region_no_more : (xs : List TreeRegion) (n : ℕ) (x : TreeRegion) → n < length xs → x ≡ get_or xs n x → region_size (region_view x) ≤ regions_size (regions_of (map region_view xs))
region_no_more [] n x l e = absurd (omega (arith, l))
region_no_more (y ∷ xs) zero x l e = let f : region_size (region_view x) ≡ region_size (region_view y) = ap (λ z. region_size (region_view z)) e in omega (arith, f)
region_no_more (y ∷ xs) (suc n) x l e = let f = region_no_more xs n x (omega (arith, l)) e in omega (arith, f)

pub op_no_more : (xs : List Op) (n : ℕ) (x : Op) → n < length xs → x ≡ get_or xs n x → op_size x ≤ ops_size (ops_of xs)
op_no_more [] n x l e = absurd (omega (arith, l))
op_no_more (y ∷ xs) zero x l e = let f : op_size x ≡ op_size y = ap op_size e in omega (arith, f)
op_no_more (y ∷ xs) (suc n) x l e = let f = op_no_more xs n x (omega (arith, l)) e in omega (arith, f)

-- a whole tree
below_all : (n : ℕ) (xs : List ℕ) → AllByRecursion (λ x. x < n) xs → AreBelow n xs
below_all n [] a x e = absurd (false≢true e)
below_all n (y ∷ ys) a x e = ⊎_elim (λ f. subst (λ z. z < n) (eqb-true y x f) a.0) (λ f. below_all n ys a.1 x f) (or_cases (eqb y x) (list_any (λ z. eqb z x) ys) e)

pub are_below : (n : ℕ) (xs : List ℕ) → All (λ x. x < n) xs → AreBelow n xs
are_below n xs a = below_all n xs (recursion_from_All (λ x. x < n) xs a)

-- the root of a tree whose operands are visible has no operands
pub root_bare : (isolated : ℕ → Bool) (t : Op) → operands_visible isolated t ≡ true → (head t).operands ≡ []
root_bare isolated (op h rs) e = go h.operands (first (list_all (in_scope []) h.operands) (list_all dominated_by_operands (regions_sites isolated (inside isolated h []) h.id 0 rs)) e)
  where
    first : (a b : Bool) → (a && b) ≡ true → a ≡ true
    first true b e = refl
    first false b e = absurd (false≢true e)

    go : (vs : List Value) → list_all (in_scope []) vs ≡ true → vs ≡ []
    go [] e = refl
    go (v ∷ vs) e = absurd (false≢true e)

module _ (o : Op) (d : HasDistinctIds o) (n : ℕ) (below : AreBelow n (ids o)) (s : Stored) (es : s ≡ seeded o n) where
  pub root_may : MayRegions (head o).id 0 (regions o) s.module_of.tree
  root_may = subst (λ z. MayRegions (head o).id 0 (regions o) z.module_of.tree) (sym es) (whole_inside o d).0

  split : ids o ≡ (head o).id ∷ regions_ids (regions o)
  split = go o
    where
      go : (o : Op) → ids o ≡ (head o).id ∷ regions_ids (regions o)
      go (op h rs) = refl

  pub root_held : s.held ≡ finmap.empty
  root_held = ap (λ z. z.held) es

  pub root_below : AreBelow s.module_of.next (regions_ids (regions o))
  root_below = subst (λ z. AreBelow z.module_of.next (regions_ids (regions o))) (sym es) (below_right n ((head o).id ∷ []) (regions_ids (regions o)) (subst (AreBelow n) split below))

  pub root_loaded : (v : Stored) → Adds (put_regions (head o).id 0 (regions o) s.module_of.tree) (regions_ids (regions o)) s v → Loaded o n v
  root_loaded v a = record {
    module_of = a.module_of ∙ (λ i. record { tree = (ap (λ z. put_regions (head o).id 0 (regions o) z.module_of.tree) es ∙ (whole_inside o d).1) i; next = (es i).module_of.next });
    held = a.held ∙ root_held;
    gone = λ x. a.gone x ∙ gone_same (regions_ids (regions o)) s (seeded o n) (ap (λ z. z.gone) es) x
        ∙ ap (λ z. if list_any (λ y. eqb y x) (regions_ids (regions o)) then Some none_gone else z) (start x)
        ∙ both (eqb (head o).id x) (list_any (λ y. eqb y x) (regions_ids (regions o))) ∙ ap (λ z. if list_any (λ y. eqb y x) z then Some none_gone else None) (sym split);
  }
    where
      start : (x : ℕ) → finmap.get (seeded o n).gone x ≡ (if eqb (head o).id x then Some none_gone else None)
      start x = finmap.get-insert nat_cmp_total finmap.empty (head o).id none_gone x ∙ ap (λ b. cond b (Some none_gone) (finmap.get (finmap.empty {X = Gone} {R = nat_cmp}) x)) (eq_nat x (head o).id ∙ flip x (head o).id) ∙ ap (cond (eqb (head o).id x) (Some none_gone)) (finmap.get-empty nat_cmp x)
        where
          flip : (y z : ℕ) → eqb y z ≡ eqb z y
          flip y z = ⊎_elim (λ e. eq-eqb y z e ∙ sym (eq-eqb z y (sym e))) (λ n. ne_eqb y z n ∙ sym (ne_eqb z y (λ e. n (sym e)))) (cases_eq y z)

      both : (a b : Bool) → (if b then Some none_gone else (if a then Some none_gone else None)) ≡ (if a || b then Some none_gone else None)
      both true true = refl
      both true false = refl
      both false true = refl
      both false false = refl
