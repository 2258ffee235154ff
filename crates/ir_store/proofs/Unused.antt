-- Whether the values of an operation are used, in slots and in the tree.
use Rattle.std.proofs.Common.{◌≡◌, ℕ, zero, suc, ◌+◌, ◌<◌, List, [], ◌∷◌, refl, sym, ap, ◌∙◌, subst, length, Bool, true, false, eqb, not, ◌&&◌, ⊎_elim, ◌⊎◌, arith, Option, Some, None, slice_get}
use Rattle.std.specs.Prelude.{option_and_then, nat_lt, if◌then◌else◌, Result, Ok, Err}
use Rattle.std.specs.List.{list_all}
use Rattle.std.proofs.lemmas.Bool.{eq-eqb, eqb-true, cases_Bool, false≢true, and_cases, ltb-true, and_parts}
use Rattle.std.proofs.lemmas.Bool.Decides.{nat_tests}
use Rattle.ir_store_reads.specs.Lists.{Lists, Laws, has, list_at, home_at, free, IsHead, IsItem}
use Rattle.ir_store_reads.proofs.Around.{home_inside}
use Rattle.ir_store_reads.specs.types.declared.refusal.Refusal.{Refusal}
use Rattle.ir_store_reads.specs.types.declared.refusal.Refusal.TheVariants.{NoSuchOp, IsRoot, NotEmpty, HasUses}
use Rattle.ir_store_reads.specs.trees.declared.value.Value.{Value}
use Rattle.ir_store_reads.specs.trees.declared.value.Value.TheVariants.{Result as ResultOf, Arg}
use Rattle.ir_store_reads.specs.trees.Frames.{owner_of}
use Rattle.ir_store_reads.specs.trees.Limits.{every, regions_every, region_every, ops_every}
use Rattle.ir_store_reads.specs.trees.Tree.{Head, Op, op, Regions, no_regions, region, Region, empty, block, Ops, no_ops, next, head}
use Rattle.ir_store_reads.specs.trees.Ids.{has_id, find, regions_find, region_find, ops_find, first_of}
use Rattle.ir_store_reads.specs.tree_laws.Reasons.{leaves, unused, take_reason, holds_none, unless}
use Rattle.ir_store_reads.specs.Rows.{Row, RegionShape, row_at, live_slot}
use Rattle.ir_store_reads.specs.Spells.{SpellsOp, SpellsRegions, SpellsRegion, SpellsOps}
use Rattle.ir_store_reads.specs.Right.{Live, Right}
use Rattle.ir_store_reads.specs.Plans.{is_nil, leaf_in}
use Rattle.ir_store_reads.specs.Reasoned.{idle_in}
use Rattle.ir_store_reads.specs.Index.{operand_at, use_at, argument_head, slot_head, value_head, Index, lives, all_idle, args_idle, row_idle}
use Rattle.ir_store_reads.proofs.SlotLaws.{Found, found, found_op}
use Rattle.ir_store.proofs.Taking.{IsLeaf, planned}
use Rattle.ir_store_reads.proofs.Idle.{is_below}
use Rattle.ir_store_reads.proofs.of_trees.of_types.Truths.{all_at, if_some}
use Rattle.ir_store_reads.proofs.of_trees.of_types.WordNumbers.{all_at as all_get}
use Rattle.std.proofs.lemmas.Option.{same_Some}

-- tests of each operation
module _ (f : Head → Bool) where
  module _ (slots : List Row) (lists : List (List ℕ)) (pass : (k : ℕ) → Live slots k → f (row_at slots k).head ≡ true) where
    mutual
      pub every_spelt : (k : ℕ) (t : Op) → SpellsOp slots lists k t → every (λ o. f (head o)) t ≡ true
      every_spelt k (op h rs) s = (λ i. sym (ap f s.1.0) i && regions_every (λ o. f (head o)) rs) ∙ rw (pass k (record { live = s.0 })) (every_regions (row_at slots k).shapes rs s.1.1)

      every_regions : (xs : List RegionShape) (rs : Regions) → SpellsRegions slots lists xs rs → regions_every (λ o. f (head o)) rs ≡ true
      every_regions xs no_regions s = refl
      every_regions [] (region g rs) s = absurd s
      every_regions (a ∷ xs) (region g rs) s = rw (every_region a g s.0) (every_regions xs rs s.1)

      every_region : (a : RegionShape) (g : Region) → SpellsRegion slots lists a g → region_every (λ o. f (head o)) g ≡ true
      every_region a empty s = refl
      every_region None (block args os) s = absurd s
      every_region (Some a) (block args os) s = every_ops (list_at lists a.1) os s.1

      every_ops : (ks : List ℕ) (os : Ops) → SpellsOps slots lists ks os → ops_every (λ o. f (head o)) os ≡ true
      every_ops ks no_ops s = refl
      every_ops [] (next o os) s = absurd s
      every_ops (k ∷ ks) (next o os) s = rw (every_spelt k o s.0) (every_ops ks os s.1)

  abbrev pub Passes : Option Op → Type 0
  Passes None = Unit {0}
  Passes (Some o) = f (head o) ≡ true

  first_passes : (a b : Option Op) → Passes a → Passes b → Passes (first_of a b)
  first_passes None b p q = q
  first_passes (Some o) b p q = p

  module _ (x : ℕ) where
    mutual
      pub every_find : (t : Op) → every (λ o. f (head o)) t ≡ true → Passes (find x t)
      every_find (op h rs) e = let b = and_parts (f h) (regions_every (λ o. f (head o)) rs) e in go (eqb h.id x) b.0 (every_find_regions rs b.1)
        where
          go : (c : Bool) → f h ≡ true → Passes (regions_find x rs) → Passes (if c then Some (op h rs) else regions_find x rs)
          go true p q = p
          go false p q = q

      every_find_regions : (rs : Regions) → regions_every (λ o. f (head o)) rs ≡ true → Passes (regions_find x rs)
      every_find_regions no_regions e = tt
      every_find_regions (region g rs) e =
          let b = and_parts (region_every (λ o. f (head o)) g) (regions_every (λ o. f (head o)) rs) e in
          first_passes (region_find x g) (regions_find x rs) (every_find_region g b.0) (every_find_regions rs b.1)

      every_find_region : (g : Region) → region_every (λ o. f (head o)) g ≡ true → Passes (region_find x g)
      every_find_region empty e = tt
      every_find_region (block args os) e = every_find_ops os e

      every_find_ops : (os : Ops) → ops_every (λ o. f (head o)) os ≡ true → Passes (ops_find x os)
      every_find_ops no_ops e = tt
      every_find_ops (next o os) e =
          let b = and_parts (every (λ o. f (head o)) o) (ops_every (λ o. f (head o)) os) e in
          first_passes (find x o) (ops_find x os) (every_find o b.0) (every_find_ops os b.1)

-- the heads of the values of one slot
module _ (slots : List Row) (lists : List (List ℕ)) where
  idle_at : (b n i : ℕ) → all_idle lists b n ≡ true → i < n → is_nil (list_at lists (b + i)) ≡ true
  idle_at b zero i e l = absurd (omega (arith, l))
  idle_at b (suc n) zero e l = ap (λ z. is_nil (list_at lists z)) (omega arith) ∙ (and_parts (is_nil (list_at lists b)) (all_idle lists (b + 1) n) e).0
  idle_at b (suc n) (suc i) e l =
      ap (λ z. is_nil (list_at lists z)) (omega arith) ∙ idle_at (b + 1) n i (and_parts (is_nil (list_at lists b)) (all_idle lists (b + 1) n) e).1 (omega (arith, l))

  busy_at : (b n : ℕ) → all_idle lists b n ≡ false → (i : ℕ) × ((i < n) × (is_nil (list_at lists (b + i)) ≡ false))
  busy_at b zero e = absurd (false≢true (sym e))
  busy_at b (suc n) e = ⊎_elim
      (λ f. (0, (omega arith, ap (λ z. is_nil (list_at lists z)) (omega arith) ∙ f)))
      (λ f. let r = busy_at (b + 1) n f in (suc r.0, (omega (arith, r.1.0), ap (λ z. is_nil (list_at lists z)) (omega arith) ∙ r.1.1)))
      (and_cases (is_nil (list_at lists b)) (all_idle lists (b + 1) n) e)

  args_at : (xs : List RegionShape) (r : ℕ) (a : List ℕ × ℕ) → args_idle slots lists xs ≡ true → slice_get xs r ≡ Some (Some a) → all_idle lists (row_at slots a.1).values (length a.0) ≡ true
  args_at [] r a e f = absurd cc
  args_at (None ∷ xs) zero a e f = absurd cc
  args_at (None ∷ xs) (suc r) a e f = args_at xs r a e f
  args_at (Some c ∷ xs) zero a e f =
      let same : c ≡ a = cc in
      subst (λ z. all_idle lists (row_at slots z.1).values (length z.0) ≡ true) same (and_parts (all_idle lists (row_at slots c.1).values (length c.0)) (args_idle slots lists xs) e).0
  args_at (Some c ∷ xs) (suc r) a e f = args_at xs r a (and_parts (all_idle lists (row_at slots c.1).values (length c.0)) (args_idle slots lists xs) e).1 f

  abbrev BusyArg : List RegionShape → Type 0
  BusyArg xs = (r : ℕ) × ((a : List ℕ × ℕ) × ((slice_get xs r ≡ Some (Some a)) × (all_idle lists (row_at slots a.1).values (length a.0) ≡ false)))

  busy_arg : (xs : List RegionShape) → args_idle slots lists xs ≡ false → BusyArg xs
  busy_arg [] e = absurd (false≢true (sym e))
  busy_arg (None ∷ xs) e = let w = busy_arg xs e in (suc w.0, (w.1.0, (w.1.1.0, w.1.1.1)))
  busy_arg (Some c ∷ xs) e = ⊎_elim
      (λ f. (0, (c, (refl, f))))
      (λ f. let w = busy_arg xs f in (suc w.0, (w.1.0, (w.1.1.0, w.1.1.1))))
      (and_cases (all_idle lists (row_at slots c.1).values (length c.0)) (args_idle slots lists xs) e)

  -- if the slot is idle, the use list of each of its values is empty
  pub idle_value : (k : ℕ) → row_idle slots lists k ≡ true → (v : Value) (h : ℕ) → slot_head slots v k ≡ Some h → is_nil (list_at lists h) ≡ true
  idle_value k e (ResultOf x i) h f =
      let b = and_parts (all_idle lists (row_at slots k).values (length (row_at slots k).head.results)) (args_idle slots lists (row_at slots k).shapes) e in
      let g = if_some (nat_lt i (length (row_at slots k).head.results)) ((row_at slots k).values + i) h f in
      subst (λ z. is_nil (list_at lists z) ≡ true) g.1 (idle_at (row_at slots k).values (length (row_at slots k).head.results) i b.0 (ltb-true i (length (row_at slots k).head.results) g.0))
  idle_value k e (Arg x r i) h f = go (slice_get (row_at slots k).shapes r) refl f
    where
      go : (o : Option RegionShape) → slice_get (row_at slots k).shapes r ≡ o → option_and_then (argument_head slots i) o ≡ Some h → is_nil (list_at lists h) ≡ true
      go None m f = absurd cc
      go (Some None) m f = absurd cc
      go (Some (Some a)) m f =
          let b = and_parts (all_idle lists (row_at slots k).values (length (row_at slots k).head.results)) (args_idle slots lists (row_at slots k).shapes) e in
          let g = if_some (nat_lt i (length a.0)) ((row_at slots a.1).values + i) h f in
          subst (λ z. is_nil (list_at lists z) ≡ true) g.1 (idle_at (row_at slots a.1).values (length a.0) i (args_at (row_at slots k).shapes r a b.1 m) (ltb-true i (length a.0) g.0))

  -- if the slot isn't idle, one of its values is used
  pub record Busy (k x : ℕ) : Type 0 where
    pub value : Value
    pub head_at : ℕ
    pub own : (owner_of value).0 ≡ x
    pub here : slot_head slots value k ≡ Some head_at
    pub busy : is_nil (list_at lists head_at) ≡ false

  pub busy_value : (k x : ℕ) → row_idle slots lists k ≡ false → Busy k x
  busy_value k x e = ⊎_elim
      (λ f.
      let w = busy_at (row_at slots k).values (length (row_at slots k).head.results) f in
      record {
        value = ResultOf x w.0;
        head_at = (row_at slots k).values + w.0;
        own = refl;
        here = ap (λ c. if c then Some ((row_at slots k).values + w.0) else None) (is_below w.0 (length (row_at slots k).head.results) w.1.0);
        busy = w.1.1;
      })
      (λ f.
      let y = busy_arg (row_at slots k).shapes f in
      let w = busy_at (row_at slots y.1.0.1).values (length y.1.0.0) y.1.1.1 in
      record {
        value = Arg x y.0 w.0;
        head_at = (row_at slots y.1.0.1).values + w.0;
        own = refl;
        here = ap (option_and_then (argument_head slots w.0)) y.1.1.0 ∙ ap (λ c. if c then Some ((row_at slots y.1.0.1).values + w.0) else None) (is_below w.0 (length y.1.0.0) w.1.0);
        busy = w.1.1;
      })
      (and_cases (all_idle lists (row_at slots k).values (length (row_at slots k).head.results)) (args_idle slots lists (row_at slots k).shapes) e)

  has_nil : (u : ℕ) (ks : List ℕ) → has u ks ≡ true → is_nil ks ≡ true → ⊥
  has_nil u [] e f = false≢true e
  has_nil u (k ∷ ks) e f = false≢true f

  abbrev FirstOf : List ℕ → Type 0
  FirstOf ks = (u : ℕ) × (has u ks ≡ true)

  first_one : (ks : List ℕ) → is_nil ks ≡ false → FirstOf ks
  first_one [] e = absurd (false≢true (sym e))
  first_one (u ∷ ks) e = (u, rw (eq-eqb u u refl) refl)

-- a node in the list of a head is an item
pub listed_item : (us : Lists) → Laws us.lists us.homes → (h u : ℕ) → IsHead us.homes h → has u (list_at us.lists h) ≡ true → IsItem us.homes u
listed_item us laws h u p e =
    let m = laws.members h u e in
    let ne : home_at us.homes u ≡ free → ⊥ = λ f. (let g : h ≡ free = sym m.0 ∙ f in let l : h < length us.homes = p.inside in let few = laws.few in omega arith) in
    record { inside = home_inside us.homes u ne; linked = ne; other = λ f. m.1 (sym f ∙ m.0) }

module _ (slots : List Row) (keys : ℕ → Option ℕ) (sibs : Lists) (root : ℕ) (t : Op) (r : Right slots keys sibs root t) (s : SpellsOp slots sibs.lists root t)
    (us : Lists) (cells : List (ℕ × ℕ)) (laws : Laws us.lists us.homes) (ix : Index slots keys us.homes cells (lives slots)) (x k : ℕ) (f : Found slots x k) where
  key_is : keys x ≡ Some k
  key_is = ap keys (sym f.id) ∙ r.keyed k (r.live_used k f.live)

  at_slot : (v : Value) → (owner_of v).0 ≡ x → value_head slots keys v ≡ slot_head slots v k
  at_slot v e = ap (option_and_then (slot_head slots v)) (ap keys e ∙ key_is)

  -- if the slot is idle, no operand is a value of it
  none_leaves : row_idle slots us.lists k ≡ true → (q : ℕ) → Live slots q → leaves x (row_at slots q).head ≡ true
  none_leaves e q l = all_at (λ v. not (eqb (owner_of v).0 x)) (row_at slots q).head.operands (λ j v g. one j v g (cases_Bool (eqb (owner_of v).0 x)))
    where
      one : (j : ℕ) (v : Value) → operand_at slots q j ≡ Some v → (eqb (owner_of v).0 x ≡ true) ⊎ (eqb (owner_of v).0 x ≡ false) → not (eqb (owner_of v).0 x) ≡ true
      one j v g c = ⊎_elim
          (λ y.
          let w = ix.linked q j v (r.live_used q l) g l.live in
          let h = home_at us.homes (use_at slots q j) in
          absurd (has_nil slots us.lists (use_at slots q j) (list_at us.lists h) (laws.covers (use_at slots q j) w.item) (idle_value slots us.lists k e v h (sym (at_slot v (eqb-true (owner_of v).0 x y)) ∙ w.home))))
          (λ n. ap not n) c

  some_stays : row_idle slots us.lists k ≡ false → unused x t ≡ false
  some_stays e =
      let b = busy_value slots us.lists k x e in
      let hd = at_slot b.value b.own ∙ b.here in
      let u = first_one slots us.lists (list_at us.lists b.head_at) b.busy in
      let is_head = ix.heads b.value b.head_at hd in
      let st = ix.users u.0 (listed_item us laws b.head_at u.0 is_head u.1) in
      let link = ix.linked st.row st.place st.value st.use_of.used st.use_of.operand st.put in
      let home : home_at us.homes (use_at slots st.row st.place) ≡ b.head_at = ap (home_at us.homes) st.use_of.node ∙ (laws.members b.head_at u.0 u.1).0 in
      let same : st.value ≡ b.value = ix.one st.value b.value b.head_at (link.home ∙ ap Some home) hd in
      let live : Live slots st.row = record { live = st.put } in
      let o = found_op slots keys sibs root t r s (row_at slots st.row).head.id st.row (found slots keys sibs root t r s (row_at slots st.row).head.id st.row (slot_is st.row live)) in
      ⊎_elim
      (λ y.
      let w = every_find (leaves x) (row_at slots st.row).head.id t y in
      let z : leaves x (head o.0) ≡ true = subst (Passes (leaves x)) o.1.0 w in
      let p : not (eqb (owner_of st.value).0 x) ≡ true = all_get (λ v. not (eqb (owner_of v).0 x)) (head o.0).operands st.place st.value z (ap (λ d. slice_get d.operands st.place) (sym (head_is st.row o.0 o.1.1)) ∙ st.use_of.operand) in
      absurd (false≢true (sym (ap not (eq-eqb (owner_of st.value).0 x (ap (λ d. (owner_of d).0) same ∙ b.own))) ∙ p)))
      (λ n. n)
      (cases_Bool (unused x t))
    where
      slot_is : (q : ℕ) → Live slots q → live_slot slots keys (row_at slots q).head.id ≡ Some q
      slot_is q l = ap (λ z. if_live' z) (r.keyed q (r.live_used q l)) ∙ rw l.live refl
        where
          if_live' : Option ℕ → Option ℕ
          if_live' None = None
          if_live' (Some k) = if (row_at slots k).live then Some k else None

      head_is : (q : ℕ) (o : Op) → SpellsOp slots sibs.lists q o → (row_at slots q).head ≡ head o
      head_is q (op h rs) w = w.1.0

  pub idle_is : row_idle slots us.lists k ≡ unused x t
  idle_is = ⊎_elim
      (λ e. e ∙ sym (every_spelt (leaves x) slots sibs.lists (none_leaves e) root t s))
      (λ e. e ∙ sym (some_stays e))
      (cases_Bool (row_idle slots us.lists k))

-- the slot found for taking out
module _ (slots : List Row) (keys : ℕ → Option ℕ) (sibs : Lists) (root : ℕ) (t : Op) (r : Right slots keys sibs root t) (s : SpellsOp slots sibs.lists root t)
    (us : Lists) (cells : List (ℕ × ℕ)) (laws : Laws us.lists us.homes) (ix : Index slots keys us.homes cells (lives slots)) (x : ℕ) where
  abbrev pub TakePlanned : Result ℕ Refusal → Type 0
  TakePlanned (Ok k) = IsLeaf slots sibs.lists root x k × (take_reason x t ≡ None)
  TakePlanned (Err e) = take_reason x t ≡ Some e

  more : (a b c d : Bool) → unless a NoSuchOp (unless b IsRoot (unless c NotEmpty None)) ≡ None → unless a NoSuchOp (unless b IsRoot (unless c NotEmpty (unless d HasUses None))) ≡ unless d HasUses None
  more true true true d e = refl
  more true true false d e = absurd cc
  more true false c d e = absurd cc
  more false b c d e = absurd cc

  less : (a b c d : Bool) (z : Refusal) → unless a NoSuchOp (unless b IsRoot (unless c NotEmpty None)) ≡ Some z → unless a NoSuchOp (unless b IsRoot (unless c NotEmpty (unless d HasUses None))) ≡ Some z
  less true true true d z e = absurd cc
  less true true false d z e = e
  less true false c d z e = e
  less false b c d z e = e

  pub take_planned : (res leaf : Result ℕ Refusal) → leaf ≡ leaf_in slots sibs.lists root (live_slot slots keys x) → res ≡ idle_in slots us.lists leaf → TakePlanned res
  take_planned res (Err e) g p =
      let w = planned slots keys sibs root t r s x (Err e) g in
      subst TakePlanned (sym p) (less (has_id x t) (not (eqb (head t).id x)) (holds_none (find x t)) (unused x t) e w)
  take_planned res (Ok k) g p =
      let w = planned slots keys sibs root t r s x (Ok k) g in
      let m = more (has_id x t) (not (eqb (head t).id x)) (holds_none (find x t)) (unused x t) w.1 in
      let i = idle_is slots keys sibs root t r s us cells laws ix x k w.0.found in
      subst TakePlanned (sym p) (go (row_idle slots us.lists k) refl w.0 (m ∙ ap (λ d. unless d HasUses None) (sym i)))
    where
      go : (b : Bool) → row_idle slots us.lists k ≡ b → IsLeaf slots sibs.lists root x k → take_reason x t ≡ unless (row_idle slots us.lists k) HasUses None → TakePlanned (if b then Ok k else Err HasUses)
      go true e l m = (l, m ∙ ap (λ d. unless d HasUses None) e)
      go false e l m = m ∙ ap (λ d. unless d HasUses None) e
