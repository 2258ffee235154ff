-- The last operation inside an operation, in slots and in the tree.
use Rattle.std.proofs.Common.{◌≡◌, ℕ, ◌<◌, List, [], ◌∷◌, ◌++◌, refl, sym, ap, ◌∙◌, subst, length, length-append, append_assoc, append-nil, Option, Some, None, arith}
use Rattle.ir_store_reads.specs.Lists.{last_of, list_at}
use Rattle.ir_store_reads.specs.trees.Tree.{Op, op, Regions, no_regions, region, empty, block, Ops, no_ops, next}
use Rattle.ir_store_reads.specs.trees.Ids.{ids, regions_ids, ops_ids, find, first_of}
use Rattle.ir_store_reads.specs.Rows.{Row, RegionShape, row_at, live_slot}
use Rattle.ir_store_reads.specs.Spells.{SpellsOp, SpellsRegions, SpellsOps, SpellsOp-one}
use Rattle.ir_store_reads.specs.Right.{Live}
use Rattle.ir_store_reads.proofs.SlotLaws.{Found, found, found_op, slot_of_live}
use Rattle.ir_store_reads.specs.Ends.{later, last_in}
use Rattle.ir_store.specs.declared.store.Store.TheInside.{Inside}
use Rattle.ir_store.specs.Ends.{IsLastIn, ids_in}
use Rattle.ir_store.proofs.Called.{rows_in, keys_in}
use Rattle.ir_store.proofs.Cut.{live_of}
use Rattle.ir_store.proofs.Whole.{Whole}

some_later : (x : ℕ) (xs : List ℕ) (other : Option ℕ) → first_of (last_of (Some x) xs) other ≡ last_of (Some x) xs
some_later x [] other = refl
some_later x (y ∷ ys) other = some_later y ys other

last_or : (xs : List ℕ) (other : Option ℕ) → first_of (last_of None xs) other ≡ last_of other xs
last_or [] other = refl
last_or (x ∷ xs) other = some_later x xs other

module _ (slots : List Row) (lists : List (List ℕ)) where
  -- ids end with those of the operation in a slot, or there are no ids
  abbrev pub EndsWith : Option ℕ → List ℕ → Type 0
  EndsWith None xs = xs ≡ []
  EndsWith (Some k) xs = (ys : List ℕ) × (o : Op) × SpellsOp slots lists k o × (xs ≡ ys ++ ids o)

  ops_end : (other : Option ℕ) (zs : List ℕ) → EndsWith other zs → (ks : List ℕ) (os : Ops) → SpellsOps slots lists ks os → EndsWith (last_of other ks) (zs ++ ops_ids os)
  ops_end other zs w [] no_ops s = subst (EndsWith other) (sym (append-nil zs)) w
  ops_end other zs w [] (next o os) s = absurd s
  ops_end other zs w (k ∷ ks) no_ops s = absurd s
  ops_end other zs w (k ∷ ks) (next o os) s = subst (EndsWith (last_of (Some k) ks)) (append_assoc zs (ids o) (ops_ids os)) (ops_end (Some k) (zs ++ ids o) (zs, o, s.0, refl) ks os s.1)

  regions_end : (other : Option ℕ) (zs : List ℕ) → EndsWith other zs → (xs : List RegionShape) (rs : Regions) → SpellsRegions slots lists xs rs → EndsWith (last_in lists other xs) (zs ++ regions_ids rs)
  regions_end other zs w [] no_regions s = subst (EndsWith other) (sym (append-nil zs)) w
  regions_end other zs w [] (region g rs) s = absurd s
  regions_end other zs w (a ∷ xs) no_regions s = absurd s
  regions_end other zs w (None ∷ xs) (region empty rs) s = regions_end other zs w xs rs s.1
  regions_end other zs w (None ∷ xs) (region (block args os) rs) s = absurd s.0
  regions_end other zs w (Some a ∷ xs) (region empty rs) s = absurd s.0
  regions_end other zs w (Some a ∷ xs) (region (block args os) rs) s =
      subst (EndsWith (last_in lists (later lists other (Some a)) xs)) (append_assoc zs (ops_ids os) (regions_ids rs))
      (regions_end (later lists other (Some a)) (zs ++ ops_ids os) (subst (λ z. EndsWith z (zs ++ ops_ids os)) (sym (last_or (list_at lists a.1) other)) (ops_end other zs w (list_at lists a.1) os s.0.1)) xs rs s.1)

  op_end : (k : ℕ) (o : Op) → SpellsOp slots lists k o → (rest : List ℕ) × (ids o ≡ (row_at slots k).head.id ∷ rest) × EndsWith (last_in lists None (row_at slots k).shapes) rest
  op_end k (op h rs) s = (regions_ids rs, ap (λ z. z.id ∷ regions_ids rs) (sym s.1.0), regions_end None [] refl (row_at slots k).shapes rs s.1.1)

module _ (a : Inside) (w : Whole a) (x k : ℕ) (ek : Some k ≡ live_slot (rows_in a) (keys_in a) x) where
  abbrev t : Op
  t = a.represented.0

  here : Found (rows_in a) x k
  here = found (rows_in a) (keys_in a) a.sibs a.root t w.right a.represented.1 x k (sym ek)

  own : (o : Op) × ((find x a.represented.0 ≡ Some o) × SpellsOp (rows_in a) a.sibs.lists k o)
  own = found_op (rows_in a) (keys_in a) a.sibs a.root t w.right a.represented.1 x k here

  end : (rest : List ℕ) × (ids own.0 ≡ (row_at (rows_in a) k).head.id ∷ rest) × EndsWith (rows_in a) a.sibs.lists (last_in a.sibs.lists None (row_at (rows_in a) k).shapes) rest
  end = op_end (rows_in a) a.sibs.lists k own.0 own.1.1

  pub alone : None ≡ last_in a.sibs.lists None (row_at (rows_in a) k).shapes → ids_in (find x a.represented.0) ≡ x ∷ []
  alone n =
      let none : end.0 ≡ [] = subst (λ z. EndsWith (rows_in a) a.sibs.lists z end.0) (sym n) end.2 in
      ap ids_in own.1.0 ∙ end.1 ∙ (λ i. here.id i ∷ none i)

  pub last_stands : (q : ℕ) → Some q ≡ last_in a.sibs.lists None (row_at (rows_in a) k).shapes → IsLastIn x (row_at (rows_in a) q).head.id a.represented.0
  last_stands q e =
      let e0 = subst (λ z. EndsWith (rows_in a) a.sibs.lists z end.0) (sym e) end.2 in
      let live : Live (rows_in a) q = live_of (rows_in a) a.sibs.lists q e0.1 e0.2 in
      let y = (row_at (rows_in a) q).head.id in
      let f = found_op (rows_in a) (keys_in a) a.sibs a.root t w.right a.represented.1 y q (found (rows_in a) (keys_in a) a.sibs a.root t w.right a.represented.1 y q (slot_of_live (rows_in a) (keys_in a) a.sibs a.root t w.right a.represented.1 y q live refl)) in
      let same : f.0 ≡ e0.1 = SpellsOp-one (rows_in a) a.sibs.lists q f.0 e0.1 f.1.1 e0.2 in
      record {
        there = w.right.covers q live;
        preceding = (row_at (rows_in a) k).head.id;
        before = e0.0;
        is = ap ids_in own.1.0 ∙ end.1 ∙ ap (λ z. (row_at (rows_in a) k).head.id ∷ z) (e0.3 ∙ ap (λ z. e0.0 ++ z) (sym (ap ids_in f.1.0 ∙ ap ids same)));
      }

-- steps of the walk
pub step_less : (xs ys zs : List ℕ) (n : ℕ) → xs ≡ n ∷ (ys ++ zs) → length zs < length xs
step_less xs ys zs n e = omega (arith, ap length e, length-append ys zs)
