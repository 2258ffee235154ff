-- The slot of an id, and the operation of the tree.
use Rattle.std.proofs.Common.{◌≡◌, ℕ, ◌<◌, List, [], ◌∷◌, refl, sym, ap, ◌∙◌, subst, length, Bool, true, false, cond, ⊎_elim, Option, Some, None, arith}
use Rattle.std.specs.Prelude.{is_some, map, option_map}
use Rattle.std.specs.Prelude.{Result, Ok, Err, nat_lt, if◌then◌else◌}
use Rattle.std.proofs.lemmas.Bool.Decides.{nat_tests}
use Rattle.ir_store_arena.specs.types.declared.refusal.Refusal.{Refusal}
use Rattle.ir_store_arena.specs.types.declared.refusal.Refusal.TheVariants.{NoSuchIndex}
use Rattle.ir_store_slots.specs.Plans.{operand_in, write_reason}
use Rattle.std.proofs.lemmas.Bool.{cases_Bool, false≢true, cases_lt, ltb-true}
use Rattle.std.proofs.lemmas.List.{get_or_past}
use Rattle.ir_store_lists.specs.Lists.{Lists}
use Rattle.ir_store_arena.specs.trees.Tree.{Op, op, Regions, no_regions, region, empty, block, head}
use Rattle.ir_store_arena.specs.trees.Ids.{has_id, find, first_of}
use Rattle.ir_store_slots.specs.Nodes.{node_of, regions_arguments}
use Rattle.ir_store_slots.specs.Rows.{node_row, Row, RegionShape, row_at, no_row, if_live, live_slot, held_in, bare, bare_regions}
use Rattle.ir_store_slots.specs.Spells.{SpellsOp, SpellsRegions}
use Rattle.ir_store_slots.specs.Right.{Live, Used, Right}
use Rattle.ir_store_slots.proofs.Mapped.{has_op}
use Rattle.ir_store_slots.proofs.Founds.{has_is, Spelt, find_spelt, not_found, has_live}
use Rattle.std.proofs.lemmas.Option.{cond_some, same_Some}

-- the slot k holds the operation x of the tree
pub record Found (slots : List Row) (x k : ℕ) : Type 0 where
  pub inside : k < length slots
  pub live : Live slots k
  pub id : (row_at slots k).head.id ≡ x

pub live_inside : (slots : List Row) (k : ℕ) → Live slots k → k < length slots
live_inside slots k l = ⊎_elim (λ z. z) (λ g. absurd (false≢true (sym (ap (λ z. z.live) (get_or_past slots k no_row g)) ∙ l.live))) (cases_lt k (length slots))

pub used_inside : (slots : List Row) (k : ℕ) → Used slots k → k < length slots
used_inside slots k l = ⊎_elim (λ z. z) (λ g. absurd (false≢true (sym (ap (λ z. z.used) (get_or_past slots k no_row g)) ∙ l.used))) (cases_lt k (length slots))

module _ (slots : List Row) (keys : ℕ → Option ℕ) (sibs : Lists) (root : ℕ) (t : Op) (r : Right slots keys sibs root t) (s : SpellsOp slots sibs.lists root t) where
  pub only : (x k : ℕ) → Live slots k → (row_at slots k).head.id ≡ x → (q : ℕ) → Live slots q → (row_at slots q).head.id ≡ x → q ≡ k
  only x k lk ek q lq eq = same_Some q k (sym (r.keyed q (r.live_used q lq)) ∙ ap keys (eq ∙ sym ek) ∙ r.keyed k (r.live_used k lk))

  -- the operation found under an id is in the tree
  pub found : (x k : ℕ) → live_slot slots keys x ≡ Some k → Found slots x k
  found x k e = go (keys x) refl e
    where
      go : (o : Option ℕ) → keys x ≡ o → if_live slots o ≡ Some k → Found slots x k
      go None f g = cc
      go (Some q) f g =
          let b = cond_some (row_at slots q).live q k g in
          let l : Live slots k = subst (Live slots) b.1 (record { live = b.0 }) in
          record { inside = live_inside slots k l; live = l; id = (r.known x k (f ∙ ap Some b.1)).id }

  pub slot_of_live : (x k : ℕ) → Live slots k → (row_at slots k).head.id ≡ x → live_slot slots keys x ≡ Some k
  slot_of_live x k l e = ap (if_live slots) (ap keys (sym e) ∙ r.keyed k (r.live_used k l)) ∙ rw l.live refl

  pub missing : (x : ℕ) → live_slot slots keys x ≡ None → has_op x t ≡ false
  missing x e = ⊎_elim
      (λ y. let w = has_live slots sibs.lists x root t s y in let z : None ≡ Some w.0 = sym e ∙ slot_of_live x w.0 w.1.0 w.1.1 in absurd cc)
      (λ n. n) (cases_Bool (has_op x t))

  pub there : (x k : ℕ) → Found slots x k → has_op x t ≡ true
  there x k f = subst (λ w. has_op w t ≡ true) f.id (has_is (row_at slots k).head.id t ∙ r.covers k f.live)

  pub in_tree_is : (x : ℕ) → is_some (live_slot slots keys x) ≡ has_id x t
  in_tree_is x = go (live_slot slots keys x) refl ∙ has_is x t
    where
      go : (o : Option ℕ) → live_slot slots keys x ≡ o → is_some o ≡ has_op x t
      go None e = sym (missing x e)
      go (Some k) e = sym (there x k (found x k e))

  -- the slot represents the operation found in the tree
  pub spelt : (x k : ℕ) → Found slots x k → Spelt slots sibs.lists k (find x t)
  spelt x k f = find_spelt slots sibs.lists x k (λ q l e. only x k f.live f.id q l e) root t s (there x k f)

  pub found_op : (x k : ℕ) → Found slots x k → (o : Op) × ((find x t ≡ Some o) × SpellsOp slots sibs.lists k o)
  found_op x k f = go (find x t) refl (spelt x k f)
    where
      go : (o : Option Op) → find x t ≡ o → Spelt slots sibs.lists k o → (o : Op) × ((find x t ≡ Some o) × SpellsOp slots sibs.lists k o)
      go None e s = absurd s
      go (Some o) e s = (o, (e, s))

  pub none_found : (x : ℕ) → live_slot slots keys x ≡ None → find x t ≡ None
  none_found x e = not_found slots sibs.lists x t (missing x e)

  -- the root's slot
  pub root_live : Live slots root
  root_live = go t s
    where
      go : (u : Op) → SpellsOp slots sibs.lists root u → Live slots root
      go (op h rs) w = record { live = w.0 }

  pub root_id : (row_at slots root).head.id ≡ (head t).id
  root_id = go t s
    where
      go : (u : Op) → SpellsOp slots sibs.lists root u → (row_at slots root).head.id ≡ (head u).id
      go (op h rs) w = ap (λ z. z.id) w.1.0

module _ (slots : List Row) (lists : List (List ℕ)) where
  arguments_spelt : (xs : List RegionShape) (rs : Regions) → SpellsRegions slots lists xs rs → map (option_map (λ a. a.0)) xs ≡ regions_arguments rs
  arguments_spelt [] no_regions s = refl
  arguments_spelt [] (region g rs) s = absurd s
  arguments_spelt (a ∷ xs) no_regions s = absurd s
  arguments_spelt (None ∷ xs) (region empty rs) s = ap (λ l. None ∷ l) (arguments_spelt xs rs s.1)
  arguments_spelt (None ∷ xs) (region (block args os) rs) s = absurd s.0
  arguments_spelt (Some a ∷ xs) (region empty rs) s = absurd s.0
  arguments_spelt (Some a ∷ xs) (region (block args os) rs) s = λ i. Some (s.0.0 i) ∷ arguments_spelt xs rs s.1 i

  pub node_spelt : (k : ℕ) (o : Op) → SpellsOp slots lists k o → node_row (row_at slots k) ≡ node_of o
  node_spelt k (op h rs) s = λ i. record { head = s.1.0 i; arguments = arguments_spelt (row_at slots k).shapes rs s.1.1 i }

pub bare_arguments : (xs : List RegionShape) → map (option_map (λ a. a.0)) xs ≡ regions_arguments (bare_regions xs)
bare_arguments [] = refl
bare_arguments (None ∷ xs) = ap (λ l. None ∷ l) (bare_arguments xs)
bare_arguments (Some a ∷ xs) = ap (λ l. Some a.0 ∷ l) (bare_arguments xs)

pub bare_node : (r : Row) → node_row r ≡ node_of (bare r)
bare_node r = λ i. record { head = r.head; arguments = bare_arguments r.shapes i }

-- the node of an operation of the module, or of a held one
module _ (slots : List Row) (keys : ℕ → Option ℕ) (sibs : Lists) (root : ℕ) (t : Op) (r : Right slots keys sibs root t) (s : SpellsOp slots sibs.lists root t) (x : ℕ) (m : Option Op) (em : m ≡ held_in slots (keys x)) where
  pub node_known : (o : Option ℕ) → keys x ≡ o → option_map (λ k. node_row (row_at slots k)) o ≡ option_map node_of (first_of (find x t) m)
  node_known None e =
      let n : find x t ≡ None = none_found slots keys sibs root t r s x (ap (if_live slots) e) in
      let h : m ≡ None = em ∙ ap (held_in slots) e in
      rw (n, h) refl
  node_known (Some k) e = ⊎_elim
      (λ l.
      let f = found slots keys sibs root t r s x k (ap (if_live slots) e ∙ rw l refl) in
      let o = found_op slots keys sibs root t r s x k f in
      rw o.1.0 (ap Some (node_spelt slots sibs.lists k o.0 o.1.1)))
      (λ l.
      let n : find x t ≡ None = none_found slots keys sibs root t r s x (ap (if_live slots) e ∙ rw l refl) in
      let h : m ≡ Some (bare (row_at slots k)) = em ∙ ap (held_in slots) e ∙ rw l refl in
      rw (n, h) (ap Some (bare_node (row_at slots k))))
      (cases_Bool (row_at slots k).live)

-- the operand was found, or the reason that it wasn't
module _ (slots : List Row) (keys : ℕ → Option ℕ) (sibs : Lists) (root : ℕ) (t : Op) (r : Right slots keys sibs root t) (s : SpellsOp slots sibs.lists root t) (x j : ℕ) where
  abbrev pub OperandFound : Result ℕ Refusal → Type 0
  OperandFound (Ok k) = (Some k ≡ live_slot slots keys x) × ((j < length (row_at slots k).head.operands) × (write_reason x j t ≡ None))
  OperandFound (Err e) = write_reason x j t ≡ Some e

  same_head : (k : ℕ) (o : Op) → SpellsOp slots sibs.lists k o → (row_at slots k).head ≡ head o
  same_head k (op h rs) w = w.1.0

  pub operand_found : (res : Result ℕ Refusal) → res ≡ operand_in slots j (live_slot slots keys x) → OperandFound res
  operand_found res e = subst OperandFound (sym e) (go (live_slot slots keys x) refl)
    where
      go : (o : Option ℕ) → live_slot slots keys x ≡ o → OperandFound (operand_in slots j o)
      go None f = rw (none_found slots keys sibs root t r s x f) refl
      go (Some k) f =
          let o = found_op slots keys sibs root t r s x k (found slots keys sibs root t r s x k f) in
          let same : (row_at slots k).head.operands ≡ (head o.0).operands = ap (λ z. z.operands) (same_head k o.0 o.1.1) in
          ⊎_elim
          (λ y.
          let z : nat_lt j (length (head o.0).operands) ≡ true = subst (λ l. nat_lt j (length l) ≡ true) same y in
          let why : write_reason x j t ≡ None = rw (o.1.0, z) refl in
          let w : OperandFound (Ok k) = (sym f, (ltb-true j (length (row_at slots k).head.operands) y, why)) in
          subst (λ c. OperandFound (if c then Ok k else Err NoSuchIndex)) (sym y) w)
          (λ y.
          let z : nat_lt j (length (head o.0).operands) ≡ false = subst (λ l. nat_lt j (length l) ≡ false) same y in
          let w : OperandFound (Err NoSuchIndex) = rw (o.1.0, z) refl in
          subst (λ c. OperandFound (if c then Ok k else Err NoSuchIndex)) (sym y) w)
          (cases_Bool (nat_lt j (length (row_at slots k).head.operands)))
