-- An operand that is set, and the undo.
use Rattle.std.proofs.Common.{◌≡◌, refl, ap, sym, ◌∙◌, subst, ℕ, zero, suc, Bool, true, false, cond, eqb, List, [], ◌∷◌, map, Option, Some, None, slice_get}
use Rattle.std.specs.Prelude.{option_map, option_and_then, slice_set}
use Rattle.std.specs.List.{IsDistinct, AllByRecursion}
use Rattle.ir_store.specs.trees.declared.value.Value.{Value}
use Rattle.ir_store.specs.trees.Tree.{HeadOf, OpOf, op, head}
use Rattle.ir_store.specs.trees.Ids.{HasDistinctIds, find}
use Rattle.ir_store.specs.trees.Edits.{each_head, at, put_operand, with_operand}
use Rattle.ir_store.proofs.of_trees.Heads.{alike_operand, head_find}
use Rattle.ir_store.specs.tree_laws.Changes.{operand_at}
use Rattle.ir_event.specs.Heads.{heads}
use Rattle.ir_event.proofs.Flat.{first_head, heads_ids, found_head, each_left, the_only}
use Rattle.ir_store.proofs.of_tree_laws.Entries.{each_twice}
use Rattle.ir_store.proofs.of_trees.Facts.{head_each}

-- an item is set, and set back
pub set_back : {X : Type 0} (xs : List X) (k : ℕ) (old new : X) → slice_get xs k ≡ Some old → slice_set (slice_set xs k new) k old ≡ xs
set_back [] zero old new h = refl
set_back [] (suc k) old new h = refl
set_back (x ∷ xs) zero old new h = let e : x ≡ old = cc in ap (λ y. y ∷ xs) (sym e)
set_back (x ∷ xs) (suc k) old new h = ap (λ l. x ∷ l) (set_back xs k old new h)

-- an item that was set has the new value
pub is_set : {X : Type 0} (xs : List X) (k : ℕ) (old new : X) → slice_get xs k ≡ Some old → slice_get (slice_set xs k new) k ≡ Some new
is_set [] zero old new h = absurd cc
is_set [] (suc k) old new h = absurd cc
is_set (x ∷ xs) zero old new h = refl
is_set (x ∷ xs) (suc k) old new h = is_set xs k old new h

-- the head of the operation that has the operand
pub record Holder {N T A : Type 0} (x k : ℕ) (old : Value) (t : OpOf N T A) : Type 0 where
  pub here : OpOf N T A
  pub found : find x t ≡ Some here
  pub has : slice_get (head here).operands k ≡ Some old

module _ {N T A : Type 0} (x k : ℕ) (old new : Value) where
  pub holder : (t : OpOf N T A) → operand_at x k t ≡ Some old → Holder x k old t
  holder t e = go (find x t) refl e
    where
      go : (o : Option (OpOf N T A)) → find x t ≡ o → option_and_then (λ o. slice_get (head o).operands k) o ≡ Some old → Holder x k old t
      go None f h = absurd cc
      go (Some o) f h = record { here = o; found = f; has = h }

  abbrev back_and_forth : HeadOf N T A → HeadOf N T A
  back_and_forth h = at x (put_operand k old) (at x (put_operand k new) h)

  stays : (h : HeadOf N T A) → (eqb h.id x ≡ true → slice_get h.operands k ≡ Some old) → back_and_forth h ≡ h
  stays h p = go (eqb h.id x) refl
    where
      go : (b : Bool) → eqb h.id x ≡ b → back_and_forth h ≡ h
      go true e =
          let once : at x (put_operand k new) h ≡ put_operand k new h = ap (λ b. cond b (put_operand k new h) h) e in
          let twice : at x (put_operand k old) (put_operand k new h) ≡ put_operand k old (put_operand k new h) = ap (λ b. cond b (put_operand k old (put_operand k new h)) (put_operand k new h)) e in
          ap (at x (put_operand k old)) once ∙ twice ∙ λ i. record h { operands = set_back h.operands k old new (p e) i }
      go false e = let once : at x (put_operand k new) h ≡ h = ap (λ b. cond b (put_operand k new h) h) e in ap (at x (put_operand k old)) once ∙ ap (λ b. cond b (put_operand k old h) h) e

  all_stay : (hs : List (HeadOf N T A)) → AllByRecursion (λ h. eqb h.id x ≡ true → slice_get h.operands k ≡ Some old) hs → AllByRecursion (λ h. back_and_forth h ≡ h) hs
  all_stay [] a = tt
  all_stay (h ∷ hs) a = (stays h a.0, all_stay hs a.1)

  -- setting operand k of x from old to new and back restores the tree
  pub undone : (t : OpOf N T A) → HasDistinctIds t → operand_at x k t ≡ Some old → with_operand x k old (with_operand x k new t) ≡ t
  undone t d e =
      let o = holder t e in
      let first : first_head x (heads t) ≡ Some (head o.here) = sym (found_head x t) ∙ ap (option_map (λ p. head p)) o.found in
      let apart : IsDistinct eqb (map (λ (h : HeadOf N T A). h.id) (heads t)) = subst (IsDistinct eqb) (sym (heads_ids t)) d in
      each_twice (at x (put_operand k new)) (at x (put_operand k old)) t
      ∙ each_left back_and_forth t (all_stay (heads t) (the_only (λ h. slice_get h.operands k ≡ Some old) x (head o.here) (heads t) apart first o.has))

  id_of_first : (g : HeadOf N T A) (hs : List (HeadOf N T A)) → first_head x hs ≡ Some g → eqb g.id x ≡ true
  id_of_first g [] e = absurd cc
  id_of_first g (h ∷ hs) e = go (id_of_first g hs) (eqb h.id x) refl
    where
      go : (first_head x hs ≡ Some g → eqb g.id x ≡ true) → (b : Bool) → eqb h.id x ≡ b → eqb g.id x ≡ true
      go later true is =
          let same : Some h ≡ Some g = sym (ap (λ b. cond b (Some h) (first_head x hs)) is) ∙ e in
          let one : h ≡ g = cc in
          subst (λ (k : HeadOf N T A). eqb k.id x ≡ true) one is
      go later false is = later (sym (ap (λ b. cond b (Some h) (first_head x hs)) is) ∙ e)

  -- operand k of x is new after it is set
  pub set_there : (t : OpOf N T A) → operand_at x k t ≡ Some old → operand_at x k (with_operand x k new t) ≡ Some new
  set_there t e =
      let o = holder t e in
      let first : first_head x (heads t) ≡ Some (head o.here) = sym (found_head x t) ∙ ap (option_map (λ p. head p)) o.found in
      let is : eqb (head o.here).id x ≡ true = id_of_first (head o.here) (heads t) first in
      let f : HeadOf N T A → HeadOf N T A = at x (put_operand k new) in
      ap (option_and_then (λ p. slice_get (head p).operands k)) (head_find f (alike_operand x k new) x t ∙ ap (option_map (each_head f)) o.found)
      ∙ ap (λ (h : HeadOf N T A). slice_get h.operands k) (head_each f o.here)
      ∙ ap (λ b. slice_get (cond b (put_operand k new (head o.here)) (head o.here)).operands k) is
      ∙ is_set (head o.here).operands k old new o.has
