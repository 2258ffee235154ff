-- The remaining uses of a value after some of its uses were set to another value.
use Rattle.std.proofs.Common.{◌≡◌, refl, ap, sym, ◌∙◌, subst, ℕ, suc, ◌+◌, Bool, true, false, cond, eqb, eq-eqb, List, [], ◌∷◌, ◌++◌, map, inl, inr, arith}
use Rattle.std.specs.Prelude.{slice_set}
use Rattle.std.specs.List.{IsDistinct}
use Rattle.std.proofs.lemmas.Map.Keys.{IsDistinct-tail}
use Rattle.ir_event.specs.trees.declared.value.Value.{Value}
use Rattle.ir_event.specs.trees.Tree.{HeadOf, OpOf, op, head}
use Rattle.ir_event.specs.trees.Ids.{HasDistinctIds}
use Rattle.ir_event.specs.trees.Uses.{same_value, operand_uses, uses_of}
use Rattle.ir_event.specs.trees.Edits.{each_head, at, put_operand, with_operand}
use Rattle.ir_event.proofs.of_trees.Heads.{head_ids, alike_operand}
use Rattle.ir_event.specs.tree_laws.Members.{In}
use Rattle.ir_event.specs.tree_laws.Stands.{OpWithPathOf, op_with_path_id, stands, gather, edit_stand}
use Rattle.ir_event.proofs.of_tree_laws.Listed.{in_parts}
use Rattle.ir_event.proofs.of_tree_laws.Readings.{stands_ids, stands_uses}
use Rattle.ir_event.proofs.of_tree_laws.Heads.{each_stands}
use Rattle.rewriter_machine.specs.Replacing.{all_set}
use Rattle.rewriter_machine.proofs.Setting.{apart}
use Rattle.ir_event.proofs.of_trees.Facts.{head_each}
use Rattle.ir_event.proofs.of_tree_laws.Nested.{unequal}

pub gather_map : {X Y Z : Type 0} (f : Y → List Z) (g : X → Y) (xs : List X) → gather f (map g xs) ≡ gather (λ x. f (g x)) xs
gather_map f g [] = refl
gather_map f g (x ∷ xs) = ap (λ l. f (g x) ++ l) (gather_map f g xs)

pub gather_same : {X Y : Type 0} (f g : X → List Y) (xs : List X) → ((x : X) → In x xs → f x ≡ g x) → gather f xs ≡ gather g xs
gather_same f g [] h = refl
gather_same f g (x ∷ xs) h = λ i. h x (inl refl) i ++ gather_same f g xs (λ y m. h y (inr m)) i

pub of_gather : {X Y : Type 0} (f : X → List Y) (y : Y) (xs : List X) → In y (gather f xs) → (x : X) × In x xs × In y (f x)
of_gather f y [] h = absurd h
of_gather f y (x ∷ xs) h = elim (in_parts y (f x) (gather f xs) h) [
  | inl k ↦ (x, inl refl, k)
  | inr k ↦ let w = of_gather f y xs k in (w.0, inr w.1, w.2)
]

one_first : (a b : ℕ × ℕ) (xs ys : List (ℕ × ℕ)) → a ∷ xs ≡ b ∷ ys → (a ≡ b) × (xs ≡ ys)
one_first a b xs ys e = (cc, cc)

module _ (old : Value) where
  -- the users
  pub user : (x k : ℕ) (ws : List Value) (u : ℕ × ℕ) → In u (operand_uses old x k ws) → u.0 ≡ x
  user x k [] u h = absurd h
  user x k (w ∷ ws) u h = go (same_value old w) h (user x (k + 1) ws u)
    where
      go : (b : Bool) → In u (cond b ((x, k) ∷ operand_uses old x (k + 1) ws) (operand_uses old x (k + 1) ws)) → (In u (operand_uses old x (k + 1) ws) → u.0 ≡ x) → u.0 ≡ x
      go true (inl m) f = ap (λ z. z.0) m
      go true (inr m) f = f m
      go false m f = f m

  module _ (new : Value) (differ : same_value old new ≡ false) where
    -- the first use of an operation is set
    one_gone : (x k j : ℕ) (ws : List Value) (rest : List (ℕ × ℕ)) → operand_uses old x k ws ≡ (x, j) ∷ rest → (i : ℕ) × (j ≡ k + i) × (operand_uses old x k (slice_set ws i new) ≡ rest)
    one_gone x k j [] rest e = absurd cc
    one_gone x k j (w ∷ ws) rest e = go (same_value old w) refl e (one_gone x (k + 1) j ws rest)
      where
        go : (b : Bool) → same_value old w ≡ b → cond b ((x, k) ∷ operand_uses old x (k + 1) ws) (operand_uses old x (k + 1) ws) ≡ (x, j) ∷ rest
            → (operand_uses old x (k + 1) ws ≡ (x, j) ∷ rest → (i : ℕ) × (j ≡ k + 1 + i) × (operand_uses old x (k + 1) (slice_set ws i new) ≡ rest))
            → (i : ℕ) × (j ≡ k + i) × (operand_uses old x k (slice_set (w ∷ ws) i new) ≡ rest)
        go true q h f =
            let r = one_first (x, k) (x, j) (operand_uses old x (k + 1) ws) rest h in
            let same : k ≡ j = ap (λ z. z.1) r.0 in
            (0, omega (arith, same), ap (λ b. cond b ((x, k) ∷ operand_uses old x (k + 1) ws) (operand_uses old x (k + 1) ws)) differ ∙ r.1)
        go false q h f =
            let r = f h in
            let n = r.1 in
            (suc r.0, omega (arith, n), ap (λ b. cond b ((x, k) ∷ operand_uses old x (k + 1) (slice_set ws r.0 new)) (operand_uses old x (k + 1) (slice_set ws r.0 new))) q ∙ r.2)

    module _ {N T A : Type 0} where
      abbrev pub uses_here : OpWithPathOf N T A → List (ℕ × ℕ)
      uses_here s = operand_uses old (op_with_path_id s) 0 (head s.here).operands

      -- the uses in an operation with an operand set
      abbrev pub uses_then : ℕ × ℕ → OpWithPathOf N T A → List (ℕ × ℕ)
      uses_then u s = operand_uses old (op_with_path_id s) 0 (at u.0 (put_operand u.1 new) (head s.here)).operands

      pub elsewhere : (u : ℕ × ℕ) (s : OpWithPathOf N T A) → eqb (op_with_path_id s) u.0 ≡ false → uses_then u s ≡ uses_here s
      elsewhere u s e = ap (λ b. operand_uses old (op_with_path_id s) 0 (cond b (put_operand u.1 new (head s.here)) (head s.here)).operands) e

      first_gone : (u : ℕ × ℕ) (vs : List (ℕ × ℕ)) (ss : List (OpWithPathOf N T A)) → IsDistinct eqb (map (λ (s : OpWithPathOf N T A). op_with_path_id s) ss) → gather uses_here ss ≡ u ∷ vs → gather (uses_then u) ss ≡ vs
      first_gone u vs [] d e = absurd cc
      first_gone u vs (s ∷ ss) d e = go (uses_here s) refl e (first_gone u vs ss (IsDistinct-tail eqb (op_with_path_id s) (map (λ (s : OpWithPathOf N T A). op_with_path_id s) ss) d))
        where
          go : (l : List (ℕ × ℕ)) → uses_here s ≡ l → l ++ gather uses_here ss ≡ u ∷ vs → (gather uses_here ss ≡ u ∷ vs → gather (uses_then u) ss ≡ vs) → gather (uses_then u) (s ∷ ss) ≡ vs
          go [] q h f =
              let w = of_gather uses_here u ss (subst (In u) (sym h) (inl refl)) in
              let id : u.0 ≡ op_with_path_id w.0 = user (op_with_path_id w.0) 0 (head w.0.here).operands u w.2 in
              let other : eqb (op_with_path_id s) u.0 ≡ false = ap (eqb (op_with_path_id s)) id ∙ unequal (op_with_path_id w.0) (op_with_path_id s) (apart (op_with_path_id s) ss d w.0 w.1) in
              (λ i. (elsewhere u s other ∙ q) i ++ f h i)
          go (v ∷ l) q h f =
              let b = one_first v u (l ++ gather uses_here ss) vs h in
              let id : v.0 ≡ op_with_path_id s = user (op_with_path_id s) 0 (head s.here).operands v (subst (In v) (sym q) (inl refl)) in
              let r = one_gone (op_with_path_id s) 0 v.1 (head s.here).operands l (q ∙ λ i. (id i, v.1) ∷ l) in
              let there : v.1 ≡ r.0 = (let n = r.1 in omega (arith, n)) in
              let here : uses_then v s ≡ l =
              ap (λ b. operand_uses old (op_with_path_id s) 0 (cond b (put_operand v.1 new (head s.here)) (head s.here)).operands) (eq-eqb (op_with_path_id s) v.0 (sym id))
              ∙ ap (λ k. operand_uses old (op_with_path_id s) 0 (slice_set (head s.here).operands k new)) there ∙ r.2 in
              let others : gather (uses_then v) ss ≡ gather uses_here ss = gather_same (uses_then v) uses_here ss (λ z m. elsewhere v z (ap (eqb (op_with_path_id z)) id ∙ apart (op_with_path_id s) ss d z m)) in
              subst (λ z. gather (uses_then z) (s ∷ ss) ≡ vs) b.0 ((λ i. here i ++ others i) ∙ b.1)

      same_id : (u : ℕ × ℕ) (h : HeadOf N T A) → (at u.0 (put_operand u.1 new) h).id ≡ h.id
      same_id u h = elim (eqb h.id u.0) as (λ b. (cond b (put_operand u.1 new h) h).id ≡ h.id) [ true ↦ refl | false ↦ refl ]

      pub uses_set : (u : ℕ × ℕ) (t : OpOf N T A) → uses_of old (with_operand u.0 u.1 new t) ≡ gather (uses_then u) (stands [] t)
      uses_set u t =
          sym (stands_uses old [] (with_operand u.0 u.1 new t))
          ∙ ap (gather uses_here) (each_stands (at u.0 (put_operand u.1 new)) [] t)
          ∙ gather_map uses_here (edit_stand (at u.0 (put_operand u.1 new))) (stands [] t)
          ∙ gather_same _ (uses_then u) (stands [] t) (λ s m. (λ i. operand_uses old (head_each (at u.0 (put_operand u.1 new)) s.here i).id 0 (head_each (at u.0 (put_operand u.1 new)) s.here i).operands)
          ∙ ap (λ x. operand_uses old x 0 (at u.0 (put_operand u.1 new) (head s.here)).operands) (same_id u (head s.here)))

      one_left : (u : ℕ × ℕ) (vs : List (ℕ × ℕ)) (t : OpOf N T A) → HasDistinctIds t → uses_of old t ≡ u ∷ vs → uses_of old (with_operand u.0 u.1 new t) ≡ vs
      one_left u vs t d e = uses_set u t ∙ first_gone u vs (stands [] t) (subst (IsDistinct eqb) (sym (stands_ids [] t)) d) (stands_uses old [] t ∙ e)

      pub some_left : (us vs : List (ℕ × ℕ)) (t : OpOf N T A) → HasDistinctIds t → us ++ vs ≡ uses_of old t → uses_of old (all_set new us t) ≡ vs
      some_left [] vs t d e = sym e
      some_left (u ∷ us) vs t d e =
          some_left us vs (with_operand u.0 u.1 new t) (subst (IsDistinct eqb) (sym (head_ids (at u.0 (put_operand u.1 new)) (alike_operand u.0 u.1 new) t)) d) (sym (one_left u (us ++ vs) t d (sym e)))
