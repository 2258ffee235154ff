-- The uses of a tree, split into those by one operation and those by others.
use Rattle.std.proofs.Common.{◌≡◌, refl, ap, sym, ◌∙◌, subst, ℕ, Bool, true, false, cond, not, eqb, eqb-true, eq-eqb, List, [], ◌∷◌, ◌++◌, map, Some}
use Rattle.std.specs.Prelude.{option_map}
use Rattle.std.specs.List.{IsDistinct, AllByRecursion}
use Rattle.std.proofs.lemmas.Map.Keys.{IsDistinct-head, IsDistinct-tail}
use Rattle.ir_event.specs.trees.Tree.{HeadOf, OpOf, head}
use Rattle.ir_event.specs.trees.Ids.{HasDistinctIds, find}
use Rattle.ir_event.specs.Heads.{heads}
use Rattle.ir_event.proofs.Flat.{first_head, heads_ids, found_head}
use Rattle.listeners.specs.declared.key.Use.{Use}
use Rattle.listeners.specs.Uses.{operand_uses, uses_in, in_order}
use Rattle.listeners.specs.Others.{is_other, others}
use Rattle.listeners.proofs.Cutting.{moved_preceding}
use Rattle.listeners.proofs.Others.{after_alike, only_append, own_in, own_out}
use Rattle.listeners.proofs.Places.{Replaced, uses_at, uses_by_heads}
use Rattle.ir_event.proofs.of_types.Sorting.{flips_eq}

module _ {N T A : Type 0} (x : ℕ) where
  none_there : (hs : List (HeadOf N T A)) → AllByRecursion (λ z. eqb x z ≡ false) (map (λ (h : HeadOf N T A). h.id) hs) → others x (uses_at hs) ≡ uses_at hs
  none_there [] a = refl
  none_there (h ∷ hs) a = only_append (is_other x) (operand_uses h.id 0 h.operands) (uses_at hs) ∙ λ i. own_in x h.id 0 h.operands a.0 i ++ none_there hs a.1 i

  split_heads : (g : HeadOf N T A) (hs : List (HeadOf N T A)) → IsDistinct eqb (map (λ (h : HeadOf N T A). h.id) hs) → first_head x hs ≡ Some g
      → in_order (uses_at hs) ≡ in_order (operand_uses x 0 g.operands ++ others x (uses_at hs))
  split_heads g [] d e = absurd cc
  split_heads g (h ∷ hs) d e = go (λ first. split_heads g hs (IsDistinct-tail eqb h.id (map (λ (h : HeadOf N T A). h.id) hs) d) first) (eqb h.id x) refl
    where
      go : (first_head x hs ≡ Some g → in_order (uses_at hs) ≡ in_order (operand_uses x 0 g.operands ++ others x (uses_at hs))) → (b : Bool) → eqb h.id x ≡ b
          → in_order (uses_at (h ∷ hs)) ≡ in_order (operand_uses x 0 g.operands ++ others x (uses_at (h ∷ hs)))
      go later true is =
          let same : Some h ≡ Some g = sym (ap (λ b. cond b (Some h) (first_head x hs)) is) ∙ e in
          let one : h ≡ g = cc in
          let id : h.id ≡ x = eqb-true h.id x is in
          let apart : AllByRecursion (λ z. eqb x z ≡ false) (map (λ (h : HeadOf N T A). h.id) hs) =
          subst (λ y. AllByRecursion (λ z. eqb y z ≡ false) (map (λ (h : HeadOf N T A). h.id) hs)) id (IsDistinct-head eqb h.id (map (λ (h : HeadOf N T A). h.id) hs) d) in
          let out : others x (operand_uses h.id 0 h.operands) ≡ [] = ap (λ y. others x (operand_uses y 0 h.operands)) id ∙ own_out x 0 h.operands in
          let left : others x (uses_at (h ∷ hs)) ≡ uses_at hs = only_append (is_other x) (operand_uses h.id 0 h.operands) (uses_at hs) ∙ λ i. out i ++ none_there hs apart i in
          λ i. in_order (operand_uses (id i) 0 (one i).operands ++ sym left i)
      go later false is =
          let first : first_head x hs ≡ Some g = sym (ap (λ b. cond b (Some h) (first_head x hs)) is) ∙ e in
          let here : List Use = operand_uses h.id 0 h.operands in
          let own : List Use = operand_uses x 0 g.operands in
          after_alike here (uses_at hs) (own ++ others x (uses_at hs)) (later first)
          ∙ moved_preceding here own (others x (uses_at hs))
          ∙ ap (λ l. in_order (own ++ l)) (sym (only_append (is_other x) here (uses_at hs) ∙ ap (λ l. l ++ others x (uses_at hs)) (own_in x h.id 0 h.operands (flips_eq x h.id ∙ is))))

  -- the uses of a tree are those of an operation's operands and those by the others
  pub split_tree : (t o : OpOf N T A) → HasDistinctIds t → find x t ≡ Some o → in_order (uses_in t) ≡ in_order (operand_uses x 0 (head o).operands ++ others x (uses_in t))
  split_tree t o d found =
      let first : first_head x (heads t) ≡ Some (head o) = sym (found_head x t) ∙ ap (option_map (λ p. head p)) found in
      let apart : IsDistinct eqb (map (λ (h : HeadOf N T A). h.id) (heads t)) = subst (IsDistinct eqb) (sym (heads_ids t)) d in
      ap in_order (uses_by_heads t)
      ∙ split_heads (head o) (heads t) apart first
      ∙ ap (λ l. in_order (operand_uses x 0 (head o).operands ++ others x l)) (sym (uses_by_heads t))

-- if one use of an operation changes, the uses by others don't
pub replaced_others : (x : ℕ) (u v : Use) (us vs : List Use) → u.user ≡ x → v.user ≡ x → Replaced u v us vs → others x us ≡ others x vs
replaced_others x u v us vs a b r =
    ap (others x) r.was
    ∙ only_append (is_other x) r.preceding (u ∷ r.back)
    ∙ ap (λ l. others x r.preceding ++ l) (left u a r.back ∙ sym (left v b r.back))
    ∙ sym (only_append (is_other x) r.preceding (v ∷ r.back))
    ∙ sym (ap (others x) r.is)
  where
    left : (u : Use) → u.user ≡ x → (ws : List Use) → others x (u ∷ ws) ≡ others x ws
    left u e ws = ap (λ b. cond (not b) (u ∷ others x ws) (others x ws)) (eq-eqb x u.user (sym e))
