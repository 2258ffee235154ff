-- The uses of a tree after an operand is set.
use Rattle.std.proofs.Common.{◌≡◌, refl, ap, sym, ◌∙◌, subst, ℕ, zero, suc, ◌+◌, Bool, true, false, true≢false, cond, eqb, eqb-true, eq-eqb, List, [], ◌∷◌, ◌++◌, append_assoc, map, Some, slice_get, arith}
use Rattle.std.specs.Prelude.{option_map, slice_set}
use Rattle.std.specs.List.{IsDistinct, AllByRecursion}
use Rattle.std.proofs.lemmas.Map.Keys.{IsDistinct-head, IsDistinct-tail}
use Rattle.ir_event.specs.trees.declared.value.Value.{Value}
use Rattle.ir_event.specs.trees.Tree.{HeadOf, OpOf, op, RegionsOf, no_regions, region, RegionOf, empty, block, OpsOf, no_ops, next, head}
use Rattle.ir_event.specs.trees.Ids.{HasDistinctIds}
use Rattle.ir_event.specs.trees.Edits.{at, put_operand, with_operand}
use Rattle.ir_event.specs.trees.Maps.{map_tree, map_regions, map_region, map_ops}
use Rattle.ir_event.specs.tree_laws.Changes.{operand_at}
use Rattle.ir_event.specs.Heads.{heads, regions_heads, region_heads, ops_heads}
use Rattle.ir_event.proofs.Flat.{first_head, heads_ids, heads_each, found_head}
use Rattle.ir_event.proofs.Operands.{holder}
use Rattle.listeners.specs.declared.key.Use.{Use}
use Rattle.listeners.specs.Uses.{operand_uses, uses_in, regions_uses, region_uses, ops_uses}

-- the uses of a list of heads
abbrev pub uses_at : {N T A : Type 0} → List (HeadOf N T A) → List Use
uses_at [] = []
uses_at (h ∷ hs) = operand_uses h.id 0 h.operands ++ uses_at hs

-- the second list has v where the first has u
pub record Replaced (u v : Use) (us vs : List Use) : Type 0 where
  pub preceding : List Use
  pub back : List Use
  pub was : us ≡ preceding ++ u ∷ back
  pub is : vs ≡ preceding ++ v ∷ back

trailing : (u v : Use) (us vs ws : List Use) → Replaced u v us vs → Replaced u v (us ++ ws) (vs ++ ws)
trailing u v us vs ws r = record {
  preceding = r.preceding;
  back = r.back ++ ws;
  was = ap (λ l. l ++ ws) r.was ∙ append_assoc r.preceding (u ∷ r.back) ws;
  is = ap (λ l. l ++ ws) r.is ∙ append_assoc r.preceding (v ∷ r.back) ws;
}

before : (u v : Use) (ws us vs : List Use) → Replaced u v us vs → Replaced u v (ws ++ us) (ws ++ vs)
before u v ws us vs r = record {
  preceding = ws ++ r.preceding;
  back = r.back;
  was = ap (λ l. ws ++ l) r.was ∙ sym (append_assoc ws r.preceding (u ∷ r.back));
  is = ap (λ l. ws ++ l) r.is ∙ sym (append_assoc ws r.preceding (v ∷ r.back));
}

-- a use of a value
abbrev pub one_use : Value → ℕ → ℕ → Use
one_use v x k = record { value = v; user = x; operand = k }

-- an operand of a list of operands, numbered from n on
set_among : (x n k : ℕ) (old new : Value) (vs : List Value) → slice_get vs k ≡ Some old → Replaced (one_use old x (n + k)) (one_use new x (n + k)) (operand_uses x n vs) (operand_uses x n (slice_set vs k new))
set_among x n zero old new [] h = absurd cc
set_among x n (suc k) old new [] h = absurd cc
set_among x n zero old new (v ∷ vs) h =
    let e : v ≡ old = cc in
    let m : n ≡ n + 0 = omega arith in
    record { preceding = []; back = operand_uses x (n + 1) vs; was = λ i. one_use (e i) x (m i) ∷ operand_uses x (n + 1) vs; is = λ i. one_use new x (m i) ∷ operand_uses x (n + 1) vs }
set_among x n (suc k) old new (v ∷ vs) h =
    let m : (n + 1) + k ≡ n + suc k = omega arith in
    let r = set_among x (n + 1) k old new vs h in
    subst (λ j. Replaced (one_use old x j) (one_use new x j) (one_use v x n ∷ operand_uses x (n + 1) vs) (one_use v x n ∷ operand_uses x (n + 1) (slice_set vs k new))) m
    (before (one_use old x ((n + 1) + k)) (one_use new x ((n + 1) + k)) (one_use v x n ∷ []) (operand_uses x (n + 1) vs) (operand_uses x (n + 1) (slice_set vs k new)) r)

module _ {N T A : Type 0} where
  uses_joined : (hs gs : List (HeadOf N T A)) → uses_at (hs ++ gs) ≡ uses_at hs ++ uses_at gs
  uses_joined [] gs = refl
  uses_joined (h ∷ hs) gs = ap (λ l. operand_uses h.id 0 h.operands ++ l) (uses_joined hs gs) ∙ sym (append_assoc (operand_uses h.id 0 h.operands) (uses_at hs) (uses_at gs))

  mutual
    pub uses_by_heads : (t : OpOf N T A) → uses_in t ≡ uses_at (heads t)
    uses_by_heads (op h rs) = ap (λ l. operand_uses h.id 0 h.operands ++ l) (regions_by_heads rs)

    regions_by_heads : (rs : RegionsOf N T A) → regions_uses rs ≡ uses_at (regions_heads rs)
    regions_by_heads no_regions = refl
    regions_by_heads (region r rs) = (λ i. region_by_heads r i ++ regions_by_heads rs i) ∙ sym (uses_joined (region_heads r) (regions_heads rs))

    region_by_heads : (r : RegionOf N T A) → region_uses r ≡ uses_at (region_heads r)
    region_by_heads empty = refl
    region_by_heads (block args os) = ops_by_heads os

    ops_by_heads : (os : OpsOf N T A) → ops_uses os ≡ uses_at (ops_heads os)
    ops_by_heads no_ops = refl
    ops_by_heads (next o os) = (λ i. uses_by_heads o i ++ ops_by_heads os i) ∙ sym (uses_joined (heads o) (ops_heads os))

  module _ (x k : ℕ) (old new : Value) where
    abbrev f : HeadOf N T A → HeadOf N T A
    f = at x (put_operand k new)

    -- the heads of other operations don't change
    others : (y : ℕ) → eqb y x ≡ true → (hs : List (HeadOf N T A)) → AllByRecursion (λ z. eqb y z ≡ false) (map (λ (h : HeadOf N T A). h.id) hs) → map f hs ≡ hs
    others y e [] a = refl
    others y e (h ∷ hs) a = λ i. stays (eqb h.id x) refl i ∷ others y e hs a.1 i
      where
        stays : (b : Bool) → eqb h.id x ≡ b → f h ≡ h
        stays true is = absurd (true≢false (sym (eq-eqb y h.id (eqb-true y x e ∙ sym (eqb-true h.id x is))) ∙ a.0))
        stays false is = ap (λ b. cond b (put_operand k new h) h) is

    set_at_heads : (g : HeadOf N T A) (hs : List (HeadOf N T A)) → IsDistinct eqb (map (λ (h : HeadOf N T A). h.id) hs) → first_head x hs ≡ Some g → slice_get g.operands k ≡ Some old
        → Replaced (one_use old x k) (one_use new x k) (uses_at hs) (uses_at (map f hs))
    set_at_heads g [] d e has = absurd cc
    set_at_heads g (h ∷ hs) d e has = go (λ first. set_at_heads g hs (IsDistinct-tail eqb h.id (map (λ (h : HeadOf N T A). h.id) hs) d) first has) (others h.id) (eqb h.id x) refl
      where
        go : (first_head x hs ≡ Some g → Replaced (one_use old x k) (one_use new x k) (uses_at hs) (uses_at (map f hs)))
            → (eqb h.id x ≡ true → (gs : List (HeadOf N T A)) → AllByRecursion (λ z. eqb h.id z ≡ false) (map (λ (h : HeadOf N T A). h.id) gs) → map f gs ≡ gs)
            → (b : Bool) → eqb h.id x ≡ b → Replaced (one_use old x k) (one_use new x k) (uses_at (h ∷ hs)) (uses_at (map f (h ∷ hs)))
        go later rest true is =
            let same : Some h ≡ Some g = sym (ap (λ b. cond b (Some h) (first_head x hs)) is) ∙ e in
            let one : h ≡ g = cc in
            let here : slice_get h.operands k ≡ Some old = ap (λ (p : HeadOf N T A). slice_get p.operands k) one ∙ has in
            let id : h.id ≡ x = eqb-true h.id x is in
            let set : f h ≡ put_operand k new h = ap (λ b. cond b (put_operand k new h) h) is in
            let own : Replaced (one_use old h.id (0 + k)) (one_use new h.id (0 + k)) (operand_uses h.id 0 h.operands) (operand_uses h.id 0 (slice_set h.operands k new)) = set_among h.id 0 k old new h.operands here in
            let zeroed : 0 + k ≡ k = omega arith in
            let named : Replaced (one_use old x k) (one_use new x k) (operand_uses h.id 0 h.operands) (operand_uses h.id 0 (slice_set h.operands k new)) =
            subst (λ (p : ℕ × ℕ). Replaced (one_use old p.0 p.1) (one_use new p.0 p.1) (operand_uses h.id 0 h.operands) (operand_uses h.id 0 (slice_set h.operands k new))) (λ i. (id i, zeroed i)) own in
            let whole = trailing (one_use old x k) (one_use new x k) (operand_uses h.id 0 h.operands) (operand_uses h.id 0 (slice_set h.operands k new)) (uses_at hs) named in
            subst (Replaced (one_use old x k) (one_use new x k) (uses_at (h ∷ hs)))
            (λ i. operand_uses (sym set i).id 0 (sym set i).operands ++ uses_at (sym (rest is hs (IsDistinct-head eqb h.id (map (λ (h : HeadOf N T A). h.id) hs) d)) i)) whole
        go later rest false is =
            let first : first_head x hs ≡ Some g = sym (ap (λ b. cond b (Some h) (first_head x hs)) is) ∙ e in
            let set : f h ≡ h = ap (λ b. cond b (put_operand k new h) h) is in
            let whole = before (one_use old x k) (one_use new x k) (operand_uses h.id 0 h.operands) (uses_at hs) (uses_at (map f hs)) (later first) in
            subst (Replaced (one_use old x k) (one_use new x k) (uses_at (h ∷ hs))) (λ i. operand_uses (sym set i).id 0 (sym set i).operands ++ uses_at (map f hs)) whole

    -- if operand k of x is set, its use changes, and no other use
    pub set_uses : (t : OpOf N T A) → HasDistinctIds t → operand_at x k t ≡ Some old → Replaced (one_use old x k) (one_use new x k) (uses_in t) (uses_in (with_operand x k new t))
    set_uses t d e =
        let o = holder x k old new t e in
        let first : first_head x (heads t) ≡ Some (head o.here) = sym (found_head x t) ∙ ap (option_map (λ p. head p)) o.found in
        let apart : IsDistinct eqb (map (λ (h : HeadOf N T A). h.id) (heads t)) = subst (IsDistinct eqb) (sym (heads_ids t)) d in
        let at_heads = set_at_heads (head o.here) (heads t) apart first o.has in
        let after : uses_at (map f (heads t)) ≡ uses_in (with_operand x k new t) = ap uses_at (sym (heads_each f t)) ∙ sym (uses_by_heads (with_operand x k new t)) in
        subst (λ (p : List Use × List Use). Replaced (one_use old x k) (one_use new x k) p.0 p.1) (λ i. (sym (uses_by_heads t) i, after i)) at_heads

-- a mapped tree has the same uses
module _ {N T A M U B : Type 0} (f : N → M) (g : T → U) (h : A → B) where
  mutual
    pub mapped_uses : (t : OpOf N T A) → uses_in (map_tree f g h t) ≡ uses_in t
    mapped_uses (op x rs) = ap (λ l. operand_uses x.id 0 x.operands ++ l) (regions_mapped_uses rs)

    regions_mapped_uses : (rs : RegionsOf N T A) → regions_uses (map_regions f g h rs) ≡ regions_uses rs
    regions_mapped_uses no_regions = refl
    regions_mapped_uses (region r rs) = λ i. region_mapped_uses r i ++ regions_mapped_uses rs i

    region_mapped_uses : (r : RegionOf N T A) → region_uses (map_region f g h r) ≡ region_uses r
    region_mapped_uses empty = refl
    region_mapped_uses (block args os) = ops_mapped_uses os

    ops_mapped_uses : (os : OpsOf N T A) → ops_uses (map_ops f g h os) ≡ ops_uses os
    ops_mapped_uses no_ops = refl
    ops_mapped_uses (next o os) = λ i. mapped_uses o i ++ ops_mapped_uses os i
