-- The uses of values after all uses of one were replaced by another.
use Rattle.std.proofs.Common.{◌≡◌, refl, ap, sym, ◌∙◌, ℕ, ◌+◌, Bool, true, false, cond, ◌&&◌, eqb, List, [], ◌∷◌, ◌++◌, length, map, true≢false, arith, length-append, eq-eqb}
use Rattle.std.proofs.lemmas.Bool.{eqb-true, and_parts}
use Rattle.ir_tree.specs.declared.value.Value.{Value}
use Rattle.ir_tree.specs.declared.value.Value.TheVariants.{Result, Arg}
use Rattle.ir_tree.specs.Tree.{OpOf, op, RegionsOf, no_regions, region, RegionOf, empty, block, OpsOf, no_ops, next}
use Rattle.ir_tree.specs.Uses.{same_value, operand_uses, uses_of, regions_uses, region_uses, ops_uses}
use Rattle.ir_tree.specs.Edits.{regions_each_head, region_each_head, ops_each_head, put_value, put_values, with_value_replaced}

-- equal values are one
pub same_value_refl : (v : Value) → same_value v v ≡ true
same_value_refl (Result x k) = λ i. eq-eqb x x refl i && eq-eqb k k refl i
same_value_refl (Arg x r k) = λ i. eq-eqb x x refl i && (eq-eqb r r refl i && eq-eqb k k refl i)

pub same_value_true : (v w : Value) → same_value v w ≡ true → v ≡ w
same_value_true (Result x k) (Result y l) h = let b = and_parts (eqb x y) (eqb k l) h in λ i. Result (eqb-true x y b.0 i) (eqb-true k l b.1 i)
same_value_true (Result x k) (Arg y s l) h = absurd (true≢false (sym h))
same_value_true (Arg x r k) (Result y l) h = absurd (true≢false (sym h))
same_value_true (Arg x r k) (Arg y s l) h =
    let b = and_parts (eqb x y) (eqb r s && eqb k l) h in
    let c = and_parts (eqb r s) (eqb k l) b.1 in
    λ i. Arg (eqb-true x y b.0 i) (eqb-true r s c.0 i) (eqb-true k l c.1 i)

module _ (old new : Value) where
  -- the old value has no uses left
  module _ (differ : same_value old new ≡ false) where
    none_step : (x k : ℕ) (w : Value) (rest : List (ℕ × ℕ)) → rest ≡ [] → (b : Bool) → same_value old w ≡ b → cond (same_value old (cond (same_value old w) new w)) ((x, k) ∷ rest) rest ≡ []
    none_step x k w rest none true e = ap (λ b. cond (same_value old (cond b new w)) ((x, k) ∷ rest) rest) e ∙ ap (λ b. cond b ((x, k) ∷ rest) rest) differ ∙ none
    none_step x k w rest none false e = ap (λ b. cond (same_value old (cond b new w)) ((x, k) ∷ rest) rest) e ∙ ap (λ b. cond b ((x, k) ∷ rest) rest) e ∙ none

    none_here : (x k : ℕ) (ws : List Value) → operand_uses old x k (map (put_value old new) ws) ≡ []
    none_here x k [] = refl
    none_here x k (w ∷ ws) = none_step x k w (operand_uses old x (k + 1) (map (put_value old new) ws)) (none_here x (k + 1) ws) (same_value old w) refl

    module _ {N T A : Type 0} where
      mutual
        pub old_unused : (t : OpOf N T A) → uses_of old (with_value_replaced old new t) ≡ []
        old_unused (op h rs) = λ i. none_here h.id 0 h.operands i ++ regions_old_unused rs i

        regions_old_unused : (rs : RegionsOf N T A) → regions_uses old (regions_each_head (put_values old new) rs) ≡ []
        regions_old_unused no_regions = refl
        regions_old_unused (region r rs) = λ i. region_old_unused r i ++ regions_old_unused rs i

        region_old_unused : (r : RegionOf N T A) → region_uses old (region_each_head (put_values old new) r) ≡ []
        region_old_unused empty = refl
        region_old_unused (block args os) = ops_old_unused os

        ops_old_unused : (os : OpsOf N T A) → ops_uses old (ops_each_head (put_values old new) os) ≡ []
        ops_old_unused no_ops = refl
        ops_old_unused (next o os) = λ i. old_unused o i ++ ops_old_unused os i

  -- a third value keeps its uses
  module _ (v : Value) (not_old : same_value v old ≡ false) (not_new : same_value v new ≡ false) where
    same_here : (x k : ℕ) (ws : List Value) → operand_uses v x k (map (put_value old new) ws) ≡ operand_uses v x k ws
    same_here x k [] = refl
    same_here x k (w ∷ ws) = (λ i. cond (reported (same_value old w) refl i) ((x, k) ∷ same_here x (k + 1) ws i) (same_here x (k + 1) ws i))
      where
        reported : (b : Bool) → same_value old w ≡ b → same_value v (cond (same_value old w) new w) ≡ same_value v w
        reported true e = ap (λ b. same_value v (cond b new w)) e ∙ not_new ∙ sym not_old ∙ ap (same_value v) (same_value_true old w e)
        reported false e = ap (λ b. same_value v (cond b new w)) e

    module _ {N T A : Type 0} where
      mutual
        pub others_stay : (t : OpOf N T A) → uses_of v (with_value_replaced old new t) ≡ uses_of v t
        others_stay (op h rs) = λ i. same_here h.id 0 h.operands i ++ regions_others_stay rs i

        regions_others_stay : (rs : RegionsOf N T A) → regions_uses v (regions_each_head (put_values old new) rs) ≡ regions_uses v rs
        regions_others_stay no_regions = refl
        regions_others_stay (region r rs) = λ i. region_others_stay r i ++ regions_others_stay rs i

        region_others_stay : (r : RegionOf N T A) → region_uses v (region_each_head (put_values old new) r) ≡ region_uses v r
        region_others_stay empty = refl
        region_others_stay (block args os) = ops_others_stay os

        ops_others_stay : (os : OpsOf N T A) → ops_uses v (ops_each_head (put_values old new) os) ≡ ops_uses v os
        ops_others_stay no_ops = refl
        ops_others_stay (next o os) = λ i. others_stay o i ++ ops_others_stay os i

  -- the new value has its uses and those of the old value
  module _ (differ : same_value old new ≡ false) where
    turned : (v w : Value) → same_value v w ≡ same_value w v
    turned v w = tell (same_value v w) (same_value w v) refl refl
      where
        tell : (a b : Bool) → same_value v w ≡ a → same_value w v ≡ b → same_value v w ≡ same_value w v
        tell true b p q = p ∙ sym (ap (same_value w) (same_value_true v w p) ∙ same_value_refl w)
        tell false true p q = ap (same_value v) (same_value_true w v q) ∙ same_value_refl v ∙ sym q
        tell false false p q = p ∙ sym q

    kept : (x k : ℕ) (us os ns : List (ℕ × ℕ)) → length us ≡ length os + length ns → (c : Bool) → length (cond c ((x, k) ∷ us) us) ≡ length os + length (cond c ((x, k) ∷ ns) ns)
    kept x k us os ns rest true = omega (arith, rest)
    kept x k us os ns rest false = rest

    gained : (x k : ℕ) (us os ns : List (ℕ × ℕ)) → length us ≡ length os + length ns → length ((x, k) ∷ us) ≡ length ((x, k) ∷ os) + length ns
    gained x k us os ns rest = omega (arith, rest)

    more_step : (x k : ℕ) (w : Value) (us os ns : List (ℕ × ℕ)) → length us ≡ length os + length ns → (b : Bool) → same_value old w ≡ b
        → length (cond (same_value new (cond (same_value old w) new w)) ((x, k) ∷ us) us) ≡ length (cond (same_value old w) ((x, k) ∷ os) os) + length (cond (same_value new w) ((x, k) ∷ ns) ns)
    more_step x k w us os ns rest true e =
        let no : same_value new w ≡ false = ap (same_value new) (sym (same_value_true old w e)) ∙ turned new old ∙ differ in
        (λ i. length (cond (same_value new (cond (e i) new w)) ((x, k) ∷ us) us)) ∙ ap (λ b. length (cond b ((x, k) ∷ us) us)) (same_value_refl new)
        ∙ gained x k us os ns rest
        ∙ sym (λ i. length (cond (e i) ((x, k) ∷ os) os) + length (cond (no i) ((x, k) ∷ ns) ns))
    more_step x k w us os ns rest false e =
        (λ i. length (cond (same_value new (cond (e i) new w)) ((x, k) ∷ us) us))
        ∙ kept x k us os ns rest (same_value new w)
        ∙ sym (λ i. length (cond (e i) ((x, k) ∷ os) os) + length (cond (same_value new w) ((x, k) ∷ ns) ns))

    more_here : (x k : ℕ) (ws : List Value) → length (operand_uses new x k (map (put_value old new) ws)) ≡ length (operand_uses old x k ws) + length (operand_uses new x k ws)
    more_here x k [] = omega arith
    more_here x k (w ∷ ws) = more_step x k w _ (operand_uses old x (k + 1) ws) (operand_uses new x (k + 1) ws) (more_here x (k + 1) ws) (same_value old w) refl

    joined : {X : Type 0} (ls bs cs ds es fs : List X) → length ls ≡ length bs + length cs → length ds ≡ length es + length fs → length (ls ++ ds) ≡ length (bs ++ es) + length (cs ++ fs)
    joined ls bs cs ds es fs p q = omega (arith, length-append ls ds, length-append bs es, length-append cs fs)

    module _ {N T A : Type 0} where
      mutual
        pub new_gains : (t : OpOf N T A) → length (uses_of new (with_value_replaced old new t)) ≡ length (uses_of old t) + length (uses_of new t)
        new_gains (op h rs) = joined _ _ _ _ _ _ (more_here h.id 0 h.operands) (regions_new_gains rs)

        regions_new_gains : (rs : RegionsOf N T A) → length (regions_uses new (regions_each_head (put_values old new) rs)) ≡ length (regions_uses old rs) + length (regions_uses new rs)
        regions_new_gains no_regions = omega arith
        regions_new_gains (region r rs) = joined _ _ _ _ _ _ (region_new_gains r) (regions_new_gains rs)

        region_new_gains : (r : RegionOf N T A) → length (region_uses new (region_each_head (put_values old new) r)) ≡ length (region_uses old r) + length (region_uses new r)
        region_new_gains empty = omega arith
        region_new_gains (block args os) = ops_new_gains os

        ops_new_gains : (os : OpsOf N T A) → length (ops_uses new (ops_each_head (put_values old new) os)) ≡ length (ops_uses old os) + length (ops_uses new os)
        ops_new_gains no_ops = omega arith
        ops_new_gains (next o os) = joined _ _ _ _ _ _ (new_gains o) (ops_new_gains os)
