-- The list of a tree's heads, as the tree changes.
use Rattle.std.proofs.Common.{◌≡◌, ℕ, ◌+◌, List, [], ◌∷◌, ◌++◌, Bool, true, false, true≢false, Option, Some, refl, sym, ap, ◌∙◌, subst, cond, eqb, eq-eqb, ◌&&◌, map, arith, inl, inr}
use Rattle.std.specs.Prelude.{nat_lt, not}
use Rattle.std.specs.List.{list_all}
use Rattle.std.proofs.lemmas.Bool.{cases_eq, eqb-true}
use Rattle.std.proofs.lemmas.List.{map-append}
use Rattle.ir_event.specs.trees.declared.value.Value.{Value}
use Rattle.ir_event.specs.trees.declared.value.Value.TheVariants.{Result, Arg}
use Rattle.ir_event.specs.trees.declared.place.Place.{Place}
use Rattle.ir_event.specs.trees.Tree.{HeadOf, OpOf, op, RegionsOf, no_regions, region, RegionOf, empty, block, OpsOf, no_ops, next, head}
use Rattle.ir_event.specs.trees.Ids.{find, HasDistinctIds}
use Rattle.ir_event.specs.trees.Uses.{same_value, operand_uses, uses_of}
use Rattle.ir_event.specs.trees.Frames.{owner_of}
use Rattle.ir_event.specs.trees.Maps.{map_head, map_tree, map_regions, map_region, map_ops}
use Rattle.ir_event.specs.trees.Edits.{each_head, regions_each_head, region_each_head, ops_each_head}
use Rattle.ir_event.specs.trees.Places.{place_of, without}
use Rattle.ir_event.specs.tree_laws.Members.{In}
use Rattle.ir_event.specs.tree_laws.Stands.{StepOf, OpWithPathOf, op_with_path_id, stands, regions_stands, region_stands, ops_stands, gather, place_in, left_stand, dropping}
use Rattle.ir_event.proofs.of_tree_laws.Listed.{gather-append}
use Rattle.ir_event.proofs.of_tree_laws.Readings.{step, stands_uses, stands_every}
use Rattle.ir_event.proofs.of_tree_laws.Members.{stand, stand_found}
use Rattle.ir_event.proofs.of_tree_laws.Around.{member_of_place}
use Rattle.ir_event.proofs.of_tree_laws.Without.{same_head}
use Rattle.ir_event.proofs.of_tree_laws.Stretches.{part}
use Rattle.effects.specs.Points.{one_if}
use Rattle.effects.specs.Dead.{is_result_of, is_unused}
use Rattle.ir_event.specs.Heads.{heads, regions_heads, region_heads, ops_heads, all_operands}
use Rattle.effects.specs.Counts.{results_among}
use Rattle.effects.specs.Reports.{of_each}
use Rattle.effects.proofs.Shown.{says}
use Rattle.ir_event.proofs.of_trees.Replaced.{same_value_refl}

-- the operation is found; its head and the heads of its subtree are in the list between `front` and `back`, and these
-- two are the list without them
pub record HeadCut {N T A : Type 0} (x : ℕ) (found : Option (OpOf N T A)) (whole left : List (HeadOf N T A)) : Type 0 where
  pub here : OpOf N T A
  pub is : found ≡ Some here
  pub id : (head here).id ≡ x
  pub preceding : List (HeadOf N T A)
  pub back : List (HeadOf N T A)
  pub was : whole ≡ preceding ++ (heads here ++ back)
  pub rest : left ≡ preceding ++ back

-- each head's id, with the value of a function of the head
abbrev pub tagged : {N T A V : Type 0} → (HeadOf N T A → V) → List (HeadOf N T A) → List (ℕ × V)
tagged k [] = []
tagged k (h ∷ hs) = (h.id, k h) ∷ tagged k hs

module _ {N T A : Type 0} where
  abbrev pub head_in : OpWithPathOf N T A → HeadOf N T A
  head_in s = head s.here

  mutual
    pub stand_heads : (path : List (StepOf N T A)) (t : OpOf N T A) → map head_in (stands path t) ≡ heads t
    stand_heads path (op h rs) = ap (λ l. h ∷ l) (regions_stand_heads (op h rs) path 0 rs)

    regions_stand_heads : (p : OpOf N T A) (path : List (StepOf N T A)) (r : ℕ) (rs : RegionsOf N T A) → map head_in (regions_stands p path r rs) ≡ regions_heads rs
    regions_stand_heads p path r no_regions = refl
    regions_stand_heads p path r (region g rs) =
        map-append head_in (region_stands p path r g) (regions_stands p path (r + 1) rs) ∙ λ i. region_stand_heads p path r g i ++ regions_stand_heads p path (r + 1) rs i

    region_stand_heads : (p : OpOf N T A) (path : List (StepOf N T A)) (r : ℕ) (g : RegionOf N T A) → map head_in (region_stands p path r g) ≡ region_heads g
    region_stand_heads p path r empty = refl
    region_stand_heads p path r (block args os) = ops_stand_heads p path r args [] os

    ops_stand_heads : (p : OpOf N T A) (path : List (StepOf N T A)) (r : ℕ) (args : List T) (preceding : List (OpOf N T A)) (os : OpsOf N T A) → map head_in (ops_stands p path r args preceding os) ≡ ops_heads os
    ops_stand_heads p path r args preceding no_ops = refl
    ops_stand_heads p path r args preceding (next o os) =
        map-append head_in (stands (step p r args preceding os ∷ path) o) (ops_stands p path r args (preceding ++ o ∷ []) os)
        ∙ λ i. stand_heads (step p r args preceding os ∷ path) o i ++ ops_stand_heads p path r args (preceding ++ o ∷ []) os i

  left_heads : (x : ℕ) (ss : List (OpWithPathOf N T A)) → map head_in (map (left_stand x) ss) ≡ map head_in ss
  left_heads x [] = refl
  left_heads x (s ∷ ss) = λ i. same_head x (dropping x) s.here i ∷ left_heads x ss i

  pub cut_heads : (x : ℕ) (t : OpOf N T A) (place : Place) → HasDistinctIds t → place_of x t ≡ Some place → HeadCut x (find x t) (heads t) (heads (without x t))
  cut_heads x t place d e = let u = member_of_place x place t e in go u.0.here u.0.path u.1 u.2 u.3
    where
      go : (o : OpOf N T A) (path : List (StepOf N T A)) → In (stand o path) (stands [] t) → (head o).id ≡ x → place_in path ≡ Some place → HeadCut x (find x t) (heads t) (heads (without x t))
      go o [] h id at = absurd cc
      go o (a ∷ q) h id at =
          let w = part t d o a q h in
          subst (λ y. HeadCut y (find y t) (heads t) (heads (without y t))) id
          record {
            here = o;
            is = stand_found t d (stand o (a ∷ q)) h;
            id = refl;
            preceding = map head_in w.preceding;
            back = map head_in w.back;
            was = sym (stand_heads [] t)
                ∙ ap (map head_in) w.is
                ∙ map-append head_in w.preceding (stands (a ∷ q) o ++ w.back)
                ∙ ap (λ l. map head_in w.preceding ++ l) (map-append head_in (stands (a ∷ q) o) w.back ∙ ap (λ l. l ++ map head_in w.back) (stand_heads (a ∷ q) o));
            rest = sym (stand_heads [] (without (head o).id t)) ∙ ap (map head_in) w.left ∙ left_heads (head o).id (w.preceding ++ w.back) ∙ map-append head_in w.preceding w.back;
          }

  -- the value of each operation is that of its head
  tagged_in : {V : Type 0} (k : HeadOf N T A → V) (ss : List (OpWithPathOf N T A)) → tagged k (map head_in ss) ≡ map (says (λ (o : OpOf N T A). k (head o))) ss
  tagged_in k [] = refl
  tagged_in k (s ∷ ss) = ap (λ l. (op_with_path_id s, k (head s.here)) ∷ l) (tagged_in k ss)

  pub heads_tagged : {V : Type 0} (k : HeadOf N T A → V) (t : OpOf N T A) → tagged k (heads t) ≡ of_each (λ o. k (head o)) t
  heads_tagged k t = ap (tagged k) (sym (stand_heads [] t)) ∙ tagged_in k (stands [] t)

  -- values without uses
  used_in : (v : Value) (ss : List (OpWithPathOf N T A)) → gather (λ (h : HeadOf N T A). operand_uses v h.id 0 h.operands) (map head_in ss) ≡ gather (λ s. operand_uses v (op_with_path_id s) 0 (head s.here).operands) ss
  used_in v [] = refl
  used_in v (s ∷ ss) = ap (λ l. operand_uses v (op_with_path_id s) 0 (head s.here).operands ++ l) (used_in v ss)

  heads_uses : (v : Value) (t : OpOf N T A) → gather (λ (h : HeadOf N T A). operand_uses v h.id 0 h.operands) (heads t) ≡ uses_of v t
  heads_uses v t = ap (gather (λ (h : HeadOf N T A). operand_uses v h.id 0 h.operands)) (sym (stand_heads [] t)) ∙ used_in v (stands [] t) ∙ stands_uses v [] t

pub among_joined : (x : ℕ) (vs ws : List Value) → results_among x (vs ++ ws) ≡ results_among x vs + results_among x ws
among_joined x [] ws = omega arith
among_joined x (v ∷ vs) ws = let more = among_joined x vs ws in omega (arith, more)

no_preceding : {X : Type 0} (xs ys : List X) → xs ++ ys ≡ [] → xs ≡ []
no_preceding [] ys e = refl
no_preceding (x ∷ xs) ys e = absurd cc

no_back : {X : Type 0} (xs ys : List X) → xs ++ ys ≡ [] → ys ≡ []
no_back [] ys e = e
no_back (x ∷ xs) ys e = absurd cc

owned : (x : ℕ) (v : Value) → is_result_of x v ≡ true → eqb (owner_of v).0 x ≡ true
owned x (Result y k) e = e
owned x (Arg y r k) e = absurd (true≢false (sym e))

-- operands that aren't results of x
none_used : (x user k : ℕ) (vs : List Value) → ((v : Value) → eqb (owner_of v).0 x ≡ true → operand_uses v user k vs ≡ []) → results_among x vs ≡ 0
none_used x user k [] h = refl
none_used x user k (v ∷ vs) h = go (is_result_of x v) refl (none_used x user (k + 1) vs (λ w o. later w (same_value w v) (h w o)))
  where
    later : (w : Value) (b : Bool) → cond b ((user, k) ∷ operand_uses w user (k + 1) vs) (operand_uses w user (k + 1) vs) ≡ [] → operand_uses w user (k + 1) vs ≡ []
    later w true e = absurd cc
    later w false e = e

    go : (b : Bool) → is_result_of x v ≡ b → results_among x vs ≡ 0 → one_if (is_result_of x v) + results_among x vs ≡ 0
    go true e more =
        let bad : (user, k) ∷ operand_uses v user (k + 1) vs ≡ [] = sym (ap (λ b. cond b ((user, k) ∷ operand_uses v user (k + 1) vs) (operand_uses v user (k + 1) vs)) (same_value_refl v)) ∙ h v (owned x v e) in
        absurd cc
    go false e more = let none : one_if (is_result_of x v) ≡ 0 = ap one_if e in omega (arith, none, more)

-- the test of the analysis
none_of : (x : ℕ) (vs : List Value) → list_all (λ v. not (is_result_of x v)) vs ≡ nat_lt (results_among x vs) 1
none_of x [] = refl
none_of x (v ∷ vs) =
    ap (λ b. not (is_result_of x v) && b) (none_of x vs)
    ∙ elim (is_result_of x v) as (λ b. (not b && nat_lt (results_among x vs) 1) ≡ nat_lt (one_if b + results_among x vs) 1)
    [ true ↦ past (results_among x vs) | false ↦ ap (λ n. nat_lt n 1) (let same : results_among x vs ≡ 0 + results_among x vs = omega arith in same) ]
  where
    past : (n : ℕ) → false ≡ nat_lt (1 + n) 1
    past n = grind arith

both_none : (m n : ℕ) → (nat_lt m 1 && nat_lt n 1) ≡ nat_lt (m + n) 1
both_none m n = elim (cases_eq m 0) [
  | inl q ↦ let a : nat_lt m 1 ≡ true = ap (λ k. nat_lt k 1) q in let b : n ≡ m + n = omega (arith, q) in (λ i. a i && nat_lt (b i) 1)
  | inr q ↦ let a : nat_lt m 1 ≡ false = grind (arith, q) in let b : nat_lt (m + n) 1 ≡ false = grind (arith, q) in ap (λ c. c && nat_lt n 1) a ∙ sym b
]

module _ {N T A : Type 0} where
  pub operands_joined : (hs gs : List (HeadOf N T A)) → all_operands (hs ++ gs) ≡ all_operands hs ++ all_operands gs
  operands_joined hs gs = gather-append (λ (h : HeadOf N T A). h.operands) hs gs

  none_among : (x : ℕ) (hs : List (HeadOf N T A)) → ((v : Value) → eqb (owner_of v).0 x ≡ true → gather (λ (h : HeadOf N T A). operand_uses v h.id 0 h.operands) hs ≡ []) → results_among x (all_operands hs) ≡ 0
  none_among x [] u = refl
  none_among x (h ∷ hs) u =
      let one = none_used x h.id 0 h.operands (λ v o. no_preceding _ _ (u v o)) in
      let more = none_among x hs (λ v o. no_back (operand_uses v h.id 0 h.operands) _ (u v o)) in
      among_joined x h.operands (all_operands hs) ∙ λ i. one i + more i

  pub unused_among : (x : ℕ) (t : OpOf N T A) → ((v : Value) → (owner_of v).0 ≡ x → uses_of v t ≡ []) → results_among x (all_operands (heads t)) ≡ 0
  unused_among x t u = none_among x (heads t) (λ v o. heads_uses v t ∙ u v (eqb-true (owner_of v).0 x o))

  all_none : (x : ℕ) (ss : List (OpWithPathOf N T A)) → list_all (λ s. list_all (λ v. not (is_result_of x v)) (head s.here).operands) ss ≡ nat_lt (results_among x (all_operands (map head_in ss))) 1
  all_none x [] = refl
  all_none x (s ∷ ss) =
      (λ i. none_of x (head s.here).operands i && all_none x ss i)
      ∙ both_none (results_among x (head s.here).operands) (results_among x (all_operands (map head_in ss)))
      ∙ ap (λ n. nat_lt n 1) (sym (among_joined x (head s.here).operands (all_operands (map head_in ss))))

  pub unused_is : (x : ℕ) (t : OpOf N T A) → is_unused x t ≡ nat_lt (results_among x (all_operands (heads t))) 1
  unused_is x t =
      sym (stands_every (λ o. list_all (λ v. not (is_result_of x v)) (head o).operands) [] t)
      ∙ all_none x (stands [] t)
      ∙ ap (λ (hs : List (HeadOf N T A)). nat_lt (results_among x (all_operands hs)) 1) (stand_heads [] t)

-- the heads of a tree with other names, types and attributes
module _ {N T A M U B : Type 0} (f : N → M) (g : T → U) (h : A → B) where
  mutual
    pub mapped_heads : (t : OpOf N T A) → heads (map_tree f g h t) ≡ map (map_head f g h) (heads t)
    mapped_heads (op x rs) = ap (λ l. map_head f g h x ∷ l) (mapped_regions_heads rs)

    mapped_regions_heads : (rs : RegionsOf N T A) → regions_heads (map_regions f g h rs) ≡ map (map_head f g h) (regions_heads rs)
    mapped_regions_heads no_regions = refl
    mapped_regions_heads (region r rs) = (λ i. mapped_region_heads r i ++ mapped_regions_heads rs i) ∙ sym (map-append (map_head f g h) (region_heads r) (regions_heads rs))

    mapped_region_heads : (r : RegionOf N T A) → region_heads (map_region f g h r) ≡ map (map_head f g h) (region_heads r)
    mapped_region_heads empty = refl
    mapped_region_heads (block args os) = mapped_ops_heads os

    mapped_ops_heads : (os : OpsOf N T A) → ops_heads (map_ops f g h os) ≡ map (map_head f g h) (ops_heads os)
    mapped_ops_heads no_ops = refl
    mapped_ops_heads (next o os) = (λ i. mapped_heads o i ++ mapped_ops_heads os i) ∙ sym (map-append (map_head f g h) (heads o) (ops_heads os))
