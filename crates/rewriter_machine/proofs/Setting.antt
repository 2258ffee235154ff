-- Replacing a value, operand by operand.
use Rattle.std.proofs.Common.{◌≡◌, refl, ap, sym, ◌∙◌, subst, ℕ, ◌+◌, Bool, true, false, true≢false, cond, eqb, eq-eqb, List, [], ◌∷◌, ◌++◌, length, map, append_assoc, length-append, inl, inr}
use Rattle.std.specs.Prelude.{slice_set}
use Rattle.std.specs.List.{IsDistinct}
use Rattle.std.proofs.lemmas.Map.Keys.{IsDistinct-tail}
use Rattle.ir_event.specs.trees.declared.value.Value.{Value}
use Rattle.ir_event.specs.trees.Tree.{HeadOf, OpOf, op, RegionsOf, no_regions, region, RegionOf, empty, block, OpsOf, no_ops, next, head}
use Rattle.ir_event.specs.trees.Ids.{HasDistinctIds}
use Rattle.ir_event.specs.trees.Uses.{same_value, operand_uses, uses_of}
use Rattle.ir_event.specs.trees.Edits.{each_head, regions_each_head, region_each_head, ops_each_head, at, put_operand, with_operand, put_value, put_values, with_value_replaced}
use Rattle.ir_event.proofs.of_trees.Returns.{absent_first}
use Rattle.ir_event.proofs.of_tree_laws.Entries.{each_twice}
use Rattle.ir_event.specs.tree_laws.Members.{In}
use Rattle.ir_event.specs.tree_laws.Stands.{StepOf, OpWithPathOf, op_with_path_id, stands, regions_stands, region_stands, ops_stands, gather}
use Rattle.ir_event.proofs.of_tree_laws.Listed.{bool_cases, in_left, in_right, any_one}
use Rattle.ir_event.proofs.of_tree_laws.Readings.{step, stands_ids, stands_uses}
use Rattle.ir_event.proofs.of_tree_laws.Members.{stand}
use Rattle.ir_event.proofs.of_tree_laws.Around.{any_ids}
use Rattle.rewriter_machine.specs.Replacing.{all_set}
use Rattle.std.proofs.lemmas.Bool.{ne_eqb}
use Rattle.ir_event.proofs.of_tree_laws.Nested.{unequal}

set_there : (vs : List Value) (w v : Value) (ws : List Value) → slice_set (vs ++ w ∷ ws) (length vs) v ≡ vs ++ v ∷ ws
set_there [] w v ws = refl
set_there (u ∷ vs) w v ws = ap (λ l. u ∷ l) (set_there vs w v ws)

module _ {N T A : Type 0} where
  -- heads that are unchanged
  mutual
    pub unchanged : (t : OpOf N T A) → each_head (λ h. h) t ≡ t
    unchanged (op h rs) = ap (op h) (regions_unchanged rs)

    regions_unchanged : (rs : RegionsOf N T A) → regions_each_head (λ h. h) rs ≡ rs
    regions_unchanged no_regions = refl
    regions_unchanged (region g rs) = λ i. region (region_unchanged g i) (regions_unchanged rs i)

    region_unchanged : (g : RegionOf N T A) → region_each_head (λ h. h) g ≡ g
    region_unchanged empty = refl
    region_unchanged (block args os) = ap (block args) (ops_unchanged os)

    ops_unchanged : (os : OpsOf N T A) → ops_each_head (λ h. h) os ≡ os
    ops_unchanged no_ops = refl
    ops_unchanged (next o os) = λ i. next (unchanged o i) (ops_unchanged os i)

  -- two changes of heads that agree
  module _ (f g : HeadOf N T A → HeadOf N T A) where
    abbrev pub Agree : List (OpWithPathOf N T A) → Type 0
    Agree ss = (s : OpWithPathOf N T A) → In s ss → f (head s.here) ≡ g (head s.here)

    mutual
      pub agree : (path : List (StepOf N T A)) (t : OpOf N T A) → Agree (stands path t) → each_head f t ≡ each_head g t
      agree path (op h rs) k = λ i. op (k (stand (op h rs) path) (inl refl) i) (regions_agree (op h rs) path 0 rs (λ s m. k s (inr m)) i)

      regions_agree : (p : OpOf N T A) (path : List (StepOf N T A)) (r : ℕ) (rs : RegionsOf N T A) → Agree (regions_stands p path r rs) → regions_each_head f rs ≡ regions_each_head g rs
      regions_agree p path r no_regions k = refl
      regions_agree p path r (region q rs) k = λ i.
          region (region_agree p path r q (λ s m. k s (in_left s (region_stands p path r q) (regions_stands p path (r + 1) rs) m)) i)
          (regions_agree p path (r + 1) rs (λ s m. k s (in_right s (region_stands p path r q) (regions_stands p path (r + 1) rs) m)) i)

      region_agree : (p : OpOf N T A) (path : List (StepOf N T A)) (r : ℕ) (q : RegionOf N T A) → Agree (region_stands p path r q) → region_each_head f q ≡ region_each_head g q
      region_agree p path r empty k = refl
      region_agree p path r (block args os) k = ap (block args) (ops_agree p path r args [] os k)

      ops_agree : (p : OpOf N T A) (path : List (StepOf N T A)) (r : ℕ) (args : List T) (preceding : List (OpOf N T A)) (os : OpsOf N T A) → Agree (ops_stands p path r args preceding os) → ops_each_head f os ≡ ops_each_head g os
      ops_agree p path r args preceding no_ops k = refl
      ops_agree p path r args preceding (next o os) k = λ i.
          next (agree (step p r args preceding os ∷ path) o (λ s m. k s (in_left s (stands (step p r args preceding os ∷ path) o) (ops_stands p path r args (preceding ++ o ∷ []) os) m)) i)
          (ops_agree p path r args (preceding ++ o ∷ []) os (λ s m. k s (in_right s (stands (step p r args preceding os ∷ path) o) (ops_stands p path r args (preceding ++ o ∷ []) os) m)) i)

  -- some operands of a head set to a value
  abbrev set_all : Value → List (ℕ × ℕ) → HeadOf N T A → HeadOf N T A
  set_all v [] h = h
  set_all v (u ∷ us) h = set_all v us (at u.0 (put_operand u.1 v) h)

  all_heads : (v : Value) (us : List (ℕ × ℕ)) (t : OpOf N T A) → all_set v us t ≡ each_head (set_all v us) t
  all_heads v [] t = sym (unchanged t)
  all_heads v (u ∷ us) t = all_heads v us (with_operand u.0 u.1 v t) ∙ each_twice (at u.0 (put_operand u.1 v)) (set_all v us) t

  set_more : (v : Value) (us ws : List (ℕ × ℕ)) (h : HeadOf N T A) → set_all v (us ++ ws) h ≡ set_all v ws (set_all v us h)
  set_more v [] ws h = refl
  set_more v (u ∷ us) ws h = set_more v us ws (at u.0 (put_operand u.1 v) h)

  pub all_set_more : (v : Value) (us ws : List (ℕ × ℕ)) (t : OpOf N T A) → all_set v (us ++ ws) t ≡ all_set v ws (all_set v us t)
  all_set_more v [] ws t = refl
  all_set_more v (u ∷ us) ws t = all_set_more v us ws (with_operand u.0 u.1 v t)

  -- distinct ids
  pub apart : (x : ℕ) (ss : List (OpWithPathOf N T A)) → IsDistinct eqb (x ∷ map (λ (s : OpWithPathOf N T A). op_with_path_id s) ss) → (s : OpWithPathOf N T A) → In s ss → eqb (op_with_path_id s) x ≡ false
  apart x ss d s h = elim (bool_cases (eqb (op_with_path_id s) x)) [
    | inr k ↦ k
    | inl k ↦ absurd (true≢false (sym (any_one (λ (u : OpWithPathOf N T A). eqb (op_with_path_id u) x) ss s h k) ∙ sym (any_ids (λ (u : OpWithPathOf N T A). op_with_path_id u) x ss) ∙ absent_first x (map (λ (s : OpWithPathOf N T A). op_with_path_id s) ss) d))
  ]

  module _ (old new : Value) where
    abbrev uses_here : OpWithPathOf N T A → List (ℕ × ℕ)
    uses_here s = operand_uses old (op_with_path_id s) 0 (head s.here).operands

    -- uses in another operation
    not_here : (h : HeadOf N T A) (x : ℕ) → eqb h.id x ≡ false → (k : ℕ) (ws : List Value) → set_all new (operand_uses old x k ws) h ≡ h
    not_here h x e k [] = refl
    not_here h x e k (w ∷ ws) =
        elim (same_value old w) as (λ b. set_all new (cond b ((x, k) ∷ operand_uses old x (k + 1) ws) (operand_uses old x (k + 1) ws)) h ≡ h) [
          | true ↦ ap (λ b. set_all new (operand_uses old x (k + 1) ws) (cond b (put_operand k new h) h)) e ∙ not_here h x e (k + 1) ws
          | false ↦ not_here h x e (k + 1) ws
        ]

    none_here : (h : HeadOf N T A) (ss : List (OpWithPathOf N T A)) → ((s : OpWithPathOf N T A) → In s ss → eqb h.id (op_with_path_id s) ≡ false) → set_all new (gather uses_here ss) h ≡ h
    none_here h [] f = refl
    none_here h (s ∷ ss) f =
        set_more new (uses_here s) (gather uses_here ss) h
        ∙ ap (set_all new (gather uses_here ss)) (not_here h (op_with_path_id s) (f s (inl refl)) 0 (head s.here).operands)
        ∙ none_here h ss (λ u m. f u (inr m))

    -- uses in the same operation
    abbrev with_list : HeadOf N T A → List Value → HeadOf N T A
    with_list h l = record h { operands = l }

    all_here : (h : HeadOf N T A) (vs ws : List Value) → set_all new (operand_uses old h.id (length vs) ws) (with_list h (vs ++ ws)) ≡ with_list h (vs ++ map (put_value old new) ws)
    all_here h vs [] = refl
    all_here h vs (w ∷ ws) =
        go (same_value old w) refl (λ v. (λ i. set_all new (operand_uses old h.id (sym (length-append vs (v ∷ [])) i) ws) (with_list h (sym (append_assoc vs (v ∷ []) ws) i)))
        ∙ all_here h (vs ++ v ∷ []) ws
        ∙ ap (with_list h) (append_assoc vs (v ∷ []) (map (put_value old new) ws)))
      where
        go : (b : Bool) → same_value old w ≡ b
            → ((v : Value) → set_all new (operand_uses old h.id (length vs + 1) ws) (with_list h (vs ++ v ∷ ws)) ≡ with_list h (vs ++ v ∷ map (put_value old new) ws))
            → set_all new (operand_uses old h.id (length vs) (w ∷ ws)) (with_list h (vs ++ w ∷ ws)) ≡ with_list h (vs ++ map (put_value old new) (w ∷ ws))
        go true e later =
            ap (λ b. set_all new (cond b ((h.id, length vs) ∷ operand_uses old h.id (length vs + 1) ws) (operand_uses old h.id (length vs + 1) ws)) (with_list h (vs ++ w ∷ ws))) e
            ∙ ap (λ b. set_all new (operand_uses old h.id (length vs + 1) ws) (cond b (put_operand (length vs) new (with_list h (vs ++ w ∷ ws))) (with_list h (vs ++ w ∷ ws)))) (eq-eqb h.id h.id refl)
            ∙ ap (λ l. set_all new (operand_uses old h.id (length vs + 1) ws) (with_list h l)) (set_there vs w new ws)
            ∙ later new
            ∙ sym (ap (λ b. with_list h (vs ++ cond b new w ∷ map (put_value old new) ws)) e)
        go false e later =
            ap (λ b. set_all new (cond b ((h.id, length vs) ∷ operand_uses old h.id (length vs + 1) ws) (operand_uses old h.id (length vs + 1) ws)) (with_list h (vs ++ w ∷ ws))) e
            ∙ later w
            ∙ sym (ap (λ b. with_list h (vs ++ cond b new w ∷ map (put_value old new) ws)) e)

    one_here : (ss : List (OpWithPathOf N T A)) → IsDistinct eqb (map (λ (s : OpWithPathOf N T A). op_with_path_id s) ss) → (s : OpWithPathOf N T A) → In s ss → set_all new (gather uses_here ss) (head s.here) ≡ put_values old new (head s.here)
    one_here [] d s h = absurd h
    one_here (u ∷ ss) d s (inl e) =
        set_more new (uses_here u) (gather uses_here ss) (head s.here)
        ∙ ap (λ (z : OpWithPathOf N T A). set_all new (gather uses_here ss) (set_all new (uses_here z) (head s.here))) (sym e)
        ∙ ap (set_all new (gather uses_here ss)) (all_here (head s.here) [] (head s.here).operands)
        ∙ none_here (put_values old new (head s.here)) ss (λ q m. unequal (op_with_path_id q) (op_with_path_id s) (ap (λ (z : OpWithPathOf N T A). eqb (op_with_path_id q) (op_with_path_id z)) e ∙ apart (op_with_path_id u) ss d q m))
    one_here (u ∷ ss) d s (inr h) =
        set_more new (uses_here u) (gather uses_here ss) (head s.here)
        ∙ ap (set_all new (gather uses_here ss)) (not_here (head s.here) (op_with_path_id u) (apart (op_with_path_id u) ss d s h) 0 (head u.here).operands)
        ∙ one_here ss (IsDistinct-tail eqb (op_with_path_id u) (map (λ (s : OpWithPathOf N T A). op_with_path_id s) ss) d) s h

    -- in a whole tree
    pub all_replaced : (t : OpOf N T A) → HasDistinctIds t → all_set new (uses_of old t) t ≡ with_value_replaced old new t
    all_replaced t d =
        all_heads new (uses_of old t) t
        ∙ agree (set_all new (uses_of old t)) (put_values old new) [] t (λ s h. ap (λ l. set_all new l (head s.here)) (sym (stands_uses old [] t)) ∙ one_here (stands [] t) (subst (IsDistinct eqb) (sym (stands_ids [] t)) d) s h)
