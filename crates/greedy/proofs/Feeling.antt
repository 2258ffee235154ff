-- Taking an operation out changes only the effects of operations whose effects include its effects.
use Rattle.std.proofs.Common.{◌≡◌, refl, ap, sym, ◌∙◌, subst, ℕ, zero, suc, ◌+◌, Bool, true, false, true≢false, cond, ◌||◌, ◌&&◌, eqb, eqb-true, List, [], ◌∷◌, ◌++◌, Option, Some, None, inl, inr}
use Rattle.ir_event.specs.trees.Tree.{HeadOf, OpOf, op, RegionsOf, no_regions, region, empty, block, OpsOf, no_ops, next, head}
use Rattle.ir_event.specs.trees.Ids.{HasDistinctIds}
use Rattle.ir_event.specs.trees.Places.{each_list, regions_each_list}
use Rattle.ir_event.specs.trees.Edits.{each_head, regions_each_head, ops_each_head}
use Rattle.ir_event.specs.tree_laws.Reads.{parent_of}
use Rattle.ir_event.specs.tree_laws.Stands.{StepOf, OpWithPathOf, stands, regions_stands, ops_stands, dropping}
use Rattle.ir_event.specs.tree_laws.Members.{In}
use Rattle.ir_event.proofs.of_tree_laws.Listed.{bool_cases, neither, in_left, in_right}
use Rattle.ir_event.proofs.of_tree_laws.Readings.{step}
use Rattle.ir_event.proofs.of_tree_laws.Members.{stand, itself, stand_found}
use Rattle.ir_event.proofs.of_tree_laws.Around.{place_of_member}
use Rattle.op_registry.specs.declared.own.Own.{Own}
use Rattle.effects.specs.declared.effect_kinds.EffectKinds.{EffectKinds}
use Rattle.effects.specs.Effects.{none, union, own_kinds, is_recursive, effects_by, effects, regions_effects, ops_effects}
use Rattle.listeners_support.proofs.Left.{left_list}
use Rattle.greedy.specs.Climbs.{recursive_at, Climbs, feels, regions_feel, ops_feel}
use Rattle.listeners_support.proofs.Locality.{kept_next}
use Rattle.std.proofs.lemmas.Bool.{and_parts, or_cases}

and_rest : (a b : Bool) → (a && b) ≡ false → a ≡ true → b ≡ false
and_rest true b e t = e
and_rest false b e t = absurd (true≢false (sym t))

by_own : (w : Own) (a b : EffectKinds) → (is_recursive w ≡ true → a ≡ b) → effects_by w a ≡ effects_by w b
by_own w a b f = elim (bool_cases (is_recursive w)) [
  | inl e ↦ ap (effects_by w) (f e)
  | inr e ↦ ap (λ c. cond c a (own_kinds w)) e ∙ sym (ap (λ c. cond c b (own_kinds w)) e)
]

module _ {N T A : Type 0} (own : N → Own) where
  module _ (x : ℕ) where
    abbrev d : ℕ → ℕ → OpsOf N T A → OpsOf N T A
    d = dropping x

    mutual
      pub left_effects : (o : OpOf N T A) → feels own x o ≡ false → effects own (each_list d o) ≡ effects own o
      left_effects (op h rs) f = by_own (own h.name) (regions_effects own (regions_each_list d h.id 0 rs)) (regions_effects own rs) (λ e. left_regions h.id 0 rs (and_rest (is_recursive (own h.name)) (regions_feel own x rs) f e))

      left_regions : (p r : ℕ) (rs : RegionsOf N T A) → regions_feel own x rs ≡ false → regions_effects own (regions_each_list d p r rs) ≡ regions_effects own rs
      left_regions p r no_regions f = refl
      left_regions p r (region empty rs) f = ap (union none) (left_regions p (r + 1) rs f)
      left_regions p r (region (block args os) rs) f =
          let w = neither (ops_feel own x os) (regions_feel own x rs) f in
          λ i. union (left_ops os w.0 i) (left_regions p (r + 1) rs w.1 i)

      left_ops : (os : OpsOf N T A) → ops_feel own x os ≡ false → ops_effects own (left_list x os) ≡ ops_effects own os
      left_ops no_ops f = refl
      left_ops (next o os) f =
          let w = neither (eqb (head o).id x) (feels own x o || ops_feel own x os) f in
          let v = neither (feels own x o) (ops_feel own x os) w.1 in
          ap (ops_effects own) (kept_next x o os w.0) ∙ λ i. union (left_effects o v.0 i) (left_ops os v.1 i)

  -- heads that change but keep their names
  module _ (g : HeadOf N T A → HeadOf N T A) (names : (h : HeadOf N T A) → (g h).name ≡ h.name) where
    mutual
      pub edit_effects : (o : OpOf N T A) → effects own (each_head g o) ≡ effects own o
      edit_effects (op h rs) = λ i. effects_by (own (names h i)) (edit_regions rs i)

      edit_regions : (rs : RegionsOf N T A) → regions_effects own (regions_each_head g rs) ≡ regions_effects own rs
      edit_regions no_regions = refl
      edit_regions (region empty rs) = ap (union none) (edit_regions rs)
      edit_regions (region (block args os) rs) = λ i. union (edit_ops os i) (edit_regions rs i)

      edit_ops : (os : OpsOf N T A) → ops_effects own (ops_each_head g os) ≡ ops_effects own os
      edit_ops no_ops = refl
      edit_ops (next o os) = λ i. union (edit_effects o i) (edit_ops os i)

  -- an operation that feels x is reached by a climb from the parent of x
  module _ (x : ℕ) (t : OpOf N T A) (dist : HasDistinctIds t) where
    abbrev pub Climbed : ℕ → Type 0
    Climbed y = (w : ℕ) × (parent_of x t ≡ Some w) × ((k : ℕ) × Climbs own k y w t)

    pub extend : (k y w p : ℕ) → Climbs own k y w t → parent_of y t ≡ Some p → recursive_at own p t ≡ true → Climbs own (suc k) p w t
    extend zero y w p h e r = (h.0, (p, ap (λ z. parent_of z t) h.1 ∙ e, (r, refl)))
    extend (suc k) y w p h e r = (h.0, (h.1.0, h.1.1, extend k y h.1.0 p h.1.2 e r))

    parent_there : (o : OpOf N T A) (a : StepOf N T A) (q : List (StepOf N T A)) → In (stand o (a ∷ q)) (stands [] t) → parent_of (head o).id t ≡ Some (head a.parent).id
    parent_there o a q h = ap (λ z. elim z as (λ _. Option ℕ) [ None ↦ None | Some p ↦ Some p.parent ]) (place_of_member t dist o a q h)

    mutual
      pub climbed : (o : OpOf N T A) (q : List (StepOf N T A)) → In (stand o q) (stands [] t) → ((s : OpWithPathOf N T A) → In s (stands q o) → In s (stands [] t)) → feels own x o ≡ true → Climbed (head o).id
      climbed (op h rs) q here all f =
          let w = and_parts (is_recursive (own h.name)) (regions_feel own x rs) f in
          let r : recursive_at own h.id t ≡ true = ap (λ z. elim z as (λ _. Bool) [ None ↦ false | Some o ↦ is_recursive (own (head o).name) ]) (stand_found t dist (stand (op h rs) q) here) ∙ w.0 in
          climbed_regions (op h rs) q r 0 rs (λ s k. all s (inr k)) w.1

      climbed_regions : (p : OpOf N T A) (q : List (StepOf N T A)) → recursive_at own (head p).id t ≡ true → (r : ℕ) (rs : RegionsOf N T A) → ((s : OpWithPathOf N T A) → In s (regions_stands p q r rs) → In s (stands [] t)) → regions_feel own x rs ≡ true → Climbed (head p).id
      climbed_regions p q rec r no_regions all f = absurd (true≢false (sym f))
      climbed_regions p q rec r (region empty rs) all f = climbed_regions p q rec (r + 1) rs all f
      climbed_regions p q rec r (region (block args os) rs) all f =
          let xs = ops_stands p q r args [] os in
          let ys = regions_stands p q (r + 1) rs in
          elim (or_cases (ops_feel own x os) (regions_feel own x rs) f) [
            | inl e ↦ climbed_ops p q rec r args [] os (λ s k. all s (in_left s xs ys k)) e
            | inr e ↦ climbed_regions p q rec (r + 1) rs (λ s k. all s (in_right s xs ys k)) e
          ]

      climbed_ops : (p : OpOf N T A) (q : List (StepOf N T A)) → recursive_at own (head p).id t ≡ true → (r : ℕ) (args : List T) (preceding : List (OpOf N T A)) (os : OpsOf N T A) → ((s : OpWithPathOf N T A) → In s (ops_stands p q r args preceding os) → In s (stands [] t)) → ops_feel own x os ≡ true → Climbed (head p).id
      climbed_ops p q rec r args preceding no_ops all f = absurd (true≢false (sym f))
      climbed_ops p q rec r args preceding (next o os) all f =
          let a = step p r args preceding os in
          let xs = stands (a ∷ q) o in
          let ys = ops_stands p q r args (preceding ++ o ∷ []) os in
          let here = all (stand o (a ∷ q)) (in_left (stand o (a ∷ q)) xs ys (itself (a ∷ q) o)) in
          let par = parent_there o a q here in
          elim (or_cases (eqb (head o).id x) (feels own x o || ops_feel own x os) f) [
            | inl e ↦ ((head p).id, ap (λ z. parent_of z t) (sym (eqb-true (head o).id x e)) ∙ par, (zero, (rec, refl)))
            | inr e ↦ elim (or_cases (feels own x o) (ops_feel own x os) e) [
              | inl k ↦ (let u = climbed o (a ∷ q) here (λ s m. all s (in_left s xs ys m)) k in (u.0, u.1, (suc u.2.0, extend u.2.0 (head o).id u.0 (head p).id u.2.1 par rec)))
              | inr k ↦ climbed_ops p q rec r args (preceding ++ o ∷ []) os (λ s m. all s (in_right s xs ys m)) k
            ]
          ]

    -- an operation of the tree
    pub climbed_from : (y : ℕ) (o : OpOf N T A) (q : List (StepOf N T A)) → In (stand o q) (stands [] t) → (head o).id ≡ y → ((s : OpWithPathOf N T A) → In s (stands q o) → In s (stands [] t)) → feels own x o ≡ true → Climbed y
    climbed_from y o q here e all f = subst Climbed e (climbed o q here all f)
