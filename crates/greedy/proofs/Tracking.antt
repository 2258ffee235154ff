-- The module after all events determines which operations' effects the events change.
use Rattle.std.proofs.Common.{◌≡◌, refl, ap, sym, ◌∙◌, subst, ℕ, zero, suc, Bool, true, false, true≢false, eqb, eq-eqb, eqb-true, List, [], ◌∷◌, Option, Some, None, inl, inr, ◌⊎◌}
use Rattle.std.specs.Prelude.{option_map}
use Rattle.ir_event.specs.trees.declared.place.Place.{Place}
use Rattle.ir_event.specs.trees.Tree.{OpOf, op, head}
use Rattle.ir_event.specs.trees.Ids.{HasDistinctIds, find}
use Rattle.ir_event.specs.trees.Places.{place_of}
use Rattle.ir_event.specs.trees.Edits.{at}
use Rattle.ir_event.specs.store.Nodes.{node_of}
use Rattle.ir_event.specs.tree_laws.Reads.{parent_of}
use Rattle.ir_event.specs.tree_laws.Stands.{StepOf, OpWithPathOf, op_with_path_id, stands, place_in}
use Rattle.ir_event.specs.tree_laws.Members.{In}
use Rattle.ir_event.proofs.of_tree_laws.Listed.{bool_cases}
use Rattle.ir_event.proofs.of_tree_laws.Members.{stand, within, stand_found, found_stands}
use Rattle.ir_event.proofs.of_tree_laws.Around.{place_of_member, member_of_place}
use Rattle.op_registry.specs.declared.own.Own.{Own}
use Rattle.effects.specs.declared.effect_kinds.EffectKinds.{EffectKinds}
use Rattle.effects.specs.Effects.{is_recursive, effects}
use Rattle.greedy.specs.Climbs.{recursive_at, Climbs, feels}
use Rattle.greedy.proofs.Feeling.{climbed_from}
use Rattle.greedy.proofs.Still.{around_id, Like, Goes}
use Rattle.std.proofs.lemmas.Option.{same_Some}

module _ {N T A : Type 0} (own : N → Own) where
  -- ---- names and parents, by the lists of positions
  node_name : (o q : OpOf N T A) → node_of o ≡ node_of q → (head o).name ≡ (head q).name
  node_name o q e = sym (shown o) ∙ ap (λ n. n.head.name) e ∙ shown q
    where
      shown : (o : OpOf N T A) → (node_of o).head.name ≡ (head o).name
      shown (op h rs) = refl

  -- what stays known of an operation that keeps its name
  pub record Kept (x : ℕ) (t u : OpOf N T A) : Type 0 where
    pub recursive : recursive_at own x t ≡ true → recursive_at own x u ≡ true
    pub parent : (p : ℕ) → parent_of x t ≡ Some p → parent_of x u ≡ Some p

  pub recursive_found : (t o : OpOf N T A) (x : ℕ) → find x t ≡ Some o → recursive_at own x t ≡ is_recursive (own (head o).name)
  recursive_found t o x e = ap (λ z. elim z as (λ _. Bool) [ None ↦ false | Some o ↦ is_recursive (own (head o).name) ]) e

  parent_placed : (t : OpOf N T A) (x : ℕ) (place : Place) → place_of x t ≡ Some place → parent_of x t ≡ Some place.parent
  parent_placed t x place e = ap (option_map (λ (p : Place). p.parent)) e

  placed_parent : (t : OpOf N T A) (x p : ℕ) → parent_of x t ≡ Some p → (place : Place) × (place_of x t ≡ Some place) × (place.parent ≡ p)
  placed_parent t x p e = go (place_of x t) refl e
    where
      go : (o : Option Place) → place_of x t ≡ o → option_map (λ (p : Place). p.parent) o ≡ Some p → (place : Place) × (place_of x t ≡ Some place) × (place.parent ≡ p)
      go None i e = absurd cc
      go (Some place) i e = (place, i, cc)

  -- a position corresponds to a position with the same name and the same parent
  pub kept_by : (t u : OpOf N T A) → HasDistinctIds t → HasDistinctIds u → (x : ℕ)
      → ((s : OpWithPathOf N T A) → In s (stands [] t) → op_with_path_id s ≡ x → (r : OpWithPathOf N T A) × In r (stands [] u) × (op_with_path_id r ≡ op_with_path_id s) × ((head r.here).name ≡ (head s.here).name) × (around_id s.path ≡ around_id r.path))
      → Kept x t u
  kept_by t u dt du x goes = record {
    recursive = λ e. still (find x t) refl e;
    parent = λ p e. around p e;
  }
    where
      still : (o : Option (OpOf N T A)) → find x t ≡ o → recursive_at own x t ≡ true → recursive_at own x u ≡ true
      still None i e = absurd (true≢false (sym e ∙ ap (λ z. elim z as (λ _. Bool) [ None ↦ false | Some o ↦ is_recursive (own (head o).name) ]) i))
      still (Some o) i e =
          let s = found_stands x t o i in
          let w = goes s.0 s.1 s.2 in
          let found : find x u ≡ Some w.0.here = ap (λ z. find z u) (sym (w.2 ∙ s.2)) ∙ stand_found u du w.0 w.1 in
          recursive_found u w.0.here x found ∙ ap (λ n. is_recursive (own n)) (w.3 ∙ ap (λ z. (head z).name) s.3) ∙ sym (recursive_found t o x i) ∙ e

      there : (p : ℕ) (r : OpWithPathOf N T A) → In r (stands [] u) → op_with_path_id r ≡ x → (q : List (StepOf N T A)) → r.path ≡ q → around_id q ≡ Some p → parent_of x u ≡ Some p
      there p r h i [] j e = absurd cc
      there p r h i (a ∷ q) j e =
          let at : place_of x u ≡ place_in (a ∷ q) = ap (λ z. place_of z u) (sym i) ∙ place_of_member u du r.here a q (subst (λ l. In (stand r.here l) (stands [] u)) j h) in
          ap (option_map (λ (z : Place). z.parent)) at ∙ e

      path_id : (q : List (StepOf N T A)) (place : Place) → place_in q ≡ Some place → around_id q ≡ Some place.parent
      path_id [] place e = absurd cc
      path_id (a ∷ q) place e = ap (option_map (λ (z : Place). z.parent)) e

      around : (p : ℕ) → parent_of x t ≡ Some p → parent_of x u ≡ Some p
      around p e =
          let placed = placed_parent t x p e in
          let s = member_of_place x placed.0 t placed.1 in
          let w = goes s.0 s.1 s.2 in
          there p w.0 w.1 (w.2 ∙ s.2) w.0.path refl (sym w.4 ∙ path_id s.0.path placed.0 s.3 ∙ ap Some placed.2)

  pub kept_like : (x : ℕ) (t u : OpOf N T A) → HasDistinctIds t → HasDistinctIds u → Goes (Like own x) x t u → (y : ℕ) → (y ≡ x → ⊥) → Kept y t u
  kept_like x t u dt du goes y apart = kept_by t u dt du y (λ s h i. let w = goes s h (λ e. apart (sym i ∙ e)) in (w.0, w.1, w.2, node_name w.0.here s.here (sym w.3.node), w.3.around))

  -- ---- climbing if all operations stay
  pub climbs_on : (t u : OpOf N T A) → ((c : ℕ) → Kept c t u) → (k y c : ℕ) → Climbs own k y c t → Climbs own k y c u
  climbs_on t u kept zero y c h = ((kept c).recursive h.0, h.1)
  climbs_on t u kept (suc k) y c h = ((kept c).recursive h.0, (h.1.0, (kept c).parent h.1.0 h.1.1, climbs_on t u kept k y h.1.0 h.1.2))

  -- if all operations stay but x, which isn't in the tree
  pub climbs_past : (x : ℕ) (t u : OpOf N T A) → recursive_at own x t ≡ false → ((c : ℕ) → (c ≡ x → ⊥) → Kept c t u) → (k y c : ℕ) → Climbs own k y c t → Climbs own k y c u
  climbs_past x t u gone kept k y c h = go k c h
    where
      apart : (c : ℕ) → recursive_at own c t ≡ true → c ≡ x → ⊥
      apart c r e = true≢false (sym r ∙ ap (λ z. recursive_at own z t) e ∙ gone)

      go : (k c : ℕ) → Climbs own k y c t → Climbs own k y c u
      go zero c h = ((kept c (apart c h.0)).recursive h.0, h.1)
      go (suc k) c h = ((kept c (apart c h.0)).recursive h.0, (h.1.0, (kept c (apart c h.0)).parent h.1.0 h.1.1, go k h.1.0 h.1.2))

  -- if operation x leaves its place: the climb continues, or there is a climb from the former parent of x
  pub climbs_round : (x w : ℕ) (t u : OpOf N T A) → parent_of x t ≡ Some w → ((c : ℕ) → (c ≡ x → ⊥) → Kept c t u) → (k y c : ℕ) → (y ≡ x → ⊥) → Climbs own k y c t
      → ((j : ℕ) × Climbs own j y c u) ⊎ ((j : ℕ) × Climbs own j y w u)
  climbs_round x w t u at kept zero y c apart h = inl (zero, ((kept c (λ e. apart (sym h.1 ∙ e))).recursive h.0, h.1))
  climbs_round x w t u at kept (suc k) y c apart h =
      let p = h.1.0 in
      elim (climbs_round x w t u at kept k y p apart h.1.2) [
        | inr v ↦ inr v
        | inl v ↦ elim (bool_cases (eqb c x)) [
          | inl e ↦
              let same : p ≡ w = same_Some p w (sym h.1.1 ∙ ap (λ z. parent_of z t) (eqb-true c x e) ∙ at) in
              inr (v.0, subst (λ z. Climbs own v.0 y z u) same v.1)
          | inr e ↦
              let other : c ≡ x → ⊥ = λ i. true≢false (sym (eq-eqb c x i) ∙ e) in
              inl (suc v.0, ((kept c other).recursive h.0, (p, (kept c other).parent p h.1.1, v.1)))
        ]
      ]

  -- ---- effects at an operation
  abbrev pub effects_at : ℕ → OpOf N T A → Option EffectKinds
  effects_at y t = option_map (effects own) (find y t)

  -- whether operation y, found in a tree, feels operation x
  pub feels_up : (x : ℕ) (t : OpOf N T A) → HasDistinctIds t → (w : ℕ) → parent_of x t ≡ Some w → (s : OpWithPathOf N T A) → In s (stands [] t) → ((k : ℕ) → Climbs own k (op_with_path_id s) w t → ⊥) → feels own x s.here ≡ false
  feels_up x t d w at s h away = elim (bool_cases (feels own x s.here)) [
    | inr e ↦ e
    | inl e ↦
        let c = climbed_from own x t d (op_with_path_id s) s.here s.path h refl (λ r k. within s.here s.path r k [] t h) e in
        let same : c.0 ≡ w = same_Some c.0 w (sym c.1 ∙ at) in
        absurd (away c.2.0 (subst (λ z. Climbs own c.2.0 (op_with_path_id s) z t) same c.2.1))
  ]

  -- no operation of the tree feels an operation that has no place
  pub same_effects : (x : ℕ) (t u : OpOf N T A) → HasDistinctIds t → HasDistinctIds u → Goes (Like own x) x t u → (y : ℕ) → (y ≡ x → ⊥)
      → ((s : OpWithPathOf N T A) → In s (stands [] t) → op_with_path_id s ≡ y → feels own x s.here ≡ false) → ((r : OpWithPathOf N T A) → In r (stands [] u) → op_with_path_id r ≡ y → feels own x r.here ≡ false)
      → (o : OpOf N T A) → find y t ≡ Some o → (q : OpOf N T A) × (find y u ≡ Some q) × (effects own q ≡ effects own o)
  same_effects x t u dt du goes y apart f g o e =
      let s = found_stands y t o e in
      let w = goes s.0 s.1 (λ i. apart (sym s.2 ∙ i)) in (
        w.0.here,
        ap (λ z. find z u) (sym (w.2 ∙ s.2)) ∙ stand_found u du w.0 w.1,
        sym (w.3.effects_of (f s.0 s.1 s.2) (g w.0 w.1 (w.2 ∙ s.2))) ∙ ap (effects own) s.3,
      )
