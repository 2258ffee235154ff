-- An IR state from which an operation is taken out.
use Rattle.std.proofs.Common.{◌≡◌, refl, ap, sym, ◌∙◌, subst, ℕ, true, false, true≢false, eqb, ⊎_elim, Option, Some, None}
use Rattle.std.proofs.lemmas.Bool.{cases_eq, eq-eqb, ne_eqb, cond-true, cond-false}
use Rattle.std.specs.Prelude.{Result, Ok, Err, MatchResult, option_map}
use Rattle.std.specs.Ordering.{nat_cmp}
use Rattle.std.specs.FinMap as finmap
use Rattle.std.specs.Cmp.{nat_cmp_total}
use Rattle.op_registry.specs.types.declared.refusal.Refusal.{Refusal}
use Rattle.op_registry.specs.types.Things.{ContextModel}
use Rattle.op_registry.specs.types.Terms.{name_term, type_term, attr_term}
use Rattle.ir_store.specs.trees.declared.place.Place.{Place}
use Rattle.ir_store.specs.trees.Tree.{Op, head}
use Rattle.ir_store.specs.trees.Ids.{find, first_of, has_id}
use Rattle.ir_store.specs.trees.Places.{place_of}
use Rattle.ir_store.specs.trees.Meaning.{IsSoundIn, isolated_in, meaning}
use Rattle.ir_store.specs.trees.WellFormed.{IsWellFormed}
use Rattle.ir_store.proofs.of_trees.Mapped.{map_find}
use Rattle.ir_store.proofs.of_trees.SoundEdits.{without_sound}
use Rattle.ir_store.specs.tree_laws.Reasons.{take_reason}
use Rattle.ir_store.specs.tree_laws.Changes.{Takes}
use Rattle.ir_store.proofs.of_tree_laws.Changed.{take_changes}
use Rattle.ir_store.proofs.of_tree_laws.Reasoned.{no_take_reason}
use Rattle.ir_store.proofs.of_tree_laws.WellKept.{take_keeps}
use Rattle.ir_store.specs.Nodes.{node_of}
use Rattle.ir_store.specs.Stored.{Stored, known}
use Rattle.ir_store.specs.Calls.{after_take, hold}
use Rattle.ir_event.specs.declared.event.Event.TheVariants.{Take}
use Rattle.ir_event.specs.Facts.{HeldIsSound}
use Rattle.ir_event.specs.Modules.{module_meaning}
use Rattle.ir_event.specs.Step.{Step}
use Rattle.ir_event.proofs.Shown.{none_found}
use Rattle.ir_event.proofs.Sounds.{found_sound}
use Rattle.ir_event.proofs.Undone.{taken_steps}
use Rattle.ir_event.proofs.Maps.{eq_nat}
use Rattle.ir_event.proofs.Gone.{not_there}

-- the held operations stay sound if one more, which is sound, is held
pub hold_sound : (c : ContextModel) (x : ℕ) (q : Option Op) (held : finmap.FinMap nat_cmp Op) → ((o : Op) → q ≡ Some o → IsSoundIn c o) → HeldIsSound c held → HeldIsSound c (hold x q held)
hold_sound c x None held own h y o e = h y o e
hold_sound c x (Some a) held own h y o e = ⊎_elim
    (λ is. own o (sym (here is) ∙ e))
    (λ not. h y o (sym (there not) ∙ e))
    (cases_eq y x)
  where
    here : y ≡ x → finmap.get (finmap.insert held x a) y ≡ Some a
    here is = finmap.get-insert nat_cmp_total held x a y ∙ cond-true _ (Some a) (finmap.get held y) (eq_nat y x ∙ eq-eqb y x is)

    there : (y ≡ x → ⊥) → finmap.get (finmap.insert held x a) y ≡ finmap.get held y
    there not = finmap.get-insert nat_cmp_total held x a y ∙ cond-false _ (Some a) (finmap.get held y) (eq_nat y x ∙ ne_eqb y x not)

-- a held operation can be read
pub held_now : (x : ℕ) (q : Option Op) (held : finmap.FinMap nat_cmp Op) (o : Op) → q ≡ Some o → finmap.get (hold x q held) x ≡ Some o
held_now x None held o e = absurd cc
held_now x (Some a) held o e = finmap.get-insert nat_cmp_total held x a x ∙ cond-true _ (Some a) (finmap.get held x) (eq_nat x x ∙ eq-eqb x x refl) ∙ e

module _ (c : ContextModel) (x : ℕ) (s u : Stored) where
  abbrev pub IsTaken : Result (Unit {0}) Refusal → Type 0
  IsTaken r = MatchResult r (λ _. (take_reason x s.module_of.tree ≡ None) × (u ≡ after_take x s)) (λ e. (take_reason x s.module_of.tree ≡ Some e) × (u ≡ s))

  pub sound_after : (r : Result (Unit {0}) Refusal) → IsTaken r → IsSoundIn c s.module_of.tree → IsSoundIn c u.module_of.tree
  sound_after (Ok _) is sound = subst (λ (v : Stored). IsSoundIn c v.module_of.tree) (sym is.1) (without_sound c x s.module_of.tree sound)
  sound_after (Err e) is sound = subst (λ (v : Stored). IsSoundIn c v.module_of.tree) (sym is.1) sound

  pub wellformed_after : (r : Result (Unit {0}) Refusal) → IsTaken r → IsWellFormed (isolated_in c) s.module_of → IsWellFormed (isolated_in c) u.module_of
  wellformed_after (Ok _) is w = subst (λ (v : Stored). IsWellFormed (isolated_in c) v.module_of) (sym is.1) (take_keeps (isolated_in c) x s.module_of w is.0)
  wellformed_after (Err e) is w = subst (λ (v : Stored). IsWellFormed (isolated_in c) v.module_of) (sym is.1) w

  pub held_after : (r : Result (Unit {0}) Refusal) → IsTaken r → IsSoundIn c s.module_of.tree → HeldIsSound c s.held → HeldIsSound c u.held
  held_after (Ok _) is sound h = subst (λ (v : Stored). HeldIsSound c v.held) (sym is.1) (hold_sound c x (find x s.module_of.tree) s.held (λ o e. found_sound c x s.module_of.tree o sound e) h)
  held_after (Err e) is sound h = subst (λ (v : Stored). HeldIsSound c v.held) (sym is.1) h

  taken_at : IsWellFormed (isolated_in c) s.module_of → take_reason x s.module_of.tree ≡ None → (place : Place) × Takes x place false s.module_of (after_take x s).module_of
  taken_at w e = take_changes x false s.module_of (after_take x s).module_of w.distinct e refl refl

  -- the removed operation had a place
  pub located : IsWellFormed (isolated_in c) s.module_of → take_reason x s.module_of.tree ≡ None → place_of x s.module_of.tree ≡ None → ⊥
  located w e none = let t = taken_at w e in (let bad : None ≡ Some t.0 = sym none ∙ t.1.there in absurd cc)

  pub take_step : (place : Place) → place_of x s.module_of.tree ≡ Some place → take_reason x s.module_of.tree ≡ None → u ≡ after_take x s → IsWellFormed (isolated_in c) s.module_of → IsSoundIn c s.module_of.tree
      → Step c (Take x place false) (module_meaning c s.module_of) (module_meaning c u.module_of)
  take_step place at e is w sound =
      let t = taken_at w e in
      let two : Some t.0 ≡ Some place = sym t.1.there ∙ at in
      let same : t.0 ≡ place = cc in
      subst (λ (v : Stored). Step c (Take x place false) (module_meaning c s.module_of) (module_meaning c v.module_of)) (sym is)
      (taken_steps c x place false s.module_of (after_take x s).module_of w (take_keeps (isolated_in c) x s.module_of w e) sound (subst (λ p. Takes x p false s.module_of (after_take x s).module_of) same t.1))

  -- and it is shown unchanged
  pub still_shown : has_id x s.module_of.tree ≡ true → eqb (head s.module_of.tree).id x ≡ false
      → option_map (λ o. node_of (meaning c o)) (known x (after_take x s)) ≡ option_map node_of (find x (meaning c s.module_of.tree))
  still_shown there inner =
      ap (λ q. option_map (λ o. node_of (meaning c o)) (first_of q (finmap.get (hold x (find x s.module_of.tree) s.held) x))) (not_there x s.module_of.tree inner)
      ∙ go (find x s.module_of.tree) refl
      ∙ sym (ap (option_map node_of) (map_find (name_term c) (type_term c) (attr_term c) x s.module_of.tree))
    where
      go : (q : Option Op) → find x s.module_of.tree ≡ q → option_map (λ o. node_of (meaning c o)) (finmap.get (hold x q s.held) x) ≡ option_map node_of (option_map (meaning c) q)
      go None f = absurd (true≢false (sym there ∙ none_found x s.module_of.tree f))
      go (Some o) f = ap (option_map (λ o. node_of (meaning c o))) (held_now x (Some o) s.held o refl)

  pub shown_taken : take_reason x s.module_of.tree ≡ None → u ≡ after_take x s → option_map (λ o. node_of (meaning c o)) (known x u) ≡ option_map node_of (find x (meaning c s.module_of.tree))
  shown_taken e is = (let reasons = no_take_reason x s.module_of.tree e in ap (λ v. option_map (λ o. node_of (meaning c o)) (known x v)) is ∙ still_shown reasons.there reasons.inner)
