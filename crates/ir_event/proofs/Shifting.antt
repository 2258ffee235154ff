-- An IR state in which an operation is moved.
use Rattle.std.proofs.Common.{◌≡◌, sym, ◌∙◌, subst, ℕ, Option, Some, None}
use Rattle.std.specs.Prelude.{Result, Ok, Err, IfOk, OnOk, OnErr, MatchResult}
use Rattle.op_registry.specs.types.declared.refusal.Refusal.{Refusal}
use Rattle.op_registry.specs.types.Things.{ContextModel}
use Rattle.op_registry.specs.types.Terms.{name_term}
use Rattle.op_registry.specs.types.Words.{is_table}
use Rattle.ir_store.specs.trees.declared.place.Place.{Place}
use Rattle.ir_store.specs.trees.Places.{place_of}
use Rattle.ir_store.specs.trees.Meaning.{IsSoundIn, isolated_in}
use Rattle.ir_store.specs.trees.WellFormed.{IsWellFormed}
use Rattle.ir_store.specs.tree_laws.Changes.{Shifts}
use Rattle.ir_store.specs.tree_laws.Reasons.{shift_reason}
use Rattle.ir_store.proofs.of_tree_laws.Changed.{shift_changes}
use Rattle.ir_store.proofs.of_tree_laws.WellKept.{shift_keeps}
use Rattle.ir_store.specs.Stored.{Stored}
use Rattle.ir_store.specs.Calls.{after_shift}
use Rattle.ir_event.specs.declared.event.Event.{Event}
use Rattle.ir_event.specs.declared.event.Event.TheVariants.{Shift}
use Rattle.ir_event.specs.Facts.{HeldIsSound}
use Rattle.ir_event.specs.Modules.{module_meaning}
use Rattle.ir_event.specs.Step.{Step}
use Rattle.ir_event.proofs.Sounds.{shifted_sound}
use Rattle.ir_event.proofs.Undone.{moved_steps}
use Rattle.ir_event.specs.Edits.{IsShiftEvent, IsShiftStep}

module _ (c : ContextModel) (x : ℕ) (place : Place) (s u : Stored) where
  abbrev reason : Option Refusal
  reason = shift_reason (isolated_in c) (λ n. is_table (name_term c n)) x place s.module_of.tree

  shifts_at : IsWellFormed (isolated_in c) s.module_of → reason ≡ None → (old : Place) × Shifts (λ n. is_table (name_term c n)) x old place s.module_of (after_shift x place s).module_of
  shifts_at w e = shift_changes (isolated_in c) (λ n. is_table (name_term c n)) x place s.module_of w.distinct e

  -- the moved operation had a place
  pub located : IsWellFormed (isolated_in c) s.module_of → reason ≡ None → place_of x s.module_of.tree ≡ None → ⊥
  located w e none = let t = shifts_at w e in (let bad : None ≡ Some t.0 = sym none ∙ t.1.was in absurd cc)

  pub sound_after : (r : Result Event Refusal) → OnOk r (u ≡ after_shift x place s) → OnErr r (u ≡ s) → IsSoundIn c s.module_of.tree → IsSoundIn c u.module_of.tree
  sound_after (Ok e) is err own = subst (λ (v : Stored). IsSoundIn c v.module_of.tree) (sym is) (shifted_sound c x place s.module_of.tree own)
  sound_after (Err e) is err own = subst (λ (v : Stored). IsSoundIn c v.module_of.tree) (sym err) own

  pub held_after : (r : Result Event Refusal) → OnOk r (u ≡ after_shift x place s) → OnErr r (u ≡ s) → HeldIsSound c s.held → HeldIsSound c u.held
  held_after (Ok e) is err h = subst (λ (v : Stored). HeldIsSound c v.held) (sym is) h
  held_after (Err e) is err h = subst (λ (v : Stored). HeldIsSound c v.held) (sym err) h

  pub shift_step : (r : Result Event Refusal) → IfOk r (λ e. IsShiftEvent x place s.module_of.tree e) → OnOk r (u ≡ after_shift x place s) → MatchResult r (λ _. reason ≡ None) (λ e. reason ≡ Some e)
      → IsWellFormed (isolated_in c) s.module_of → IsSoundIn c s.module_of.tree → IfOk r (λ e. IsShiftStep x place e c (module_meaning c s.module_of) (module_meaning c u.module_of))
  shift_step (Err e) event is none w own = tt
  shift_step (Ok e) event is none w own =
      let t = shifts_at w none in
      let two : Some t.0 ≡ Some event.0 = sym t.1.was ∙ event.2 in
      let same : t.0 ≡ event.0 = cc in
      let shifts : Shifts (λ n. is_table (name_term c n)) x event.0 place s.module_of (after_shift x place s).module_of =
      subst (λ p. Shifts (λ n. is_table (name_term c n)) x p place s.module_of (after_shift x place s).module_of) same t.1 in
      let one : Step c (Shift x event.0 place) (module_meaning c s.module_of) (module_meaning c u.module_of) =
      subst (λ (v : Stored). Step c (Shift x event.0 place) (module_meaning c s.module_of) (module_meaning c v.module_of)) (sym is)
      (moved_steps c x event.0 place s.module_of (after_shift x place s).module_of w (shift_keeps (isolated_in c) (λ n. is_table (name_term c n)) x place s.module_of w none) own (shifted_sound c x place s.module_of.tree own) shifts) in
      (event.0, event.1, subst (λ (f : Event). Step c f (module_meaning c s.module_of) (module_meaning c u.module_of)) (sym event.1) one)
