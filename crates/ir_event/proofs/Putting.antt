-- An IR state into which an operation is inserted.
use Rattle.std.proofs.Common.{◌≡◌, sym, subst, true, None}
use Rattle.std.specs.Prelude.{Result, Ok, Err, IfOk, OnErr, MatchResult}
use Rattle.op_registry.specs.types.declared.refusal.Refusal.{Refusal}
use Rattle.op_registry.specs.types.Reasons.{IsRefusedFor}
use Rattle.op_registry.specs.types.Things.{ContextModel}
use Rattle.ir_store.specs.trees.declared.place.Place.{Place}
use Rattle.ir_store.specs.trees.Tree.{Op, regions}
use Rattle.ir_store.specs.trees.Meaning.{IsSoundIn, isolated_in}
use Rattle.ir_store.specs.trees.WellFormed.{IsWellFormed}
use Rattle.ir_store.proofs.of_trees.SoundEdits.{put_sound}
use Rattle.ir_store.specs.tree_laws.Reasons.{hold_none, put_reason, with_id}
use Rattle.ir_store.specs.Stored.{Stored}
use Rattle.ir_store.specs.Calls.{after_put}
use Rattle.ir_event.specs.declared.event.Event.{Event}
use Rattle.ir_event.specs.declared.event.Event.TheVariants.{Put}
use Rattle.ir_event.specs.Facts.{HeldIsSound}
use Rattle.ir_event.specs.Modules.{module_meaning}
use Rattle.ir_event.specs.Step.{Step}
use Rattle.ir_event.proofs.Sounds.{renamed_sound}
use Rattle.ir_event.specs.Edits.{IsPutStep}
use Rattle.ir_event.proofs.Stepped.{put_steps}

module _ (c : ContextModel) (place : Place) (o : Op) (s u : Stored) where
  -- the store after a call that inserted a header, or was refused
  abbrev pub IsPut : Result Event Refusal → Type 0
  IsPut r = IfOk r (λ e. (e ≡ Put s.module_of.next place true) × (u ≡ after_put place o s))

  pub sound_after : (r : Result Event Refusal) → IsPut r → OnErr r (u ≡ s) → IsSoundIn c o → IsSoundIn c s.module_of.tree → IsSoundIn c u.module_of.tree
  sound_after (Ok x) is err own sound = subst (λ (v : Stored). IsSoundIn c v.module_of.tree) (sym is.1) (put_sound c place (with_id s.module_of.next o) s.module_of.tree (renamed_sound c s.module_of.next o own) sound)
  sound_after (Err e) is err own sound = subst (λ (v : Stored). IsSoundIn c v.module_of.tree) (sym err) sound

  pub held_after : (r : Result Event Refusal) → IsPut r → OnErr r (u ≡ s) → HeldIsSound c s.held → HeldIsSound c u.held
  held_after (Ok x) is err h = subst (λ (v : Stored). HeldIsSound c v.held) (sym is.1) h
  held_after (Err e) is err h = subst (λ (v : Stored). HeldIsSound c v.held) (sym err) h

  pub put_step : (r : Result Event Refusal) → IsPut r → MatchResult r (λ _. put_reason (isolated_in c) place o s.module_of.next s.module_of.tree ≡ None) (λ e. IsRefusedFor {A = Unit {0}} (put_reason (isolated_in c) place o s.module_of.next s.module_of.tree) (Err e))
      → IsWellFormed (isolated_in c) s.module_of → IsSoundIn c s.module_of.tree → IsSoundIn c o → hold_none (regions o) ≡ true
      → IfOk r (λ e. IsPutStep place e c (module_meaning c s.module_of) (module_meaning c u.module_of))
  put_step (Err e) is none w sound own leaf = tt
  put_step (Ok e) is none w sound own leaf =
      let one : Step c (Put s.module_of.next place true) (module_meaning c s.module_of) (module_meaning c u.module_of) =
      subst (λ (v : Stored). Step c (Put s.module_of.next place true) (module_meaning c s.module_of) (module_meaning c v.module_of)) (sym is.1) (put_steps c place o s.module_of w sound own leaf none) in
      (is.0, subst (λ (f : Event). Step c f (module_meaning c s.module_of) (module_meaning c u.module_of)) (sym is.0) one)
