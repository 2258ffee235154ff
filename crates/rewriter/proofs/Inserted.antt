-- An IR state into which an operation is inserted without checks.
use Rattle.std.proofs.Common.{◌≡◌, sym, subst, refl, ℕ, Option, Some, None, true, false}
use Rattle.std.specs.Prelude.{Bool, ◌&&◌, nat_lt, Result, Ok, Err, IfOk, OnErr}
use Rattle.std.specs.List.{list_all}
use Rattle.ir_event.specs.types.declared.refusal.Refusal.{Refusal}
use Rattle.ir_event.specs.types.declared.refusal.Refusal.TheVariants.{NoSuchOp, NoSuchValue, NoSuchIndex, Full, IdsExhausted, TooDeepHere}
use Rattle.ir_event.specs.types.Things.{ContextModel}
use Rattle.ir_event.specs.trees.declared.place.Place.{Place}
use Rattle.ir_event.specs.trees.Ids.{has_id, op_count}
use Rattle.ir_event.specs.trees.Limits.{most_ops, most_next, op_fits}
use Rattle.ir_event.specs.trees.Tree.{Op, head, regions}
use Rattle.ir_event.specs.trees.Meaning.{IsSoundIn, isolated_in}
use Rattle.ir_event.specs.trees.WellFormed.{IsWellFormed}
use Rattle.ir_event.specs.tree_laws.Reads.{around}
use Rattle.ir_event.specs.tree_laws.Reasons.{fits_around, has_place, hold_none, put_reason, unless, with_id}
use Rattle.ir_event.specs.tree_laws.Values.{has_value}
use Rattle.ir_event.specs.store.Calls.{after_put}
use Rattle.ir_event.specs.store.Puts.{put_fault}
use Rattle.ir_event.specs.store.Stored.{Stored}
use Rattle.ir_event.specs.declared.event.Event.{Event}
use Rattle.ir_event.specs.declared.event.Event.TheVariants.{Put}
use Rattle.ir_event.specs.Edits.{IsPutStep}
use Rattle.ir_event.specs.Facts.{HeldIsSound}
use Rattle.ir_event.specs.Modules.{module_meaning}
use Rattle.ir_event.specs.Step.{Step}
use Rattle.ir_event.proofs.Sounds.{renamed_sound}
use Rattle.ir_event.proofs.of_trees.SoundEdits.{put_sound}
use Rattle.ir_event.proofs.of_tree_laws.WellKept.{put_keeps}

-- without a reason at the end of one list of reasons, there is none at the end of another
unless_none : (b : Bool) (r : Refusal) (rest more : Option Refusal) → (rest ≡ None → more ≡ None) → unless b r rest ≡ None → unless b r more ≡ None
unless_none true r rest more f e = f e
unless_none false r rest more f e = absurd cc

module _ (c : ContextModel) (place : Place) (o : Op) (s : Stored) where
  abbrev reason : Option Refusal
  reason = put_reason (isolated_in c) place o s.module_of.next s.module_of.tree

  pub may_insert : reason ≡ None → put_fault place o s.module_of.next s.module_of.tree ≡ None
  may_insert =
      let t = s.module_of.tree in
      unless_none (has_id place.parent t) NoSuchOp _ _
      (unless_none (has_place place t) NoSuchIndex _ _
      (unless_none (nat_lt (op_count t) most_ops && op_fits o) Full _ _
      (unless_none (nat_lt s.module_of.next most_next) IdsExhausted _ _
      (unless_none (fits_around 0 (around place.parent t)) TooDeepHere _ _
      (unless_none (list_all (λ v. has_value v t) (head o).operands) NoSuchValue _ None (λ _. refl))))))

  -- the store after a call that inserted a header, or ran out of memory
  abbrev pub IsInserted : Stored → Result Event Refusal → Type 0
  IsInserted u r = IfOk r (λ e. (e ≡ Put s.module_of.next place true) × (u ≡ after_put place o s))

  -- what holds of the store before and after the insertion
  holds_after : (P : Stored → Type 0) (u : Stored) (r : Result Event Refusal) → IsInserted u r → OnErr r (u ≡ s) → P s → P (after_put place o s) → P u
  holds_after P u (Ok e) is err old new = subst P (sym is.1) new
  holds_after P u (Err e) is err old new = subst P (sym err) old

  module _ (u : Stored) (r : Result Event Refusal) (is : IsInserted u r) (err : OnErr r (u ≡ s)) where
    pub sound_inserted : IsSoundIn c o → IsSoundIn c s.module_of.tree → IsSoundIn c u.module_of.tree
    sound_inserted own sound = holds_after (λ (v : Stored). IsSoundIn c v.module_of.tree) u r is err sound (put_sound c place (with_id s.module_of.next o) s.module_of.tree (renamed_sound c s.module_of.next o own) sound)

    pub wellformed_inserted : hold_none (regions o) ≡ true → reason ≡ None → IsWellFormed (isolated_in c) s.module_of → IsWellFormed (isolated_in c) u.module_of
    wellformed_inserted leaf free w = holds_after (λ (v : Stored). IsWellFormed (isolated_in c) v.module_of) u r is err w (put_keeps (isolated_in c) place o s.module_of w leaf free)

    pub held_inserted : HeldIsSound c s.held → HeldIsSound c u.held
    held_inserted h = holds_after (λ (v : Stored). HeldIsSound c v.held) u r is err h h

  pub insert_step : (u : Stored) (r : Result Event Refusal) → IsInserted u r → Step c (Put s.module_of.next place true) (module_meaning c s.module_of) (module_meaning c (after_put place o s).module_of)
      → IfOk r (λ e. IsPutStep place e c (module_meaning c s.module_of) (module_meaning c u.module_of))
  insert_step u (Err e) is step = tt
  insert_step u (Ok e) is step = (is.0, subst (λ (z : Event × Stored). Step c z.0 (module_meaning c s.module_of) (module_meaning c z.1.module_of)) (λ i. (sym is.0 i, sym is.1 i)) step)
