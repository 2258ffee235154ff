-- Each edit is recorded in the journal.
use Rattle.std.proofs.Common.{◌≡◌, refl, ap, sym, ◌∙◌, subst, ℕ, Bool, true, false, true≢false, List, length, ◌⊎◌, inl, inr, Option, Some, None, arith}
use Rattle.std.proofs.lemmas.Bool.{lt-ltb}
use Rattle.std.specs.Prelude.{option_map, is_some}
use Rattle.std.specs.FinMap as finmap
use Rattle.ir_event.specs.types.Things.{ContextModel}
use Rattle.ir_event.specs.types.Terms.{name_term, type_term, attr_term}
use Rattle.ir_event.specs.types.declared.refusal.Refusal.TheVariants.{NoSuchKey}
use Rattle.ir_event.specs.trees.declared.value.Value.{Value}
use Rattle.ir_event.specs.trees.declared.place.Place.{Place}
use Rattle.ir_event.specs.trees.declared.place.Part.{Part}
use Rattle.ir_event.specs.trees.Tree.{Op, head}
use Rattle.ir_event.specs.trees.Ids.{find, has_id}
use Rattle.ir_event.specs.trees.Edits.{entry_at, part_of}
use Rattle.ir_event.specs.trees.Meaning.{IsSoundIn, is_attr, key_before, key_before_in, meaning}
use Rattle.ir_event.proofs.of_trees.Mapped.{map_find}
use Rattle.ir_event.proofs.of_trees.SoundEdits.{entry_sound, operand_sound, put_sound, without_sound}
use Rattle.ir_event.specs.tree_laws.Reasons.{entry_reason, found_entry_reason, set_entry_reason, unless, with_id}
use Rattle.ir_event.proofs.of_tree_laws.Contents.{map_entry_in, some_map}
use Rattle.ir_event.specs.store.Slots.{has_key}
use Rattle.ir_event.specs.store.Stored.{Stored, none_gone}
use Rattle.ir_event.specs.store.Calls.{after_entry, after_operand, after_put, after_shift, after_take, hold}
use Rattle.ir_event.specs.declared.event.Event.{Event}
use Rattle.ir_event.specs.declared.event.Event.TheVariants.{Put, Take, SetOperand, SetEntry, Shift}
use Rattle.ir_event.specs.Modules.{module_meaning}
use Rattle.ir_event.specs.Step.{IsAttrOrNone, IsOperandStep, Step}
use Rattle.ir_event.proofs.Shown.{known_there}
use Rattle.ir_event.proofs.Sounds.{found_sound, renamed_sound, shifted_sound}
use Rattle.ir_event.proofs.Steps.{wellformed_numbers}
use Rattle.ir_event.specs.Edits.{IsEntryStep, IsPutStep, IsShiftStep, IsTakeStep}
use Rattle.ir_event.specs.Undoing.{undone}
use Rattle.ir_event.proofs.Taking.{held_now, hold_sound}
use Rattle.rewriter_machine.specs.Journals.{IsJournal, TracksRemovedKeys, IsStoreOf, Noted}
use Rattle.rewriter_machine.proofs.Maps.{cut_other, hold_other, set_other}
use Rattle.rewriter_machine.proofs.Keys.{part_key}
use Rattle.rewriter_machine.proofs.Trees.{found_op, found_present}
use Rattle.rewriter_machine.proofs.Carries.{carries_same}
use Rattle.rewriter_machine.proofs.Entered.{carries_reverted, slot_after}
use Rattle.rewriter_machine.proofs.Undoings.{entry_there, retract_of}
use Rattle.rewriter_machine.proofs.Ended.{noted_from}
use Rattle.ir_event.proofs.Entered.{attr_is}

module _ (c : ContextModel) (es : List Event) (s : Stored) (w : IsStoreOf c s) (h : IsJournal c es s) where
  after_put_noted : (place : Place) (o : Op) → IsSoundIn c o → Step c (Put s.module_of.next place true) (module_meaning c s.module_of) (module_meaning c (after_put place o s).module_of) → Noted c es (Put s.module_of.next place true) s (after_put place o s)
  after_put_noted place o own step =
      let x = s.module_of.next in
      noted_from c es (Put x place true) s (after_put place o s) w
      (record { context = w.context; sound = put_sound c place (with_id x o) s.module_of.tree (renamed_sound c x o own) w.sound; wellformed = wellformed_numbers c (after_put place o s).module_of step.after; held = w.held }) h refl (record { step = step; keeps = tt })
      (λ e. carries_same x s (undone c (Put x place true) (after_put place o s)) e (λ y lt k. hold_other x (find x (after_put place o s).module_of.tree) s.held y (λ same. omega (arith, lt, same))) (λ y lt. set_other s.gone x none_gone y (λ same. omega (arith, lt, same))))

  after_take_noted : (x : ℕ) (place : Place) → Step c (Take x place false) (module_meaning c s.module_of) (module_meaning c (after_take x s).module_of) → Noted c es (Take x place false) s (after_take x s)
  after_take_noted x place step =
      let r = retract_of c x place false s.module_of (module_meaning c (after_take x s).module_of) step.changes in
      let o = found_op x s.module_of.tree r.there in
      noted_from c es (Take x place false) s (after_take x s) w
      (record {
        context = w.context;
        sound = without_sound c x s.module_of.tree w.sound;
        wellformed = wellformed_numbers c (after_take x s).module_of step.after;
        held = hold_sound c x (find x s.module_of.tree) s.held (λ o e. found_sound c x s.module_of.tree o w.sound e) w.held;
      }) h refl
      (record { step = step; keeps = (o.0, held_now x (find x s.module_of.tree) s.held o.0 o.1, map_find (name_term c) (type_term c) (attr_term c) x s.module_of.tree ∙ ap (option_map (meaning c)) o.1) })
      (λ e. carries_same s.module_of.next s (undone c (Take x place false) (after_take x s)) e
      (λ y lt k. let other : y ≡ x → ⊥ = λ same. true≢false (sym r.there ∙ ap (λ z. has_id z s.module_of.tree) (sym same) ∙ k) in
      cut_other (hold x (find x s.module_of.tree) s.held) x y other ∙ hold_other x (find x s.module_of.tree) s.held y other) (λ y lt. refl))

  after_operand_noted : (x k : ℕ) (old v : Value) → Step c (SetOperand x k old v) (module_meaning c s.module_of) (module_meaning c (after_operand x k v s).module_of) → Noted c es (SetOperand x k old v) s (after_operand x k v s)
  after_operand_noted x k old v step =
      noted_from c es (SetOperand x k old v) s (after_operand x k v s) w
      (record { context = w.context; sound = operand_sound c x k v s.module_of.tree w.sound; wellformed = wellformed_numbers c (after_operand x k v s).module_of step.after; held = w.held }) h tt (record { step = step; keeps = tt })
      (λ e. carries_same s.module_of.next s (undone c (SetOperand x k old v) (after_operand x k v s)) e (λ y lt k. refl) (λ y lt. refl))

  after_shift_noted : (x : ℕ) (old place : Place) → Step c (Shift x old place) (module_meaning c s.module_of) (module_meaning c (after_shift x place s).module_of) → Noted c es (Shift x old place) s (after_shift x place s)
  after_shift_noted x old place step =
      noted_from c es (Shift x old place) s (after_shift x place s) w
      (record { context = w.context; sound = shifted_sound c x place s.module_of.tree w.sound; wellformed = wellformed_numbers c (after_shift x place s).module_of step.after; held = w.held }) h tt (record { step = step; keeps = tt })
      (λ e. carries_same s.module_of.next s (undone c (Shift x old place) (after_shift x place s)) e (λ y lt k. refl) (λ y lt. refl))

  module _ (x : ℕ) (part : Part) (k : ℕ) (old a : Option ℕ) (step : Step c (SetEntry x part k old a) (module_meaning c s.module_of) (module_meaning c (after_entry (key_before_in c) x part k a s).module_of)) where
    abbrev after : Stored
    after = after_entry (key_before_in c) x part k a s

    o : (o : Op) × (find x s.module_of.tree ≡ Some o)
    o = entry_there c x part (name_term c k) s.module_of.tree _ step.changes.was

    abbrev entries : List (ℕ × ℕ)
    entries = part_of part (head o.0)

    -- the previous entry
    was_there : is_some (entry_at (key_before_in c) k entries) ≡ is_some old
    was_there =
        let two : Some (option_map (attr_term c) (entry_at (key_before_in c) k entries)) ≡ Some (option_map (attr_term c) old) =
        sym (map_entry_in (name_term c) (type_term c) (attr_term c) key_before x part k s.module_of.tree ∙ ap (λ q. option_map (option_map (attr_term c)) (option_map (λ (o : Op). entry_at (key_before_in c) k (part_of part (head o))) q)) o.1) ∙ step.changes.was in
        let one : option_map (attr_term c) (entry_at (key_before_in c) k entries) ≡ option_map (attr_term c) old = cc in
        sym (some_map (attr_term c) (entry_at (key_before_in c) k entries)) ∙ ap is_some one ∙ some_map (attr_term c) old

    was_key : (q : Option ℕ) → old ≡ q → (e : Option ℕ) → entry_at (key_before_in c) k entries ≡ e → old ≡ None ⊎ (has_key k entries ≡ true)
    was_key None f e g = inl f
    was_key (Some v) f (Some b) g = inr (part_key c w.context k step.numbers.0 part o.0 (found_sound c x s.module_of.tree o.0 w.sound o.1) b g)
    was_key (Some v) f None g = absurd (true≢false (sym (sym (ap is_some g) ∙ was_there ∙ ap is_some f)))

    is_set : (b : Option ℕ) → found_entry_reason (key_before_in c) part k b (find x s.module_of.tree) ≡ None → old ≡ None → is_some b ≡ true
    is_set (Some b) e f = refl
    is_set None e f = absurd (go (is_some (entry_at (key_before_in c) k entries)) refl)
      where
        reason : entry_reason (key_before_in c) k None entries ≡ None
        reason = sym (ap (found_entry_reason (key_before_in c) part k None) o.1) ∙ e

        go : (d : Bool) → is_some (entry_at (key_before_in c) k entries) ≡ d → ⊥
        go true i = true≢false (sym i ∙ was_there ∙ ap is_some f)
        go false i = (let bad : Some _ ≡ None = sym (ap (λ d. unless d NoSuchKey None) i) ∙ reason in cc)

    pub after_entry_noted : TracksRemovedKeys s → set_entry_reason (key_before_in c) x part k a s.module_of.tree ≡ None → Noted c es (SetEntry x part k old a) s (after_entry (key_before_in c) x part k a s)
    after_entry_noted slotted reason =
        let some : is_some (finmap.get s.gone x) ≡ true = slotted x (ap is_some (known_there x s (found_present x s.module_of.tree o.0 o.1) ∙ o.1)) in
        noted_from c es (SetEntry x part k old a) s after w
        (record {
          context = w.context;
          sound = entry_sound c x part k a s.module_of.tree (lt-ltb k (length c.names) step.numbers.0) (attr_is c a step.numbers.1.1) w.sound;
          wellformed = wellformed_numbers c after.module_of step.after;
          held = w.held;
        }) h tt (record { step = step; keeps = (slot_after (key_before_in c) x part k a s o.0 o.1 some, is_set a reason) })
        (λ e. carries_reverted (key_before_in c) x part k a old s o.0 o.1 (was_key old refl (entry_at (key_before_in c) k entries) refl) e s.module_of.next)

  module _ (e : Event) (u : Stored) where
    pub put_noted : (place : Place) (o : Op) → IsSoundIn c o → u ≡ after_put place o s → IsPutStep place e c (module_meaning c s.module_of) (module_meaning c u.module_of) → Noted c es e s u
    put_noted place o own is step =
        subst (λ (p : Event × Stored). Step c p.0 (module_meaning c s.module_of) (module_meaning c p.1.module_of) → Noted c es p.0 s p.1) (λ i. (sym step.0 i, sym is i)) (after_put_noted place o own) step.1

    pub take_noted : (x : ℕ) → u ≡ after_take x s → IsTakeStep x e c (module_meaning c s.module_of) (module_meaning c u.module_of) → Noted c es e s u
    take_noted x is step =
        subst (λ (p : Event × Stored). Step c p.0 (module_meaning c s.module_of) (module_meaning c p.1.module_of) → Noted c es p.0 s p.1) (λ i. (sym step.1 i, sym is i)) (after_take_noted x step.0) step.2

    pub operand_noted : (x k : ℕ) (v : Value) → u ≡ after_operand x k v s → IsOperandStep x k v e c (module_meaning c s.module_of) (module_meaning c u.module_of) → Noted c es e s u
    operand_noted x k v is step =
        subst (λ (p : Event × Stored). Step c p.0 (module_meaning c s.module_of) (module_meaning c p.1.module_of) → Noted c es p.0 s p.1) (λ i. (sym step.1 i, sym is i)) (after_operand_noted x k step.0 v) step.2

    pub shift_noted : (x : ℕ) (place : Place) → u ≡ after_shift x place s → IsShiftStep x place e c (module_meaning c s.module_of) (module_meaning c u.module_of) → Noted c es e s u
    shift_noted x place is step =
        subst (λ (p : Event × Stored). Step c p.0 (module_meaning c s.module_of) (module_meaning c p.1.module_of) → Noted c es p.0 s p.1) (λ i. (sym step.1 i, sym is i)) (after_shift_noted x step.0 place) step.2

    pub entry_noted : (x : ℕ) (part : Part) (k : ℕ) (a : Option ℕ) → TracksRemovedKeys s → set_entry_reason (key_before_in c) x part k a s.module_of.tree ≡ None → u ≡ after_entry (key_before_in c) x part k a s
        → IsEntryStep x part k a e c (module_meaning c s.module_of) (module_meaning c u.module_of) → Noted c es e s u
    entry_noted x part k a slotted reason is step =
        subst (λ (p : Event × Stored). Step c p.0 (module_meaning c s.module_of) (module_meaning c p.1.module_of) → Noted c es p.0 s p.1) (λ i. (sym step.1 i, sym is i)) (λ z. after_entry_noted x part k step.0 a z slotted reason) step.2
