-- Journals in an extended context.
use Rattle.std.proofs.Common.{◌≡◌, refl, ap, sym, ◌∙◌, subst, ℕ, List, [], ◌∷◌, length, Option, Some, None}
use Rattle.std.proofs.lemmas.Bool.{lt-ltb}
use Rattle.std.specs.Prelude.{option_map}
use Rattle.ir_event.specs.types.Things.{ContextModel, IsExtendedBy}
use Rattle.ir_event.specs.types.Sound.{IsSound}
use Rattle.ir_event.specs.types.Terms.{name_term, type_term, attr_term}
use Rattle.ir_event.proofs.of_types.Terms.{attr_stays, name_stays}
use Rattle.ir_event.specs.trees.declared.place.Part.{Part}
use Rattle.ir_event.specs.trees.Edits.{with_entry}
use Rattle.ir_event.specs.trees.Meaning.{IsSoundIn, key_before, key_before_in}
use Rattle.ir_event.proofs.of_trees.MappedEdits.{map_with_entry}
use Rattle.ir_event.proofs.of_trees.Meanings.{apart, stable, stays_sound}
use Rattle.ir_event.proofs.of_trees.SoundEdits.{entry_sound}
use Rattle.ir_event.specs.store.Stored.{Stored}
use Rattle.ir_event.specs.store.Calls.{after_entry}
use Rattle.ir_event.specs.declared.event.Event.{Event}
use Rattle.ir_event.specs.declared.event.Event.TheVariants.{Put, Take, SetOperand, SetEntry, Shift}
use Rattle.ir_event.specs.Modules.{Module, module_meaning}
use Rattle.ir_event.specs.Step.{EventIsOf, IsAttrOrNone, Step}
use Rattle.ir_event.proofs.Growing.{wellformed_stays, held_stays, module_stays}
use Rattle.ir_event.proofs.Steps.{step_stays}
use Rattle.ir_event.specs.Undoing.{CameFrom, Keeps, undone}
use Rattle.rewriter_machine.specs.Journals.{IsJournal, IsStoreOf, before, undone_all}
use Rattle.rewriter_machine.proofs.Ended.{store_after}
use Rattle.ir_event.proofs.Entered.{attr_is}

module _ (c d : ContextModel) (g : IsExtendedBy c d) (rich : IsSound d) where
  pub store_stays : (s : Stored) → IsStoreOf c s → IsStoreOf d s
  store_stays s w = record {
    context = rich;
    sound = stays_sound c d s.module_of.tree g w.sound;
    wellformed = wellformed_stays c d s.module_of w.context.holds g w.sound w.wellformed;
    held = held_stays c d s.held g w.held;
  }

  attr_same : (s : Stored) → IsStoreOf c s → (a : Option ℕ) → IsAttrOrNone c a → option_map (attr_term d) a ≡ option_map (attr_term c) a
  attr_same s w None h = refl
  attr_same s w (Some a) h = ap Some (attr_stays c d a w.context.holds g h)

  -- an entry is set in the same way
  entry_stays : (s : Stored) → IsStoreOf c s → (x : ℕ) (part : Part) (k : ℕ) (a b : Option ℕ) → EventIsOf c (SetEntry x part k a b) → EventIsOf d (SetEntry x part k a b) → with_entry (key_before_in d) x part k a s.module_of.tree ≡ with_entry (key_before_in c) x part k a s.module_of.tree
  entry_stays s w x part k a b is more =
      let t = s.module_of.tree in
      let own : IsSoundIn c (with_entry (key_before_in c) x part k a t) = entry_sound c x part k a t (lt-ltb k (length c.names) is.0) (attr_is c a is.1.0) w.sound in
      apart d (with_entry (key_before_in d) x part k a t) (with_entry (key_before_in c) x part k a t) rich
      (entry_sound d x part k a t (lt-ltb k (length d.names) more.0) (attr_is d a more.1.0) (stays_sound c d t g w.sound)) (stays_sound c d (with_entry (key_before_in c) x part k a t) g own)
      (sym (map_with_entry (name_term d) (type_term d) (attr_term d) key_before x part k a t)
      ∙ (λ i. with_entry key_before x part (name_stays c d k g is.0 i) (attr_same s w a is.1.0 i) (stable c d t w.context.holds g w.sound i))
      ∙ map_with_entry (name_term c) (type_term c) (attr_term c) key_before x part k a t
      ∙ sym (stable c d (with_entry (key_before_in c) x part k a t) w.context.holds g own))

  undone_stays : (e : Event) (s : Stored) → IsStoreOf c s → EventIsOf c e → EventIsOf d e → undone d e s ≡ undone c e s
  undone_stays (Put x place fresh) s w is more = refl
  undone_stays (Take x place fresh) s w is more = refl
  undone_stays (SetOperand x k old new) s w is more = refl
  undone_stays (SetEntry x part k old new) s w is more = ap (λ t. record (after_entry (key_before_in c) x part k old s) { module_of = record s.module_of { tree = t } }) (entry_stays s w x part k old new is more)
  undone_stays (Shift x old new) s w is more = refl

  keeps_stays : (e : Event) (p : Module) (s : Stored) → IsStoreOf c s → Keeps c e p s → Keeps d e p s
  keeps_stays (Put x place fresh) p s w k = k
  keeps_stays (Take x place fresh) p s w k = (k.0, k.1, k.2 ∙ ap Some (sym (stable c d k.0 w.context.holds g (w.held x k.0 k.1))))
  keeps_stays (SetOperand x i old new) p s w k = k
  keeps_stays (SetEntry x part i old new) p s w k = k
  keeps_stays (Shift x old new) p s w k = k

  came_stays : (e : Event) (p : Module) (s : Stored) → IsStoreOf c s → CameFrom c e p s → CameFrom d e p s
  came_stays e p s w f = record {
    step = subst (λ m. Step d e p m) (sym (module_stays c d s.module_of w.context.holds g w.sound)) (step_stays c d e p (module_meaning c s.module_of) w.context.holds g f.step);
    keeps = keeps_stays e p s w f.keeps;
  }

  after_stays : (es : List Event) (s : Stored) → IsStoreOf c s → IsJournal c es s → undone_all d es s ≡ undone_all c es s
  after_stays [] s w h = refl
  after_stays (e ∷ es) s w h =
      let v = store_after c es s w h.0 in
      ap (undone d e) (after_stays es s w h.0) ∙ undone_stays e (undone_all c es s) v h.1.1.step.numbers (step_stays c d e (before c (e ∷ es) s) (before c es s) v.context.holds g h.1.1.step).numbers

  pub before_stays : (es : List Event) (s : Stored) → IsStoreOf c s → IsJournal c es s → before d es s ≡ before c es s
  before_stays es s w h =
      let v = store_after c es s w h in
      ap (λ (u : Stored). module_meaning d u.module_of) (after_stays es s w h) ∙ module_stays c d (undone_all c es s).module_of v.context.holds g v.sound

  pub journal_stays : (es : List Event) (s : Stored) → IsStoreOf c s → IsJournal c es s → IsJournal d es s
  journal_stays [] s w h = tt
  journal_stays (e ∷ es) s w h = (
    journal_stays es s w h.0,
    (h.1.0, subst (λ (z : Stored × Module). CameFrom d e z.1 z.0) (λ i. (sym (after_stays es s w h.0) i, sym (before_stays (e ∷ es) s w h) i)) (came_stays e (before c (e ∷ es) s) (undone_all c es s) (store_after c es s w h.0) h.1.1)),
  )
