-- The precondition of undoing an event in a store, and the store afterwards.
use Rattle.std.proofs.Common.{◌≡◌, refl, ap, sym, ◌∙◌, subst, ℕ, ◌+◌, Bool, true, false, true≢false, cond, eqb, not, ◌&&◌, ◌||◌, ⊎_elim, length, List, [], ◌∷◌, Option, Some, None}
use Rattle.std.specs.Prelude.{option_map, is_some, IfSome}
use Rattle.std.specs.List.{AllByRecursion, list_all}
use Rattle.std.specs.Cmp.{nat_cmp_total}
use Rattle.std.specs.FinMap as finmap
use Rattle.std.proofs.lemmas.Bool.{lt-ltb, cases_eq, cases_Bool, eq-eqb, ne_eqb, cond-true, cond-false, or_right}
use Rattle.std.proofs.lemmas.List.Elements.{recursion_from_All}
use Rattle.op_registry.specs.types.Things.{ContextModel, IsName, IsAttr}
use Rattle.op_registry.specs.types.Sound.{IsSound}
use Rattle.op_registry.specs.types.Terms.{name_term, type_term, attr_term}
use Rattle.op_registry.specs.types.Words.{is_isolated}
use Rattle.ir_store.proofs.of_trees.of_types.Terms.{name_term_one}
use Rattle.ir_store.specs.trees.declared.place.Place.{Place}
use Rattle.ir_store.specs.trees.declared.place.Part.{Part}
use Rattle.ir_store.specs.trees.declared.place.Part.TheVariants.{Props, Attrs}
use Rattle.ir_store.specs.trees.Tree.{Op, op, head}
use Rattle.ir_store.specs.trees.Ids.{find, first_of, has_id}
use Rattle.ir_store.specs.trees.Edits.{entry_at, part_of, same_key}
use Rattle.ir_store.specs.trees.Places.{without}
use Rattle.ir_store.specs.trees.Meaning.{IsSoundIn, is_attr, isolated_in, key_before, key_before_in, meaning}
use Rattle.ir_store.specs.trees.WellFormed.{IsWellFormed}
use Rattle.ir_store.proofs.of_trees.SoundEdits.{operand_sound, entry_sound, put_sound, without_sound}
use Rattle.ir_store.specs.tree_laws.Values.{has_value}
use Rattle.ir_store.specs.tree_laws.Restores.{MayRestore, MayRetract}
use Rattle.ir_store.proofs.of_tree_laws.Around.{absent_find}
use Rattle.ir_store.proofs.of_tree_laws.Contents.{map_entry_in}
use Rattle.ir_store.proofs.of_tree_laws.Keys.{keys_ordered}
use Rattle.ir_store.specs.Slots.{has_key}
use Rattle.ir_store.specs.Nodes.{node_of}
use Rattle.ir_store.specs.Stored.{Stored, known, has_slot, is_some_with}
use Rattle.ir_store.specs.Calls.{lowered, raised, put_held, CanRestore, CanRetract, CanRevert}
use Rattle.ir_event.specs.declared.event.Event.{Event}
use Rattle.ir_event.specs.declared.event.Event.TheVariants.{Put, Take, SetOperand, SetEntry, Shift}
use Rattle.ir_event.specs.Facts.{HeldIsSound}
use Rattle.ir_event.specs.Listener.{ShowsTaken}
use Rattle.ir_event.specs.Modules.{Module, module_meaning}
use Rattle.ir_event.specs.Step.{Changes, EventIsOf, IsAttrOrNone, Step, inverse_of}
use Rattle.ir_event.proofs.Nodes.{node_known}
use Rattle.ir_event.proofs.Sounds.{found_sound, shifted_sound}
use Rattle.ir_event.proofs.Steps.{wellformed_numbers}
use Rattle.ir_event.proofs.Maps.{eq_nat}
use Rattle.ir_event.proofs.Taking.{hold_sound, still_shown}
use Rattle.ir_event.proofs.Undone.{put_undone, take_undone, operand_undone, entry_undone, shift_undone, relink_undone}
use Rattle.ir_event.specs.Undoing.{CameFrom, MayUndo, undone}
use Rattle.ir_event.proofs.Entered.{attr_is}

-- if a dictionary has an attribute at a key, the key is one of its keys
pub no_test : (a b : Bool) → (not a && not b) ≡ true → (a ≡ false) × (b ≡ false)
no_test true b e = absurd (true≢false (sym e))
no_test false true e = absurd (true≢false (sym e))
no_test false false e = (refl, refl)

entry_key : (c : ContextModel) (k a : ℕ) (es : List (ℕ × ℕ)) → IsSound c → IsName c k → AllByRecursion (λ (e : ℕ × ℕ). IsName c e.0 × IsAttr c e.1) es → entry_at (key_before_in c) k es ≡ Some a → has_key k es ≡ true
entry_key c k a [] sound key all e = absurd cc
entry_key c k a (d ∷ es) sound key all e = ⊎_elim
    (λ same. let n = no_test (key_before_in c k d.0) (key_before_in c d.0 k) same in
    let one : k ≡ d.0 = name_term_one c k d.0 sound key all.0.0 (keys_ordered.exact (name_term c k) (name_term c d.0) n.0 n.1) in
    ap (λ b. b || has_key k es) (eq-eqb d.0 k (sym one)))
    (λ other. or_right (eqb d.0 k) (has_key k es) (entry_key c k a es sound key all.1 (sym (cond-false (same_key (key_before_in c) k d.0) (Some d.1) (entry_at (key_before_in c) k es) other) ∙ e)))
    (cases_Bool (same_key (key_before_in c) k d.0))

part_key : (c : ContextModel) (part : Part) (k a : ℕ) (o : Op) → IsSound c → IsName c k → IsSoundIn c o → entry_at (key_before_in c) k (part_of part (head o)) ≡ Some a → has_key k (part_of part (head o)) ≡ true
part_key c Props k a (op h rs) sound key own e = entry_key c k a h.properties sound key (recursion_from_All _ h.properties (node_known c (op h rs) own).properties) e
part_key c Attrs k a (op h rs) sound key own e = entry_key c k a h.attributes sound key (recursion_from_All _ h.attributes (node_known c (op h rs) own).attributes) e

some_of : {X Y : Type 0} (f : X → Y) (q : Option X) (new : Option Y) → option_map f q ≡ new → is_some new ≡ true → (a : X) × (q ≡ Some a)
some_of f None new e is = absurd (true≢false (sym is ∙ ap is_some (sym e)))
some_of f (Some a) new e is = (a, refl)

mapped_is : {X Y : Type 0} (f : X → Y) (q : Option X) → is_some q ≡ true → is_some (option_map f q) ≡ true
mapped_is f None e = e
mapped_is f (Some a) e = refl

attr_if : (c : ContextModel) (a : Option ℕ) → IsAttrOrNone c a → IfSome a (λ b. IsAttr c b)
attr_if c None h = tt
attr_if c (Some a) h = h

is_there : (x : ℕ) (t o : Op) → find x t ≡ Some o → has_id x t ≡ true
is_there x t o e = ⊎_elim (λ y. y) (λ n. (let bad : None ≡ Some o = sym (absent_find x t n) ∙ e in absurd cc)) (cases_Bool (has_id x t))

-- a step back
changes_back : (c : ContextModel) (e : Event) (m n : Module) → Changes c e m n → Changes c (inverse_of e) n m
changes_back c (Put x place fresh) m n h = h
changes_back c (Take x place fresh) m n h = h
changes_back c (SetOperand x k old new) m n h = record { was = h.is; is = h.was; after = h.before; before = h.after; next = sym h.next }
changes_back c (SetEntry x part k old new) m n h = record { was = h.is; is = h.was; after = h.before; before = h.after; next = sym h.next }
changes_back c (Shift x old new) m n h = record { was = h.is; is = h.was; same = sym h.same; rest = sym h.rest; table = sym h.table; next = sym h.next }

numbers_back : (c : ContextModel) (e : Event) → EventIsOf c e → EventIsOf c (inverse_of e)
numbers_back c (Put x place fresh) h = tt
numbers_back c (Take x place fresh) h = tt
numbers_back c (SetOperand x k old new) h = tt
numbers_back c (SetEntry x part k old new) h = (h.0, (h.1.1, h.1.0))
numbers_back c (Shift x old new) h = tt

step_back : (c : ContextModel) (e : Event) (m n : Module) → Step c e m n → Step c (inverse_of e) n m
step_back c e m n s = record { before = s.after; after = s.before; sorted_before = s.sorted_after; sorted_after = s.sorted_before; numbers = numbers_back c e s.numbers; changes = changes_back c e m n s.changes }

module _ (c : ContextModel) (s : Stored) where
  -- the part of the step's change that is undone is in the store
  entry_can : (x : ℕ) (part : Part) (k : ℕ) (old new : Option ℕ) (p : Module) → IsSound c → IsSoundIn c s.module_of.tree → Step c (SetEntry x part k old new) p (module_meaning c s.module_of)
      → has_slot x part k s ≡ true → (old ≡ None → is_some new ≡ true) → CanRevert x part k old s
  entry_can x part k old new p sound own step slot set = go (find x s.module_of.tree) refl (sym (map_entry_in (name_term c) (type_term c) (attr_term c) key_before x part k s.module_of.tree) ∙ step.changes.is)
    where
      go : (q : Option Op) → find x s.module_of.tree ≡ q
          → option_map (option_map (attr_term c)) (option_map (λ (o : Op). entry_at (key_before_in c) k (part_of part (head o))) q) ≡ Some (option_map (attr_term c) new) → CanRevert x part k old s
      go None f e = absurd cc
      go (Some o) f e = record {
        there = is_there x s.module_of.tree o f;
        slot = slot;
        entry = λ none.
            let one : option_map (attr_term c) (entry_at (key_before_in c) k (part_of part (head o))) ≡ option_map (attr_term c) new = cc in
            let some = some_of (attr_term c) (entry_at (key_before_in c) k (part_of part (head o))) (option_map (attr_term c) new) one (mapped_is (attr_term c) new (set none)) in
            ap (λ q. is_some_with (λ (o : Op). has_key k (part_of part (head o))) (first_of q (finmap.get s.held x))) f
            ∙ part_key c part k some.0 o sound step.numbers.0 (found_sound c x s.module_of.tree o own f) some.1;
      }

  retract_can : (x : ℕ) (fresh : Bool) → MayRetract x fresh s.module_of → CanRetract x fresh s
  retract_can x fresh m = record { there = m.there; inner = m.inner; empty = m.empty; unused = m.unused; newest = m.newest }

  restore_can : (x : ℕ) (place : Place) (fresh : Bool) (o : Op) → finmap.get s.held x ≡ Some o → MayRestore x place fresh o s.module_of → CanRestore x place fresh s
  restore_can x place fresh o e m = record {
    held = ap is_some e;
    point = m.point;
    values = λ q f. (let two : Some o ≡ Some q = sym e ∙ f in let one : o ≡ q = cc in subst (λ (z : Op). list_all (λ v. has_value v s.module_of.tree) (head z).operands ≡ true) one m.values);
    newest = m.newest;
    headroom = m.headroom;
    below = m.below;
  }

  -- an event that led to the module can be undone
  pub may_undo : (e : Event) (p : Module) → IsSound c → IsSoundIn c s.module_of.tree → CameFrom c e p s → MayUndo c e s
  may_undo (Put x place fresh) p sound own f = retract_can x fresh (put_undone c x place fresh p s.module_of f.step).0
  may_undo (Take x place fresh) p sound own f = restore_can x place fresh f.keeps.0 f.keeps.1 (take_undone c x place fresh p s.module_of f.step f.keeps.0 f.keeps.2).0
  may_undo (SetOperand x k old new) p sound own f = (operand_undone c x k old new p s.module_of f.step).0
  may_undo (SetEntry x part k old new) p sound own f = (entry_can x part k old new p sound own f.step f.keeps.0 f.keeps.1, (f.step.numbers.0, (attr_if c old f.step.numbers.1.0, own)))
  may_undo (Shift x old new) p sound own f = relink_undone c x old new p s.module_of f.step

  lowered_is : (fresh : Bool) (x n : ℕ) → lowered fresh x n ≡ cond fresh x n
  lowered_is true x n = refl
  lowered_is false x n = refl

  raised_is : (fresh : Bool) (x n : ℕ) → raised fresh x n ≡ cond fresh (x + 1) n
  raised_is true x n = refl
  raised_is false x n = refl

  -- and undoing it leads back
  pub led_back : (e : Event) (p : Module) → CameFrom c e p s → module_meaning c (undone c e s).module_of ≡ p
  led_back (Put x place fresh) p f =
      ap (λ n. module_meaning c (record { tree = without x s.module_of.tree; next = n })) (lowered_is fresh x s.module_of.next) ∙ (put_undone c x place fresh p s.module_of f.step).1
  led_back (Take x place fresh) p f =
      (λ i. module_meaning c (record { tree = put_held place (f.keeps.1 i) s.module_of.tree; next = raised_is fresh x s.module_of.next i })) ∙ (take_undone c x place fresh p s.module_of f.step f.keeps.0 f.keeps.2).1
  led_back (SetOperand x k old new) p f = (operand_undone c x k old new p s.module_of f.step).1
  led_back (SetEntry x part k old new) p f = entry_undone c x part k old new p s.module_of f.step
  led_back (Shift x old new) p f = (shift_undone c x old new p s.module_of f.step).1

  -- well-formed modules stay well-formed
  pub undone_wellformed : (e : Event) (p : Module) → CameFrom c e p s → IsWellFormed (isolated_in c) (undone c e s).module_of
  undone_wellformed e p f = wellformed_numbers c (undone c e s).module_of (subst (IsWellFormed is_isolated) (sym (led_back e p f)) f.step.before)

  -- sound modules stay sound
  pub undone_sound : (e : Event) (p : Module) → CameFrom c e p s → IsSoundIn c s.module_of.tree → HeldIsSound c s.held → IsSoundIn c (undone c e s).module_of.tree
  undone_sound (Put x place fresh) p f own held = without_sound c x s.module_of.tree own
  undone_sound (Take x place fresh) p f own held = subst (λ q. IsSoundIn c (put_held place q s.module_of.tree)) (sym f.keeps.1) (put_sound c place f.keeps.0 s.module_of.tree (held x f.keeps.0 f.keeps.1) own)
  undone_sound (SetOperand x k old new) p f own held = operand_sound c x k old s.module_of.tree own
  undone_sound (SetEntry x part k old new) p f own held = entry_sound c x part k old s.module_of.tree (lt-ltb k (length c.names) f.step.numbers.0) (attr_is c old f.step.numbers.1.0) own
  undone_sound (Shift x old new) p f own held = shifted_sound c x old s.module_of.tree own

  removed : (x y : ℕ) (o : Op) → finmap.get (finmap.remove s.held x) y ≡ Some o → finmap.get s.held y ≡ Some o
  removed x y o e = ⊎_elim
      (λ is. (let bad : None ≡ Some o = sym (cond-true (eqb y x) None (finmap.get s.held y) (eq-eqb y x is)) ∙ sym out ∙ e in absurd cc))
      (λ not. sym (cond-false (eqb y x) None (finmap.get s.held y) (ne_eqb y x not)) ∙ sym out ∙ e)
      (cases_eq y x)
    where
      out : finmap.get (finmap.remove s.held x) y ≡ cond (eqb y x) None (finmap.get s.held y)
      out = finmap.get-remove nat_cmp_total s.held x y ∙ ap (λ b. cond b None (finmap.get s.held y)) (eq_nat y x)

  -- and so do the held operations
  pub undone_held : (e : Event) (p : Module) → CameFrom c e p s → IsSoundIn c s.module_of.tree → HeldIsSound c s.held → HeldIsSound c (undone c e s).held
  undone_held (Put x place fresh) p f own held = hold_sound c x (find x s.module_of.tree) s.held (λ o e. found_sound c x s.module_of.tree o own e) held
  undone_held (Take x place fresh) p f own held = λ y o e. held y o (removed x y o e)
  undone_held (SetOperand x k old new) p f own held = held
  undone_held (SetEntry x part k old new) p f own held = held
  undone_held (Shift x old new) p f own held = held

  -- a removed operation is shown unchanged
  pub undone_shown : (e : Event) (p : Module) → CameFrom c e p s → ShowsTaken (inverse_of e) (module_meaning c s.module_of) (λ x. option_map (λ o. node_of (meaning c o)) (known x (undone c e s)))
  undone_shown (Put x place fresh) p f = let m = (put_undone c x place fresh p s.module_of f.step).0 in still_shown c x s s m.there m.inner
  undone_shown (Take x place fresh) p f = tt
  undone_shown (SetOperand x k old new) p f = tt
  undone_shown (SetEntry x part k old new) p f = tt
  undone_shown (Shift x old new) p f = tt

  -- undoing is a step back
  pub undone_step : (e : Event) (p : Module) → CameFrom c e p s → Step c (inverse_of e) (module_meaning c s.module_of) (module_meaning c (undone c e s).module_of)
  undone_step e p f = subst (λ (n : Module). Step c (inverse_of e) (module_meaning c s.module_of) n) (sym (led_back e p f)) (step_back c e p (module_meaning c s.module_of) f.step)
