-- Undoing an event in two stores, of which one carries everything that the other holds.
use Rattle.std.proofs.Common.{◌≡◌, refl, ap, sym, ◌∙◌, subst, ℕ, ◌<◌, ◌≤◌, Bool, true, false, true≢false, eqb, List, [], ◌+◌, Option, Some, None, arith}
use Rattle.std.specs.Prelude.{option_map}
use Rattle.std.specs.List.{All, list_any}
use Rattle.std.specs.FinMap as finmap
use Rattle.ir_event.specs.types.Things.{ContextModel}
use Rattle.ir_event.specs.types.Terms.{name_term, type_term, attr_term}
use Rattle.ir_event.specs.trees.declared.place.Place.{Place}
use Rattle.ir_event.specs.trees.declared.place.Part.{Part}
use Rattle.ir_event.specs.trees.Tree.{Head, Op, OpOf, head}
use Rattle.ir_event.specs.trees.Ids.{HasDistinctIds, find, has_id, ids}
use Rattle.ir_event.specs.trees.Edits.{at, put_operand}
use Rattle.ir_event.specs.trees.Meaning.{key_before, meaning}
use Rattle.ir_event.specs.trees.Places.{put, put_here, shifted, without}
use Rattle.ir_event.specs.trees.WellFormed.{Module as Numbered}
use Rattle.ir_event.proofs.of_trees.Heads.{alike_operand, head_ids}
use Rattle.ir_event.proofs.of_trees.Mapped.{map_find}
use Rattle.ir_event.proofs.of_trees.MappedEdits.{map_without}
use Rattle.ir_event.proofs.of_trees.Meanings.{apart}
use Rattle.ir_event.proofs.of_trees.SoundEdits.{without_sound}
use Rattle.ir_event.specs.tree_laws.Changes.{Takes, entry_in}
use Rattle.ir_event.specs.tree_laws.Reasons.{holds_none, leads_inside}
use Rattle.ir_event.specs.tree_laws.Restores.{MayRetract}
use Rattle.ir_event.specs.tree_laws.Stands.{dropping}
use Rattle.ir_event.proofs.of_tree_laws.Around.{present_stand}
use Rattle.ir_event.proofs.of_tree_laws.Changed.{may_retract}
use Rattle.ir_event.proofs.of_tree_laws.Contents.{from_retract}
use Rattle.ir_event.proofs.of_tree_laws.Wellformed.{ids_below}
use Rattle.ir_event.proofs.of_tree_laws.Shift.{is_put, shift_distinct, shift_found, shift_rest}
use Rattle.ir_event.proofs.of_tree_laws.Without.{same_head}
use Rattle.ir_event.specs.store.Shifting.{CanRelink}
use Rattle.ir_event.specs.store.Stored.{Stored}
use Rattle.ir_event.specs.store.Calls.{after_operand, after_shift, hold}
use Rattle.ir_event.specs.declared.event.Event.{Event}
use Rattle.ir_event.specs.declared.event.Event.TheVariants.{Put, Take, SetOperand, SetEntry, Shift}
use Rattle.ir_event.specs.Modules.{Module, module_meaning}
use Rattle.ir_event.specs.Step.{Step}
use Rattle.ir_event.proofs.Sounds.{found_sound}
use Rattle.ir_event.proofs.Undone.{relink_undone}
use Rattle.ir_event.specs.Undoing.{CameFrom, Keeps, undone}
use Rattle.ir_event.proofs.Taking.{held_now}
use Rattle.ir_event.proofs.Undoing.{led_back, undone_wellformed, undone_held, undone_sound}
use Rattle.rewriter_machine.specs.Journals.{IsForward, IsStoreOf}
use Rattle.rewriter_machine.proofs.Maps.{cut_other, hold_other}
use Rattle.rewriter_machine.proofs.Trees.{absent_too, found_op, found_present, moved_head}
use Rattle.rewriter_machine.proofs.Stores.{IsTaken, dictionary_seen, seen_same, taken_gone, taken_there}
use Rattle.rewriter_machine.proofs.Carries.{Carries, carries_edited, carries_restored, carries_taken}
use Rattle.rewriter_machine.proofs.Entered.{carries_entry, operand_dictionary}

pub present_below : {N T A : Type 0} (n : ℕ) (t : OpOf N T A) → All (λ y. y < n) (ids t) → (x : ℕ) → has_id x t ≡ true → x < n
present_below n t a x k = (let s = present_stand [] t x k in let lt = ids_below n t a s.0 s.1 in let e = s.2 in omega (arith, lt, e))

-- a store after an event is undone
pub store_undone : (c : ContextModel) (e : Event) (p : Module) (s : Stored) → IsStoreOf c s → CameFrom c e p s → IsStoreOf c (undone c e s)
store_undone c e p s w f = record {
  context = w.context;
  sound = undone_sound c s e p f w.sound w.held;
  wellformed = undone_wellformed c s e p f;
  held = undone_held c s e p f w.sound w.held;
}

pub retract_of : (c : ContextModel) (x : ℕ) (place : Place) (fresh : Bool) (m : Numbered) (n : Module) → Takes x place fresh (module_meaning c m) n → MayRetract x fresh m
retract_of c x place fresh m n t = from_retract (name_term c) (type_term c) (attr_term c) x fresh m (may_retract x place fresh (module_meaning c m) n t)

-- modules with the same meaning are equal
pub same_module : (c : ContextModel) (s u : Stored) → IsStoreOf c s → IsStoreOf c u → module_meaning c u.module_of ≡ module_meaning c s.module_of → u.module_of ≡ s.module_of
same_module c s u w v e = λ i. record { tree = apart c u.module_of.tree s.module_of.tree w.context v.sound w.sound (ap (λ (m : Module). m.tree) e) i; next = ap (λ (m : Module). m.next) e i }

-- taking out an operation with empty blocks
pub taken_from : (x : ℕ) (fresh : Bool) (s u : Stored) → HasDistinctIds s.module_of.tree → MayRetract x fresh s.module_of → u.module_of.tree ≡ without x s.module_of.tree → u.held ≡ hold x (find x s.module_of.tree) s.held → u.gone ≡ s.gone → IsTaken x s u
taken_from x fresh s u d r left held gone =
    let o = found_op x s.module_of.tree r.there in
    record {
      distinct = d;
      root = r.inner;
      here = o.0;
      found = o.1;
      bare = ap holds_none (sym o.1) ∙ r.empty;
      left = left;
      now = ap (λ h. finmap.get h x) held ∙ held_now x (find x s.module_of.tree) s.held o.0 o.1;
      others = λ y n. ap (λ h. finmap.get h y) held ∙ hold_other x (find x s.module_of.tree) s.held y n;
      gone = gone;
    }

pub put_taken : (c : ContextModel) (x : ℕ) (place : Place) (fresh : Bool) (p : Module) (s : Stored) → IsStoreOf c s → CameFrom c (Put x place fresh) p s → IsTaken x s (undone c (Put x place fresh) s)
put_taken c x place fresh p s w f = taken_from x fresh s (undone c (Put x place fresh) s) w.wellformed.distinct (retract_of c x place fresh s.module_of p f.step.changes) refl refl refl

-- inserting it again
module _ (c : ContextModel) (x : ℕ) (place : Place) (fresh : Bool) (s : Stored) (w : IsStoreOf c s) (f : CameFrom c (Take x place fresh) (module_meaning c (undone c (Take x place fresh) s).module_of) s) where
  abbrev t : Stored
  t = undone c (Take x place fresh) s

  v : IsStoreOf c t
  v = store_undone c (Take x place fresh) (module_meaning c t.module_of) s w f

  r : MayRetract x fresh t.module_of
  r = retract_of c x place fresh t.module_of (module_meaning c s.module_of) f.step.changes

  there : (o : Op) × (find x t.module_of.tree ≡ Some o)
  there = found_op x t.module_of.tree r.there

  same : there.0 ≡ f.keeps.0
  same =
      let two : Some (meaning c there.0) ≡ Some (meaning c f.keeps.0) = sym (map_find (name_term c) (type_term c) (attr_term c) x t.module_of.tree ∙ ap (option_map (meaning c)) there.1) ∙ f.keeps.2 in
      let one : meaning c there.0 ≡ meaning c f.keeps.0 = cc in
      apart c there.0 f.keeps.0 w.context (found_sound c x t.module_of.tree there.0 v.sound there.1) (w.held x f.keeps.0 f.keeps.1) one

  found : find x t.module_of.tree ≡ Some f.keeps.0
  found = there.1 ∙ ap Some same

  pub take_taken : IsTaken x (undone c (Take x place fresh) s) s
  take_taken = record {
    distinct = v.wellformed.distinct;
    root = r.inner;
    here = f.keeps.0;
    found = found;
    bare = ap holds_none (sym found) ∙ r.empty;
    left = apart c s.module_of.tree (without x t.module_of.tree) w.context w.sound (without_sound c x t.module_of.tree v.sound) (f.step.changes.left ∙ map_without (name_term c) (type_term c) (attr_term c) x t.module_of.tree);
    now = f.keeps.1;
    others = λ y n. sym (cut_other s.held x y n);
    gone = refl;
  }

-- the heads of a tree after an operation is shifted
module _ (x : ℕ) (place : Place) (t : Op) (d : HasDistinctIds t) (can : CanRelink x place t) where
  moved : (o : Op) × (find x t ≡ Some o)
  moved = found_op x t can.there

  out : leads_inside place (Some moved.0) ≡ false
  out = ap (leads_inside place) (sym moved.1) ∙ can.outside

  is : shifted x place t ≡ put place moved.0 (without x t)
  is = is_put x place t moved.0 d moved.1 can.inner can.point out

  root : eqb (head (shifted x place t)).id x ≡ false
  root = ap (λ (h : Head). eqb h.id x) (ap (λ (z : Op). head z) is ∙ same_head x (put_here place moved.0) (without x t) ∙ same_head x (dropping x) t) ∙ can.inner

  pub shifted_heads : (y : ℕ) → option_map (λ (o : Op). head o) (find y (shifted x place t)) ≡ option_map (λ (o : Op). head o) (find y t)
  shifted_heads y =
      moved_head x (shifted x place t) t moved.0 (subst HasDistinctIds (sym is) (shift_distinct x place t moved.0 d moved.1 can.inner can.point out)) d
      (ap (find x) is ∙ shift_found x place t moved.0 d moved.1 can.inner can.point out ∙ moved.1) moved.1 root can.inner
      (sym (ap (without x) is ∙ shift_rest x place t moved.0 d moved.1 can.inner can.point out)) y

-- the operation of an entry is in the module
pub entry_there : (c : ContextModel) (x : ℕ) (part : Part) (k : List ℕ) (t : Op) (v : Option _) → entry_in key_before x part k (meaning c t) ≡ Some v → (o : Op) × (find x t ≡ Some o)
entry_there c x part k t v e = go (find x t) refl
  where
    go : (q : Option Op) → find x t ≡ q → (o : Op) × (find x t ≡ Some o)
    go None f = (let bad : None ≡ Some v = sym (ap (option_map _) (map_find (name_term c) (type_term c) (attr_term c) x t ∙ ap (option_map (meaning c)) f)) ∙ e in absurd cc)
    go (Some o) f = (o, f)

-- the next free id doesn't rise
pub falls : (c : ContextModel) (e : Event) (p : Module) (s : Stored) → IsForward e → CameFrom c e p s → (undone c e s).module_of.next ≤ s.module_of.next
falls c (Put x place true) p s w f = (let n = f.step.changes.next in let e : s.module_of.next ≡ x + 1 = n.0 in omega (arith, e))
falls c (Put x place false) p s w f = absurd (true≢false (sym w))
falls c (Take x place true) p s w f = absurd (true≢false w)
falls c (Take x place false) p s w f = omega arith
falls c (SetOperand x k old new) p s w f = omega arith
falls c (SetEntry x part k old new) p s w f = omega arith
falls c (Shift x old new) p s w f = omega arith

module _ (c : ContextModel) (n : ℕ) (s u : Stored) (w : IsStoreOf c s) (v : IsStoreOf c u) (most : s.module_of.next ≤ n) (r : Carries n s u) where
  keeps : (e : Event) → IsForward e → CameFrom c e (module_meaning c (undone c e s).module_of) s → Keeps c e (module_meaning c (undone c e s).module_of) u
  keeps (Put x place fresh) forward f = tt
  keeps (Take x place true) forward f = absurd (true≢false forward)
  keeps (Take x place false) forward f =
      let t = take_taken c x place false s w f in
      let z = store_undone c (Take x place false) (module_meaning c (undone c (Take x place false) s).module_of) s w f in
      let lt = present_below s.module_of.next (undone c (Take x place false) s).module_of.tree z.wellformed.below x (taken_there x (undone c (Take x place false) s) s t) in
      (f.keeps.0, r.held x (omega (arith, lt, most)) (taken_gone x (undone c (Take x place false) s) s t) f.keeps.0 f.keeps.1, f.keeps.2)
  keeps (SetOperand x k old new) forward f = tt
  keeps (SetEntry x part k old new) forward f =
      let o = entry_there c x part (name_term c k) s.module_of.tree _ f.step.changes.is in
      let lt = present_below s.module_of.next s.module_of.tree w.wellformed.below x (found_present x s.module_of.tree o.0 o.1) in
      (r.slots x part k (omega (arith, lt, most)) f.keeps.0, f.keeps.1)
  keeps (Shift x old new) forward f = tt

  -- the event that led to one store led to the other
  came_there : (e : Event) → IsForward e → CameFrom c e (module_meaning c (undone c e s).module_of) s → CameFrom c e (module_meaning c (undone c e s).module_of) u
  came_there e forward f = record {
    step = subst (λ (m : Numbered). Step c e (module_meaning c (undone c e s).module_of) (module_meaning c m)) (sym r.module_of) f.step;
    keeps = keeps e forward f;
  }

  back : (e : Event) → IsForward e → CameFrom c e (module_meaning c (undone c e s).module_of) s → module_meaning c (undone c e u).module_of ≡ module_meaning c (undone c e s).module_of
  back e forward f = led_back c u e (module_meaning c (undone c e s).module_of) (came_there e forward f)

  pub came_too : (e : Event) → IsForward e → CameFrom c e (module_meaning c (undone c e s).module_of) s → CameFrom c e (module_meaning c (undone c e u).module_of) u
  came_too e forward f = subst (λ p. CameFrom c e p u) (sym (back e forward f)) (came_there e forward f)

  one : (e : Event) → IsForward e → CameFrom c e (module_meaning c (undone c e s).module_of) s → (undone c e u).module_of ≡ (undone c e s).module_of
  one e forward f =
      same_module c (undone c e s) (undone c e u) (store_undone c e _ s w f) (store_undone c e _ u v (came_too e forward f)) (back e forward f)

  pub carries_undone : (e : Event) → IsForward e → CameFrom c e (module_meaning c (undone c e s).module_of) s → Carries n (undone c e s) (undone c e u)
  carries_undone (Put x place fresh) forward f =
      carries_taken n x s u (undone c (Put x place fresh) s) (undone c (Put x place fresh) u) (put_taken c x place fresh _ s w f) (put_taken c x place fresh _ u v (came_too (Put x place fresh) forward f)) (one (Put x place fresh) forward f) r
  carries_undone (Take x place fresh) forward f =
      carries_restored n x s u (undone c (Take x place fresh) s) (undone c (Take x place fresh) u) (take_taken c x place fresh s w f) (take_taken c x place fresh u v (came_too (Take x place fresh) forward f)) (one (Take x place fresh) forward f) r
  carries_undone (SetOperand x k old new) forward f =
      carries_edited n s u (after_operand x k old s) (after_operand x k old u) (λ y a. sym (ap (list_any (λ z. eqb z y)) (head_ids (at x (put_operand k old)) (alike_operand x k old) s.module_of.tree)) ∙ a)
      (λ y part. operand_dictionary x k old y part s) (λ y part. operand_dictionary x k old y part u) refl refl refl refl (one (SetOperand x k old new) forward f) r
  carries_undone (SetEntry x part k old new) forward f =
      let o = entry_there c x part (name_term c k) s.module_of.tree _ f.step.changes.is in
      carries_entry c w.context x part k f.step.numbers.0 old n s u w.sound o.0 o.1 r (one (SetEntry x part k old new) forward f)
  carries_undone (Shift x old new) forward f =
      carries_edited n s u (after_shift x old s) (after_shift x old u) (λ y a. absent_too y (shifted x old s.module_of.tree) s.module_of.tree (heads s w f y) a)
      (λ y part. dictionary_seen part y (after_shift x old s) s (seen_same y (after_shift x old s) s (heads s w f y) refl))
      (λ y part. dictionary_seen part y (after_shift x old u) u (seen_same y (after_shift x old u) u (heads u v (came_too (Shift x old new) forward f) y) refl)) refl refl refl refl (one (Shift x old new) forward f) r
    where
      heads : (t : Stored) → IsStoreOf c t → CameFrom c (Shift x old new) (module_meaning c (after_shift x old t).module_of) t → (y : ℕ) → option_map (λ (o : Op). head o) (find y (shifted x old t.module_of.tree)) ≡ option_map (λ (o : Op). head o) (find y t.module_of.tree)
      heads t g f y = shifted_heads x old t.module_of.tree g.wellformed.distinct (relink_undone c x old new (module_meaning c (after_shift x old t).module_of) t.module_of f.step) y
