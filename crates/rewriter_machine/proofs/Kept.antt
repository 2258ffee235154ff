-- Edits keep the invariants of a store: no stale ids, and a list of removed keys for each operation.
use Rattle.std.proofs.Common.{◌≡◌, refl, ap, sym, ◌∙◌, subst, ℕ, Bool, true, false, true≢false, ⊎_elim, Option, Some, None, arith}
use Rattle.std.proofs.lemmas.Bool.{ne_eqb, cases_Bool, cases_eq, cond-true}
use Rattle.std.specs.Prelude.{option_map, is_some}
use Rattle.std.specs.Ordering.{nat_cmp}
use Rattle.std.specs.FinMap as finmap
use Rattle.ir_event.specs.types.Things.{ContextModel}
use Rattle.ir_event.specs.trees.declared.value.Value.{Value}
use Rattle.ir_event.specs.trees.declared.place.Place.{Place}
use Rattle.ir_event.specs.trees.declared.place.Part.{Part}
use Rattle.ir_event.specs.trees.Tree.{Head, Op, op, regions}
use Rattle.ir_event.specs.trees.Ids.{find, first_of, has_id}
use Rattle.ir_event.specs.trees.Edits.{at, change_entry, change_part, each_head, put_operand}
use Rattle.ir_event.specs.trees.Meaning.{key_before_in}
use Rattle.ir_event.specs.trees.Places.{put_found, without}
use Rattle.ir_event.specs.trees.WellFormed.{IsWellFormed}
use Rattle.ir_event.proofs.of_trees.Gained.{gained_ids}
use Rattle.ir_event.proofs.of_trees.Left.{left_ids}
use Rattle.ir_event.proofs.of_trees.Heads.{Alike, alike_entry, alike_operand, head_find}
use Rattle.ir_event.specs.tree_laws.Reasons.{hold_none, with_id}
use Rattle.ir_event.proofs.of_tree_laws.Around.{absent_find}
use Rattle.ir_event.specs.store.Stored.{Stored, known, none_gone}
use Rattle.ir_event.specs.store.Calls.{Loaded, after_entry, after_operand, after_put, after_shift, after_take, hold}
use Rattle.ir_event.specs.declared.event.Event.{Event}
use Rattle.ir_event.specs.declared.event.Event.TheVariants.{Put, Take, SetOperand, SetEntry, Shift}
use Rattle.ir_event.proofs.Shown.{known_there, none_found}
use Rattle.ir_event.specs.Modules.{Module}
use Rattle.ir_event.specs.Undoing.{CameFrom, undone}
use Rattle.ir_event.proofs.Undoing.{led_back}
use Rattle.rewriter_machine.specs.Journals.{TracksRemovedKeys, IsStoreOf, HasNoStaleIds}
use Rattle.rewriter_machine.proofs.Maps.{set_here, set_other}
use Rattle.rewriter_machine.proofs.Trees.{bare, found_op, found_present, present_inside}
use Rattle.rewriter_machine.proofs.Stores.{known_seen, slotted_same, taken_seen}
use Rattle.rewriter_machine.proofs.Entered.{gone_some}
use Rattle.rewriter_machine.proofs.Undoings.{present_below, take_taken}

-- nothing is held under ids that aren't given out yet
pub tidy_put : (place : Place) (o : Op) (s : Stored) → HasNoStaleIds s → HasNoStaleIds (after_put place o s)
tidy_put place o s h x le = h x (omega (arith, le))

pub tidy_taken : (isolated : ℕ → Bool) (x : ℕ) (s : Stored) → IsWellFormed isolated s.module_of → HasNoStaleIds s → HasNoStaleIds (after_take x s)
tidy_taken isolated x s w h y le = go (find x s.module_of.tree) refl
  where
    go : (q : Option Op) → find x s.module_of.tree ≡ q → finmap.get (hold x q s.held) y ≡ None
    go None f = h y le
    go (Some o) f = (let lt = present_below s.module_of.next s.module_of.tree w.below x (found_present x s.module_of.tree o f) in set_other s.held x o y (λ e. omega (arith, lt, le, e)) ∙ h y le)

pub tidy_loaded : (t : Op) (n : ℕ) (s : Stored) → Loaded t n s → HasNoStaleIds s
tidy_loaded t n s l x le = ap (λ m. finmap.get m x) l.held ∙ finmap.get-empty nat_cmp x

-- a list of removed keys for each operation
pub slotted_loaded : (t : Op) (n : ℕ) (s : Stored) → Loaded t n s → TracksRemovedKeys s
slotted_loaded t n s l x k = ap is_some (l.gone x) ∙ ⊎_elim
    (λ i. ap is_some (cond-true (has_id x t) (Some none_gone) None i))
    (λ i. absurd (true≢false (sym k ∙ ap is_some ((λ j. first_of (find x ((l.module_of j).tree)) (finmap.get (l.held j) x)) ∙ (λ j. first_of (absent_find x t i j) (finmap.get-empty nat_cmp x j))))))
    (cases_Bool (has_id x t))

known_each : (f : Head → Head) → ((h : Head) → Alike (f h) h) → (y : ℕ) (s u : Stored) → u.module_of.tree ≡ each_head f s.module_of.tree → u.held ≡ s.held → is_some (known y u) ≡ is_some (known y s)
known_each f alike y s u e h =
    (λ i. is_some (first_of (find y (e i)) (finmap.get (h i) y))) ∙ ap (λ q. is_some (first_of q (finmap.get s.held y))) (head_find f alike y s.module_of.tree) ∙ go (find y s.module_of.tree)
  where
    go : (q : Option Op) → is_some (first_of (option_map (each_head f) q) (finmap.get s.held y)) ≡ is_some (first_of q (finmap.get s.held y))
    go None = refl
    go (Some o) = refl

pub slotted_operand : (x k : ℕ) (v : Value) (s : Stored) → TracksRemovedKeys s → TracksRemovedKeys (after_operand x k v s)
slotted_operand x k v s = slotted_same s (after_operand x k v s) (λ y i. sym (known_each (at x (put_operand k v)) (alike_operand x k v) y s (after_operand x k v s) refl refl) ∙ i) (λ y i. i)

pub slotted_entry : (before : ℕ → ℕ → Bool) (x : ℕ) (part : Part) (k : ℕ) (a : Option ℕ) (s : Stored) → TracksRemovedKeys s → TracksRemovedKeys (after_entry before x part k a s)
slotted_entry before x part k a s =
    slotted_same s (after_entry before x part k a s)
    (λ y i. sym (known_each (at x (change_part part (change_entry before k a))) (alike_entry before x part k a) y s (after_entry before x part k a s) refl refl) ∙ i)
    (λ y i. gone_some before x part k a s y ∙ i)

-- an operation that is held, or in the module, is known
held_known : (y : ℕ) (s : Stored) (o : Op) → finmap.get s.held y ≡ Some o → is_some (known y s) ≡ true
held_known y s o e = go (find y s.module_of.tree)
  where
    go : (q : Option Op) → is_some (first_of q (finmap.get s.held y)) ≡ true
    go None = ap is_some e
    go (Some b) = refl

there_known : (y : ℕ) (s : Stored) → has_id y s.module_of.tree ≡ true → is_some (known y s) ≡ true
there_known y s k = ap is_some (known_there y s k ∙ (found_op y s.module_of.tree k).1)

known_from : (y : ℕ) (s u : Stored) → (has_id y s.module_of.tree ≡ false → has_id y u.module_of.tree ≡ false) → ((o : Op) → finmap.get u.held y ≡ Some o → is_some (known y s) ≡ true) → is_some (known y u) ≡ true → is_some (known y s) ≡ true
known_from y s u f g k = ⊎_elim (λ i. there_known y s i) (λ n. go (f n) (finmap.get u.held y) refl) (cases_Bool (has_id y s.module_of.tree))
  where
    go : has_id y u.module_of.tree ≡ false → (q : Option Op) → finmap.get u.held y ≡ q → is_some (known y s) ≡ true
    go n None e = absurd (true≢false (sym k ∙ ap is_some (λ i. first_of (absent_find y u.module_of.tree n i) (e i))))
    go n (Some o) e = g o e

pub slotted_put : (place : Place) (o : Op) (s : Stored) → hold_none (regions o) ≡ true → TracksRemovedKeys s → TracksRemovedKeys (after_put place o s)
slotted_put place o s leaf h y k = ⊎_elim
    (λ e. ap (λ z. is_some (finmap.get (after_put place o s).gone z)) e ∙ ap is_some (set_here s.gone s.module_of.next none_gone))
    (λ n. ap is_some (set_other s.gone s.module_of.next none_gone y n)
    ∙ h y (known_from y s (after_put place o s) (λ a. gained_ids place (with_id s.module_of.next o) y s.module_of.tree (none_found y (with_id s.module_of.next o) (other o leaf n)) a) (λ b e. held_known y s b e) k))
    (cases_eq y s.module_of.next)
  where
    other : (o : Op) → hold_none (regions o) ≡ true → (y ≡ s.module_of.next → ⊥) → find y (with_id s.module_of.next o) ≡ None
    other (op g rs) leaf n = bare y (with_id s.module_of.next (op g rs)) leaf (ne_eqb s.module_of.next y (λ e. n (sym e)))

pub slotted_take : (x : ℕ) (s : Stored) → TracksRemovedKeys s → TracksRemovedKeys (after_take x s)
slotted_take x s h y k = h y (known_from y s (after_take x s) (λ a. left_ids x y s.module_of.tree a) (λ o e. go o (find x s.module_of.tree) refl e) k)
  where
    go : (o : Op) (q : Option Op) → find x s.module_of.tree ≡ q → finmap.get (hold x q s.held) y ≡ Some o → is_some (known y s) ≡ true
    go o None f e = held_known y s o e
    go o (Some b) f e = ⊎_elim
        (λ same. there_known y s (ap (λ z. has_id z s.module_of.tree) same ∙ found_present x s.module_of.tree b f))
        (λ n. held_known y s o (sym (set_other s.held x b y n) ∙ e))
        (cases_eq y x)

pub slotted_shift : (x : ℕ) (place : Place) (s : Stored) → TracksRemovedKeys s → TracksRemovedKeys (after_shift x place s)
slotted_shift x place s h y k = h y (known_from y s (after_shift x place s) (λ a. go (find x s.module_of.tree) refl a) (λ o e. held_known y s o e) k)
  where
    absent : (o : Op) → find x s.module_of.tree ≡ Some o → has_id y s.module_of.tree ≡ false → has_id y o ≡ false
    absent o f a = ⊎_elim (λ i. absurd (true≢false (sym (present_inside x s.module_of.tree o f y i) ∙ a))) (λ n. n) (cases_Bool (has_id y o))

    go : (q : Option Op) → find x s.module_of.tree ≡ q → has_id y s.module_of.tree ≡ false → has_id y (put_found place q (without x s.module_of.tree)) ≡ false
    go None f a = left_ids x y s.module_of.tree a
    go (Some o) f a = gained_ids place o y (without x s.module_of.tree) (absent o f a) (left_ids x y s.module_of.tree a)

module _ (c : ContextModel) where
  pub slotted_undone : (e : Event) (p : Module) (s : Stored) → IsStoreOf c s → CameFrom c e p s → TracksRemovedKeys s → TracksRemovedKeys (undone c e s)
  slotted_undone (Put x place fresh) p s w f h = slotted_take x s h
  slotted_undone (Take x place fresh) p s w f h =
      let t = undone c (Take x place fresh) s in
      slotted_same s t (λ y i. known_seen y t s (taken_seen x t s (take_taken c x place fresh s w (subst (λ q. CameFrom c (Take x place fresh) q s) (sym (led_back c s (Take x place fresh) p f)) f)) y) ∙ i) (λ y i. i) h
  slotted_undone (SetOperand x k old new) p s w f h = slotted_operand x k old s h
  slotted_undone (SetEntry x part k old new) p s w f h = slotted_entry (key_before_in c) x part k old s h
  slotted_undone (Shift x old new) p s w f h = slotted_shift x old s h
