-- Stores that hold everything that another one holds, as far as undoing needs it.
use Rattle.std.proofs.Common.{◌≡◌, ap, sym, ◌∙◌, ℕ, ◌<◌, true, false, true≢false, ⊎_elim, Some}
use Rattle.std.proofs.lemmas.Bool.{cases_Bool, cases_eq}
use Rattle.std.specs.Prelude.{option_map, is_some}
use Rattle.std.specs.FinMap as finmap
use Rattle.ir_event.specs.trees.declared.place.Part.{Part}
use Rattle.ir_event.specs.trees.Tree.{Op}
use Rattle.ir_event.specs.trees.Ids.{find, first_of, has_id}
use Rattle.ir_event.specs.trees.WellFormed.{Module as Numbered}
use Rattle.ir_event.proofs.of_tree_laws.Around.{absent_find}
use Rattle.ir_event.proofs.Shown.{known_there}
use Rattle.ir_event.specs.store.Stored.{Stored, has_slot, known}
use Rattle.rewriter_machine.proofs.Stores.{IsTaken, dictionary, dictionary_seen, slot_same, taken_back, taken_on, taken_seen, taken_there}

-- for ids below n, u holds outside the module what s holds, and has each slot that s has
pub record Carries (n : ℕ) (s u : Stored) : Type 0 where
  pub module_of : u.module_of ≡ s.module_of
  pub held : (y : ℕ) → y < n → has_id y s.module_of.tree ≡ false → (o : Op) → finmap.get s.held y ≡ Some o → finmap.get u.held y ≡ Some o
  pub gone : (y : ℕ) → y < n → is_some (finmap.get s.gone y) ≡ true → is_some (finmap.get u.gone y) ≡ true
  pub slots : (y : ℕ) (part : Part) (l : ℕ) → y < n → has_slot y part l s ≡ true → has_slot y part l u ≡ true

-- two stores with the same module know an operation of the module alike
pub known_both : (y : ℕ) (s u : Stored) → u.module_of ≡ s.module_of → has_id y s.module_of.tree ≡ true → known y u ≡ known y s
known_both y s u e k =
    known_there y u (ap (λ (m : Numbered). has_id y m.tree) e ∙ k) ∙ ap (λ (m : Numbered). find y m.tree) e ∙ sym (known_there y s k)

pub known_same : (y : ℕ) (s u : Stored) → u.module_of ≡ s.module_of → (has_id y s.module_of.tree ≡ false → finmap.get u.held y ≡ finmap.get s.held y) → known y u ≡ known y s
known_same y s u e h = ⊎_elim
    (λ k. known_both y s u e k)
    (λ n. (λ i. first_of (find y (e i).tree) (finmap.get u.held y)) ∙ ap (λ q. first_of q (finmap.get u.held y)) (absent_find y s.module_of.tree n) ∙ h n
    ∙ sym (ap (λ q. first_of q (finmap.get s.held y)) (absent_find y s.module_of.tree n)))
    (cases_Bool (has_id y s.module_of.tree))

-- a store carries an equal one
pub carries_same : (n : ℕ) (s u : Stored) → u.module_of ≡ s.module_of → ((y : ℕ) → y < n → has_id y s.module_of.tree ≡ false → finmap.get u.held y ≡ finmap.get s.held y)
    → ((y : ℕ) → y < n → finmap.get u.gone y ≡ finmap.get s.gone y) → Carries n s u
carries_same n s u e h g = record {
  module_of = e;
  held = λ y lt k o f. h y lt k ∙ f;
  gone = λ y lt k. ap is_some (g y lt) ∙ k;
  slots = λ y part l lt k. slot_same y part l u s (ap (option_map _) (known_same y s u e (h y lt))) (g y lt) ∙ k;
}

-- an operation without operations inside it is taken out of both
pub carries_taken : (n x : ℕ) (s u s' u' : Stored) → IsTaken x s s' → IsTaken x u u' → u'.module_of ≡ s'.module_of → Carries n s u → Carries n s' u'
carries_taken n x s u s' u' t v e c = record {
  module_of = e;
  held = λ y lt k o f. ⊎_elim
      (λ same. (let one : Some t.here ≡ Some o = sym t.now ∙ ap (finmap.get s'.held) (sym same) ∙ f in
      ap (finmap.get u'.held) same ∙ v.now ∙ (sym v.found ∙ ap (λ (m : Numbered). find x m.tree) c.module_of ∙ t.found) ∙ one))
      (λ other. v.others y other ∙ c.held y lt (taken_back x s s' t y other k) o (sym (t.others y other) ∙ f))
      (cases_eq y x);
  gone = λ y lt k. ap (λ m. is_some (finmap.get m y)) v.gone ∙ c.gone y lt (sym (ap (λ m. is_some (finmap.get m y)) t.gone) ∙ k);
  slots = λ y part l lt k.
      slot_same y part l u' u (dictionary_seen part y u' u (sym (taken_seen x u u' v y))) (ap (λ m. finmap.get m y) v.gone)
      ∙ c.slots y part l lt (slot_same y part l s s' (dictionary_seen part y s s' (taken_seen x s s' t y)) (sym (ap (λ m. finmap.get m y) t.gone)) ∙ k);
}

-- and inserted again in both
pub carries_restored : (n x : ℕ) (s u s' u' : Stored) → IsTaken x s' s → IsTaken x u' u → u'.module_of ≡ s'.module_of → Carries n s u → Carries n s' u'
carries_restored n x s u s' u' t v e c = record {
  module_of = e;
  held = λ y lt k o f. (let other : y ≡ x → ⊥ = λ same. true≢false (sym (taken_there x s' s t) ∙ ap (λ z. has_id z s'.module_of.tree) (sym same) ∙ k) in
      sym (v.others y other) ∙ c.held y lt (taken_on x s' s t y k) o (t.others y other ∙ f));
  gone = λ y lt k. sym (ap (λ m. is_some (finmap.get m y)) v.gone) ∙ c.gone y lt (ap (λ m. is_some (finmap.get m y)) t.gone ∙ k);
  slots = λ y part l lt k.
      slot_same y part l u' u (dictionary_seen part y u' u (taken_seen x u' u v y)) (sym (ap (λ m. finmap.get m y) v.gone))
      ∙ c.slots y part l lt (slot_same y part l s s' (dictionary_seen part y s s' (sym (taken_seen x s' s t y))) (ap (λ m. finmap.get m y) t.gone) ∙ k);
}

-- an edit that changes only the trees
pub carries_edited : (n : ℕ) (s u s' u' : Stored) → ((y : ℕ) → has_id y s'.module_of.tree ≡ false → has_id y s.module_of.tree ≡ false)
    → ((y : ℕ) (part : Part) → dictionary part y s' ≡ dictionary part y s) → ((y : ℕ) (part : Part) → dictionary part y u' ≡ dictionary part y u)
    → s'.held ≡ s.held → u'.held ≡ u.held → s'.gone ≡ s.gone → u'.gone ≡ u.gone → u'.module_of ≡ s'.module_of → Carries n s u → Carries n s' u'
carries_edited n s u s' u' ids d e h k g f m c = record {
  module_of = m;
  held = λ y lt a o is. ap (λ z. finmap.get z y) k ∙ c.held y lt (ids y a) o (sym (ap (λ z. finmap.get z y) h) ∙ is);
  gone = λ y lt is. ap (λ z. is_some (finmap.get z y)) f ∙ c.gone y lt (sym (ap (λ z. is_some (finmap.get z y)) g) ∙ is);
  slots = λ y part l lt is. slot_same y part l u' u (e y part) (ap (λ z. finmap.get z y) f) ∙ c.slots y part l lt (slot_same y part l s s' (sym (d y part)) (sym (ap (λ z. finmap.get z y) g)) ∙ is);
}
