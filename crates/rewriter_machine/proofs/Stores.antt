-- The operations that a store knows, and its slots of removed keys.
use Rattle.std.proofs.Common.{◌≡◌, refl, ap, sym, ◌∙◌, ℕ, true, false, true≢false, eqb, ◌||◌, ⊎_elim, Option, Some, None, List}
use Rattle.std.proofs.lemmas.Bool.{cases_eq}
use Rattle.std.specs.Prelude.{option_map, is_some}
use Rattle.std.specs.FinMap as finmap
use Rattle.ir_event.specs.trees.declared.place.Part.{Part}
use Rattle.ir_event.specs.trees.Tree.{Head, Op, head, regions}
use Rattle.ir_event.specs.trees.Ids.{HasDistinctIds, find, first_of, has_id}
use Rattle.ir_event.specs.trees.Edits.{part_of}
use Rattle.ir_event.specs.trees.Places.{without}
use Rattle.ir_event.proofs.of_trees.Left.{gone}
use Rattle.ir_event.specs.tree_laws.Reasons.{hold_none}
use Rattle.ir_event.proofs.of_tree_laws.Around.{absent_find}
use Rattle.ir_event.proofs.of_tree_laws.Readings.{option_first}
use Rattle.ir_event.specs.store.Slots.{has_key}
use Rattle.ir_event.specs.store.Stored.{Stored, has_entry, has_slot, is_some_with, known, stands}
use Rattle.rewriter_machine.specs.Journals.{TracksRemovedKeys}
use Rattle.rewriter_machine.proofs.Trees.{absent_too, found_present, taken_head}
use Rattle.ir_event.proofs.of_tree_laws.Contents.{some_map}

-- the head of an operation that a store knows, and one dictionary of it
abbrev pub seen : ℕ → Stored → Option Head
seen y s = option_map (λ (o : Op). head o) (known y s)

abbrev pub dictionary : Part → ℕ → Stored → Option (List (ℕ × ℕ))
dictionary part y s = option_map (λ (o : Op). part_of part (head o)) (known y s)

pub seen_same : (y : ℕ) (s u : Stored) → option_map (λ (o : Op). head o) (find y s.module_of.tree) ≡ option_map (λ (o : Op). head o) (find y u.module_of.tree) → finmap.get s.held y ≡ finmap.get u.held y → seen y s ≡ seen y u
seen_same y s u e h =
    option_first (λ (o : Op). head o) (find y s.module_of.tree) (finmap.get s.held y)
    ∙ (λ i. first_of (e i) (option_map (λ (o : Op). head o) (h i)))
    ∙ sym (option_first (λ (o : Op). head o) (find y u.module_of.tree) (finmap.get u.held y))

part_seen : (part : Part) (q : Option Op) → option_map (λ (o : Op). part_of part (head o)) q ≡ option_map (part_of part) (option_map (λ (o : Op). head o) q)
part_seen part None = refl
part_seen part (Some o) = refl

pub dictionary_seen : (part : Part) (y : ℕ) (s u : Stored) → seen y s ≡ seen y u → dictionary part y s ≡ dictionary part y u
dictionary_seen part y s u e = part_seen part (known y s) ∙ ap (option_map (part_of part)) e ∙ sym (part_seen part (known y u))

entry_in : (part : Part) (l : ℕ) (q : Option Op) → is_some_with (λ (o : Op). has_key l (part_of part (head o))) q ≡ is_some_with (has_key l) (option_map (λ (o : Op). part_of part (head o)) q)
entry_in part l None = refl
entry_in part l (Some o) = refl

pub entry_same : (y : ℕ) (part : Part) (l : ℕ) (s u : Stored) → dictionary part y s ≡ dictionary part y u → has_entry y part l s ≡ has_entry y part l u
entry_same y part l s u e = entry_in part l (known y s) ∙ ap (is_some_with (has_key l)) e ∙ sym (entry_in part l (known y u))

pub slot_like : (y : ℕ) (part : Part) (l : ℕ) (s u : Stored) → dictionary part y s ≡ dictionary part y u → stands part l (finmap.get s.gone y) ≡ stands part l (finmap.get u.gone y) → has_slot y part l s ≡ has_slot y part l u
slot_like y part l s u e g = λ i. entry_same y part l s u e i || g i

pub slot_same : (y : ℕ) (part : Part) (l : ℕ) (s u : Stored) → dictionary part y s ≡ dictionary part y u → finmap.get s.gone y ≡ finmap.get u.gone y → has_slot y part l s ≡ has_slot y part l u
slot_same y part l s u e g = λ i. entry_same y part l s u e i || stands part l (g i)

-- the operations for which a store has lists of removed keys
pub slotted_same : (s u : Stored) → ((y : ℕ) → is_some (known y u) ≡ true → is_some (known y s) ≡ true) → ((y : ℕ) → is_some (finmap.get s.gone y) ≡ true → is_some (finmap.get u.gone y) ≡ true) → TracksRemovedKeys s → TracksRemovedKeys u
slotted_same s u e g h x k = g x (h x (e x k))

pub known_seen : (y : ℕ) (s u : Stored) → seen y s ≡ seen y u → is_some (known y u) ≡ is_some (known y s)
known_seen y s u e = sym (some_map (λ (o : Op). head o) (known y u)) ∙ ap is_some (sym e) ∙ some_map (λ (o : Op). head o) (known y s)

-- a bare operation x of s is held in u
pub record IsTaken (x : ℕ) (s u : Stored) : Type 0 where
  pub distinct : HasDistinctIds s.module_of.tree
  pub root : eqb (head s.module_of.tree).id x ≡ false
  pub here : Op
  pub found : find x s.module_of.tree ≡ Some here
  pub bare : hold_none (regions here) ≡ true
  pub left : u.module_of.tree ≡ without x s.module_of.tree
  pub now : finmap.get u.held x ≡ Some here
  pub others : (y : ℕ) → (y ≡ x → ⊥) → finmap.get u.held y ≡ finmap.get s.held y
  pub gone : u.gone ≡ s.gone

module _ (x : ℕ) (s u : Stored) (t : IsTaken x s u) where
  heads : (y : ℕ) → (y ≡ x → ⊥) → option_map (λ (o : Op). head o) (find y s.module_of.tree) ≡ option_map (λ (o : Op). head o) (find y u.module_of.tree)
  heads y not = taken_head x s.module_of.tree t.here t.distinct t.found t.root t.bare y not ∙ ap (λ z. option_map (λ (o : Op). head o) (find y z)) (sym t.left)

  pub taken_gone : has_id x u.module_of.tree ≡ false
  taken_gone = ap (has_id x) t.left ∙ gone x s.module_of.tree t.root

  pub taken_there : has_id x s.module_of.tree ≡ true
  taken_there = found_present x s.module_of.tree t.here t.found

  pub taken_back : (y : ℕ) → (y ≡ x → ⊥) → has_id y u.module_of.tree ≡ false → has_id y s.module_of.tree ≡ false
  taken_back y not n = absent_too y u.module_of.tree s.module_of.tree (sym (heads y not)) n

  pub taken_on : (y : ℕ) → has_id y s.module_of.tree ≡ false → has_id y u.module_of.tree ≡ false
  taken_on y n = absent_too y s.module_of.tree u.module_of.tree (heads y (λ e. true≢false (sym taken_there ∙ ap (λ z. has_id z s.module_of.tree) (sym e) ∙ n))) n

  pub taken_seen : (y : ℕ) → seen y s ≡ seen y u
  taken_seen y = ⊎_elim
      (λ e. ap (λ z. seen z s) e ∙ ap (λ q. option_map (λ (o : Op). head o) (first_of q (finmap.get s.held x))) t.found
      ∙ sym (ap (λ z. seen z u) e ∙ (λ i. option_map (λ (o : Op). head o) (first_of (absent_find x u.module_of.tree taken_gone i) (t.now i)))))
      (λ n. seen_same y s u (heads y n) (sym (t.others y n)))
      (cases_eq y x)
