-- The events of a journal lead to the module of its store, and the store holds the operations that they took out.
use Rattle.std.proofs.Common.{◌≡◌, refl, ap, sym, ◌∙◌, ℕ, zero, suc, ◌<◌, true, false, true≢false, eqb, eqb-true, List, [], ◌∷◌, Option, Some, None, inl, inr, arith}
use Rattle.std.specs.Prelude.{option_map, drop}
use Rattle.std.specs.FinMap as finmap
use Rattle.ir_event.specs.types.Things.{ContextModel}
use Rattle.ir_event.specs.types.Terms.{TypeTerm, AttrTerm, name_term, type_term, attr_term}
use Rattle.ir_event.specs.trees.Tree.{Op, head}
use Rattle.ir_event.specs.trees.Ids.{find, first_of, has_id}
use Rattle.ir_event.specs.trees.Edits.{put_operand, change_part, change_entry}
use Rattle.ir_event.specs.trees.Meaning.{Operation, meaning, key_before}
use Rattle.ir_event.proofs.of_trees.Mapped.{map_find}
use Rattle.ir_event.specs.tree_laws.Members.{In}
use Rattle.ir_event.specs.tree_laws.Stands.{OpWithPathOf, op_with_path_id, stands}
use Rattle.ir_event.proofs.of_tree_laws.Listed.{bool_cases}
use Rattle.ir_event.proofs.of_tree_laws.Around.{stand_present, member_of_place}
use Rattle.ir_event.proofs.of_tree_laws.Members.{found_stands}
use Rattle.ir_event.specs.store.Stored.{Stored, known}
use Rattle.ir_event.specs.store.Calls.{hold}
use Rattle.ir_event.specs.declared.event.Event.{Event}
use Rattle.ir_event.specs.declared.event.Event.TheVariants.{Put, Take, SetOperand, SetEntry, Shift}
use Rattle.ir_event.specs.Modules.{Module, module_meaning}
use Rattle.ir_event.specs.Step.{Step}
use Rattle.ir_event.specs.Undoing.{CameFrom, undone}
use Rattle.op_registry.specs.Registry.{own_of}
use Rattle.rewriter_machine.specs.Journals.{IsForward, IsJournal, before, undone_all}
use Rattle.rewriter_machine.proofs.Maps.{set_other, cut_here, cut_other}
use Rattle.rewriter_machine.proofs.Undoings.{present_below}
use Rattle.greedy.specs.Near.{Leads, IsShown}
use Rattle.greedy.proofs.Still.{goes_out, goes_in, goes_on, all_edited}
use Rattle.greedy.proofs.Tracked.{operand_id, operand_name, part_name, gone_found}
use Rattle.greedy.specs.Shown.{operands_found, shown_operands}
use Rattle.std.proofs.lemmas.Bool.{eqb-false}
use Rattle.ir_event.proofs.Steps.{meaning_operands}
use Rattle.ir_event.proofs.of_trees.Facts.{part_id}
use Rattle.std.proofs.lemmas.Option.{same_Some}

-- undoing one event keeps the held operations with older ids and doesn't raise the next free id
one_held : (c : ContextModel) (e : Event) (s : Stored) → IsForward e → CameFrom c e (module_meaning c (undone c e s).module_of) s → (x : ℕ) (o : Op) → x < (undone c e s).module_of.next → finmap.get (undone c e s).held x ≡ Some o
    → (finmap.get s.held x ≡ Some o) × (x < s.module_of.next)
one_held c (Put y place true) s w f x o l h = (put_held (find y s.module_of.tree) h, omega (arith, l, f.step.changes.next.0))
  where
    put_held : (q : Option Op) → finmap.get (hold y q s.held) x ≡ Some o → finmap.get s.held x ≡ Some o
    put_held None k = k
    put_held (Some p) k = sym (set_other s.held y p x (λ e. omega (arith, l, e))) ∙ k
one_held c (Put y place false) s w f x o l h = absurd (true≢false (sym w))
one_held c (Take y place true) s w f x o l h = absurd (true≢false w)
one_held c (Take y place false) s w f x o l h = (still, l)
  where
    still : finmap.get s.held x ≡ Some o
    still = elim (bool_cases (eqb x y)) [
      | inl e ↦ (let none : None ≡ Some o = sym (cut_here s.held y) ∙ ap (finmap.get (finmap.remove s.held y)) (sym (eqb-true x y e)) ∙ h in absurd cc)
      | inr e ↦ sym (cut_other s.held y x (eqb-false x y e)) ∙ h
    ]
one_held c (SetOperand y k old new) s w f x o l h = (h, l)
one_held c (SetEntry y part k old new) s w f x o l h = (h, l)
one_held c (Shift y old new) s w f x o l h = (h, l)

held_still : (c : ContextModel) (es : List Event) (s : Stored) → IsJournal c es s → (x : ℕ) (o : Op) → x < (undone_all c es s).module_of.next → finmap.get (undone_all c es s).held x ≡ Some o → finmap.get s.held x ≡ Some o
held_still c [] s j x o l h = h
held_still c (e ∷ es) s j x o l h =
    let w = one_held c e (undone_all c es s) j.1.0 j.1.1 x o l h in
    held_still c es s j.0 x o w.1 w.0

-- an event that assigns newer ids doesn't insert an absent operation with an older id
one_absent : (c : ContextModel) (e : Event) (p n : Module) → Step c e p n → IsForward e → (x : ℕ) → x < p.next → ((s : OpWithPathOf (List ℕ) TypeTerm AttrTerm) → In s (stands [] p.tree) → op_with_path_id s ≡ x → ⊥)
    → (r : OpWithPathOf (List ℕ) TypeTerm AttrTerm) → In r (stands [] n.tree) → op_with_path_id r ≡ x → ⊥
one_absent c (Put y place true) p n s f x l none r h i =
    let t = s.changes in
    let w = goes_out own_of y n.tree p.tree s.after.distinct s.before.distinct t.left t.empty r h (λ k. let e = t.next.1 in omega (arith, l, e, i, k)) in
    none w.0 w.1 (w.2 ∙ i)
one_absent c (Put y place false) p n s f x l none r h i = absurd (true≢false (sym f))
one_absent c (Take y place fresh) p n s f x l none r h i =
    let t = s.changes in
    let w = goes_in own_of y p.tree n.tree t.left r h (λ k. gone_found y p.tree n.tree t.left t.inner r h k) in
    none w.0 w.1 (w.2 ∙ i)
one_absent c (SetOperand y k old new) p n s f x l none r h i =
    let w = all_edited own_of y (put_operand k old) (operand_id y k old) (operand_name y k old) n.tree p.tree s.changes.before r h in
    none w.0 w.1 (w.2 ∙ i)
one_absent c (SetEntry y part key old new) p n s f x l none r h i =
    let g = change_entry key_before (name_term c key) (option_map (attr_term c) old) in
    let w = all_edited own_of y (change_part part g) (part_id y part g) (part_name y part g) n.tree p.tree s.changes.before r h in
    none w.0 w.1 (w.2 ∙ i)
one_absent c (Shift y old new) p n s f x l none r h i = elim (bool_cases (eqb (op_with_path_id r) y)) [
  | inl e ↦ (let u = member_of_place y old p.tree s.changes.was in none u.0 u.1 (u.2 ∙ sym (eqb-true (op_with_path_id r) y e) ∙ i))
  | inr e ↦ (let w = goes_on own_of y n.tree p.tree s.after.distinct s.changes.rest s.changes.same r h (eqb-false (op_with_path_id r) y e) in none w.0 w.1 (w.2 ∙ i))
]

-- the next free id never falls
one_rises : (c : ContextModel) (e : Event) (p n : Module) → Step c e p n → IsForward e → (x : ℕ) → x < p.next → x < n.next
one_rises c (Put y place true) p n s f x l = let a = s.changes.next.0 in let b = s.changes.next.1 in omega (arith, l, a, b)
one_rises c (Put y place false) p n s f x l = absurd (true≢false (sym f))
one_rises c (Take y place true) p n s f x l = absurd (true≢false f)
one_rises c (Take y place false) p n s f x l = let a = s.changes.next in omega (arith, l, a)
one_rises c (SetOperand y k old new) p n s f x l = let a = s.changes.next in omega (arith, l, a)
one_rises c (SetEntry y part key old new) p n s f x l = let a = s.changes.next in omega (arith, l, a)
one_rises c (Shift y old new) p n s f x l = let a = s.changes.next in omega (arith, l, a)

absent_still : (c : ContextModel) (es : List Event) (s : Stored) → IsJournal c es s → (x : ℕ) → x < (before c es s).next → ((z : OpWithPathOf (List ℕ) TypeTerm AttrTerm) → In z (stands [] (before c es s).tree) → op_with_path_id z ≡ x → ⊥)
    → (r : OpWithPathOf (List ℕ) TypeTerm AttrTerm) → In r (stands [] (module_meaning c s.module_of).tree) → op_with_path_id r ≡ x → ⊥
absent_still c [] s j x l none = none
absent_still c (e ∷ es) s j x l none =
    absent_still c es s j.0 x (one_rises c e (before c (e ∷ es) s) (before c es s) j.1.1.step j.1.0 x l) (one_absent c e (before c (e ∷ es) s) (before c es s) j.1.1.step j.1.0 x l none)

-- the operations found in the tree of terms
found_meant : (c : ContextModel) (x : ℕ) (t : Op) → find x (meaning c t) ≡ option_map (meaning c) (find x t)
found_meant c x t = map_find (name_term c) (type_term c) (attr_term c) x t

-- an operation outside the tree is known as the store holds it
held_known : (c : ContextModel) (x : ℕ) (s : Stored) (q : Op) → ((r : OpWithPathOf (List ℕ) TypeTerm AttrTerm) → In r (stands [] (meaning c s.module_of.tree)) → op_with_path_id r ≡ x → ⊥) → finmap.get s.held x ≡ Some q → known x s ≡ Some q
held_known c x s q none h = go (find x s.module_of.tree) refl
  where
    go : (a : Option Op) → find x s.module_of.tree ≡ a → known x s ≡ Some q
    go None e = ap (λ a. first_of a (finmap.get s.held x)) e ∙ h
    go (Some o) e = let r = found_stands x (meaning c s.module_of.tree) (meaning c o) (found_meant c x s.module_of.tree ∙ ap (option_map (meaning c)) e) in absurd (none r.0 r.1 r.2)

-- an operation of the module is known as the tree has it
there_known : (c : ContextModel) (x : ℕ) (s : Stored) (o : Operation) → find x (meaning c s.module_of.tree) ≡ Some o → (head o).operands ≡ shown_operands s x
there_known c x s o e = go (find x s.module_of.tree) refl
  where
    go : (a : Option Op) → find x s.module_of.tree ≡ a → (head o).operands ≡ shown_operands s x
    go None i = let none : None ≡ Some o = sym (ap (option_map (meaning c)) i) ∙ sym (found_meant c x s.module_of.tree) ∙ e in absurd cc
    go (Some q) i =
        let some : Some (meaning c q) ≡ Some o = sym (ap (option_map (meaning c)) i) ∙ sym (found_meant c x s.module_of.tree) ∙ e in
        let same : meaning c q ≡ o = cc in
        ap (λ (z : Operation). (head z).operands) (sym same) ∙ meaning_operands c q ∙ sym (ap (λ a. operands_found (first_of a (finmap.get s.held x))) i)

shown_when_taken : (c : ContextModel) (e : Event) (es : List Event) (s : Stored) → IsJournal c (e ∷ es) s → IsShown (shown_operands s) e (before c (e ∷ es) s)
shown_when_taken c (Put x place fresh) es s j = tt
shown_when_taken c (Take x place true) es s j = absurd (true≢false j.1.0)
shown_when_taken c (Take x place false) es s j = λ o e.
    let k = j.1.1.keeps in
    let t = j.1.1.step in
    let p = before c (Take x place false ∷ es) s in
    let same : o ≡ meaning c k.0 = same_Some o (meaning c k.0) (sym e ∙ k.2) in
    let there = found_stands x p.tree o e in
    let low = present_below p.next p.tree t.before.below x (ap (λ z. has_id z p.tree) (sym there.2) ∙ stand_present [] p.tree there.0 there.1) in
    let lower = one_rises c (Take x place false) p (before c es s) t refl x low in
    let none = absent_still c es s j.0 x lower (gone_found x p.tree (before c es s).tree t.changes.left t.changes.inner) in
    ap (λ (z : Operation). (head z).operands) same ∙ meaning_operands c k.0 ∙ sym (ap operands_found (held_known c x s k.0 none (held_still c es s j.0 x k.0 lower k.1)))
shown_when_taken c (SetOperand x k old new) es s j = tt
shown_when_taken c (SetEntry x part key old new) es s j = tt
shown_when_taken c (Shift x old new) es s j = tt

pub leads : (c : ContextModel) (es : List Event) (s : Stored) → IsJournal c es s → Leads (shown_operands s) c es (before c es s) (module_meaning c s.module_of)
leads c [] s j = (refl, λ x o e. there_known c x s o e)
leads c (e ∷ es) s j = (before c es s, j.1.1.step, shown_when_taken c e es s j, leads c es s j.0)

-- the same for the events from an index on
pub leads_from : (c : ContextModel) (es : List Event) (s : Stored) → IsJournal c es s → (k : ℕ) → Leads (shown_operands s) c (drop k es) (before c (drop k es) s) (module_meaning c s.module_of)
leads_from c es s j zero = leads c es s j
leads_from c [] s j (suc k) = leads c [] s j
leads_from c (e ∷ es) s j (suc k) = leads_from c es s j.0 k
