-- An operation keeps whether its results are used if no event adds or removes a use of them. The operands that the
-- store shows at the end determine which uses events add or remove.
use Rattle.std.proofs.Common.{◌≡◌, refl, ap, sym, ◌∙◌, subst, ℕ, zero, suc, Bool, true, false, true≢false, cond, ◌&&◌, not, eqb, eq-eqb, eqb-true, List, [], ◌∷◌, Some, inl, inr, ◌⊎◌, slice_get}
use Rattle.std.specs.Prelude.{option_map, option_and_then, slice_set}
use Rattle.std.specs.List.{list_all}
use Rattle.std.proofs.lemmas.Bool.{false_from_ne_true}
use Rattle.ir_event.specs.types.Things.{ContextModel}
use Rattle.ir_event.specs.types.Terms.{TypeTerm, AttrTerm, name_term, attr_term}
use Rattle.ir_event.specs.trees.declared.place.Place.{Place}
use Rattle.ir_event.specs.trees.declared.value.Value.{Value}
use Rattle.ir_event.specs.trees.declared.value.Value.TheVariants.{Result, Arg}
use Rattle.ir_event.specs.trees.Tree.{HeadOf, OpOf, op, head}
use Rattle.ir_event.specs.trees.Ids.{HasDistinctIds, find}
use Rattle.ir_event.specs.trees.Edits.{at, put_operand, change_part, change_entry, each_head}
use Rattle.ir_event.specs.trees.Meaning.{Operation, key_before}
use Rattle.ir_event.specs.store.Nodes.{node_of}
use Rattle.ir_event.specs.tree_laws.Changes.{operand_at}
use Rattle.ir_event.specs.tree_laws.Stands.{OpWithPathOf, op_with_path_id, stands, edit_stand}
use Rattle.ir_event.specs.tree_laws.Members.{In}
use Rattle.ir_event.proofs.of_tree_laws.Listed.{bool_cases, each_all, all_each}
use Rattle.ir_event.proofs.of_tree_laws.Readings.{stands_every}
use Rattle.ir_event.proofs.of_tree_laws.Members.{stand_found, found_stands}
use Rattle.ir_event.specs.declared.event.Event.{Event}
use Rattle.ir_event.specs.declared.event.Event.TheVariants.{Put, Take, SetOperand, SetEntry, Shift}
use Rattle.ir_event.specs.Modules.{Module}
use Rattle.ir_event.specs.Step.{Step}
use Rattle.op_registry.specs.Registry.{own_of}
use Rattle.effects.specs.Dead.{is_result_of, is_unused}
use Rattle.greedy.specs.LocalContext.{defining_op}
use Rattle.greedy.specs.Near.{gained_values, lost_values, moved_values, Leads, IsShown, Ungiven}
use Rattle.greedy.proofs.Still.{Like, Goes, goes_out, goes_in, goes_on, goes_edited, edited_there, edit_id}
use Rattle.greedy.proofs.Tracked.{operand_id, operand_name, part_name, gone_found}
use Rattle.ir_event.proofs.Facts.{found_id}
use Rattle.ir_event.proofs.of_trees.Facts.{part_id, part_operands}
use Rattle.ir_event.proofs.of_types.Truths.{same_bool}

-- ---- tests of all operations

-- an operation without an operand that x defines
freed : (x : ℕ) (vs : List Value) → ((v : Value) → In v vs → defining_op v ≡ Some x → ⊥) → list_all (λ v. not (is_result_of x v)) vs ≡ true
freed x vs f = each_all (λ v. not (is_result_of x v)) vs (λ v h. none v (f v h))
  where
    none : (v : Value) → (defining_op v ≡ Some x → ⊥) → not (is_result_of x v) ≡ true
    none (Arg y r k) n = refl
    none (Result y k) n = elim (bool_cases (eqb y x)) [ inl e ↦ absurd (n (ap Some (eqb-true y x e))) | inr e ↦ ap not e ]

-- a list with another value at an index
set_at : (f : Value → Bool) (vs : List Value) (k : ℕ) (old new : Value) → slice_get vs k ≡ Some old → f old ≡ true → f new ≡ true → list_all f (slice_set vs k new) ≡ list_all f vs
set_at f [] k old new e a b = absurd cc
set_at f (v ∷ vs) zero old new e a b = let same : v ≡ old = cc in (λ i. b i && list_all f vs) ∙ sym (ap (λ w. f w && list_all f vs) same ∙ λ i. a i && list_all f vs)
set_at f (v ∷ vs) (suc k) old new e a b = ap (λ c. f v && c) (set_at f vs k old new e a b)

-- each value of the new list is the old value at that index or a value of the old list
set_keeps : (vs : List Value) (k : ℕ) (old new v : Value) → slice_get vs k ≡ Some old → In v vs → (v ≡ old) ⊎ In v (slice_set vs k new)
set_keeps [] k old new v e h = absurd h
set_keeps (w ∷ vs) zero old new v e (inl i) = let same : w ≡ old = cc in inl (i ∙ same)
set_keeps (w ∷ vs) zero old new v e (inr h) = inr (inr h)
set_keeps (w ∷ vs) (suc k) old new v e (inl i) = inr (inl i)
set_keeps (w ∷ vs) (suc k) old new v e (inr h) = elim (set_keeps vs k old new v e h) [ inl i ↦ inl i | inr i ↦ inr (inr i) ]

module _ {N T A : Type 0} where
  -- the test on an operation's operands
  abbrev free_of : ℕ → OpOf N T A → Bool
  free_of x o = list_all (λ v. not (is_result_of x v)) (head o).operands

  implied : (x : ℕ) (t u : OpOf N T A) → ((s : OpWithPathOf N T A) → In s (stands [] t) → (free_of x s.here ≡ true) ⊎ ((r : OpWithPathOf N T A) × In r (stands [] u) × (free_of x r.here ≡ free_of x s.here))) → is_unused x u ≡ true → is_unused x t ≡ true
  implied x t u f e =
      sym (stands_every (free_of x) [] t)
      ∙ each_all (λ (s : OpWithPathOf N T A). free_of x s.here) (stands [] t) (λ s h. elim (f s h) [
        | inl k ↦ k
        | inr r ↦ sym r.2 ∙ all_each (λ (z : OpWithPathOf N T A). free_of x z.here) (stands [] u) (stands_every (free_of x) [] u ∙ e) r.0 r.1
      ])

  shown_operands : (o : OpOf N T A) → (node_of o).head.operands ≡ (head o).operands
  shown_operands (op h rs) = refl

  node_operands : (o q : OpOf N T A) → node_of o ≡ node_of q → (head o).operands ≡ (head q).operands
  node_operands o q e = sym (shown_operands o) ∙ ap (λ n. n.head.operands) e ∙ shown_operands q

  same_free : (x : ℕ) (o q : OpOf N T A) → (head o).operands ≡ (head q).operands → free_of x o ≡ free_of x q
  same_free x o q e = ap (list_all (λ v. not (is_result_of x v))) e

  -- the operands of an operation in a tree with an operand set
  set_operands : (x k : ℕ) (v : Value) (o : OpOf N T A) → (head o).id ≡ x → (head (each_head (at x (put_operand k v)) o)).operands ≡ slice_set (head o).operands k v
  set_operands x k v (op h rs) e = ap (λ b. (cond b (put_operand k v h) h).operands) (eq-eqb h.id x e)

  edit_operands : (g : HeadOf N T A → HeadOf N T A) → ((h : HeadOf N T A) → (g h).operands ≡ h.operands) → (o : OpOf N T A) → (head (each_head g o)).operands ≡ (head o).operands
  edit_operands g f (op h rs) = f h

  operand_there : (x k : ℕ) (old : Value) (t o : OpOf N T A) → operand_at x k t ≡ Some old → find x t ≡ Some o → slice_get (head o).operands k ≡ Some old
  operand_there x k old t o e f = sym (ap (option_and_then (λ o. slice_get (head o).operands k)) f) ∙ e

-- ---- one event
module _ (c : ContextModel) (y : ℕ) where
  -- all operations but the event's operation keep their operands
  others : (x : ℕ) (t u : Operation) → Goes (Like own_of x) x t u → (s : OpWithPathOf (List ℕ) TypeTerm AttrTerm) → In s (stands [] t) → (op_with_path_id s ≡ x → ⊥) → (r : OpWithPathOf (List ℕ) TypeTerm AttrTerm) × In r (stands [] u) × (free_of y r.here ≡ free_of y s.here)
  others x t u goes s h apart = let w = goes s h apart in (w.0, w.1, same_free y w.0.here s.here (node_operands w.0.here s.here (sym w.3.node)))

  by_subject : (x : ℕ) (t u : Operation) → Goes (Like own_of x) x t u → ((s : OpWithPathOf (List ℕ) TypeTerm AttrTerm) → In s (stands [] t) → op_with_path_id s ≡ x → (free_of y s.here ≡ true) ⊎ ((r : OpWithPathOf (List ℕ) TypeTerm AttrTerm) × In r (stands [] u) × (free_of y r.here ≡ free_of y s.here)))
      → is_unused y u ≡ true → is_unused y t ≡ true
  by_subject x t u goes own = implied y t u (λ s h. elim (bool_cases (eqb (op_with_path_id s) x)) [
    | inl e ↦ own s h (eqb-true (op_with_path_id s) x e)
    | inr e ↦ inr (others x t u goes s h (λ i. true≢false (sym (eq-eqb (op_with_path_id s) x i) ∙ e)))
  ])

  -- an event changes the use of a value only if its operation has that value as an operand
  pub put_unused : (x : ℕ) (t w : Operation) → HasDistinctIds t → Goes (Like own_of x) x t w → Goes (Like own_of x) x w t → ((s : OpWithPathOf (List ℕ) TypeTerm AttrTerm) → In s (stands [] w) → op_with_path_id s ≡ x → ⊥)
      → ((o : Operation) → find x t ≡ Some o → (v : Value) → In v (head o).operands → defining_op v ≡ Some y → ⊥) → is_unused y w ≡ is_unused y t
  put_unused x t w d out back none free = same_bool (is_unused y w) (is_unused y t)
      (by_subject x t w out (λ s h i. inl (freed y (head s.here).operands (free s.here (ap (λ z. find z t) (sym i) ∙ stand_found t d s h)))))
      (by_subject x w t back (λ s h i. absurd (none s h i)))

  pub step_unused : (e : Event) (m n : Module) → Step c e m n
      → ((x : ℕ) (place : Place) (fresh : Bool) → e ≡ Put x place fresh → (o : Operation) → find x n.tree ≡ Some o → (v : Value) → In v (head o).operands → defining_op v ≡ Some y → ⊥)
      → ((x : ℕ) (place : Place) (fresh : Bool) → e ≡ Take x place fresh → (o : Operation) → find x m.tree ≡ Some o → (v : Value) → In v (head o).operands → defining_op v ≡ Some y → ⊥)
      → ((x k : ℕ) (old new : Value) → e ≡ SetOperand x k old new → (defining_op old ≡ Some y → ⊥) × (defining_op new ≡ Some y → ⊥))
      → is_unused y n.tree ≡ is_unused y m.tree
  step_unused (Put x place fresh) m n s put take set =
      let t = s.changes in
      sym (put_unused x n.tree m.tree s.after.distinct (goes_out own_of x n.tree m.tree s.after.distinct s.before.distinct t.left t.empty) (goes_in own_of x n.tree m.tree t.left) (gone_found x n.tree m.tree t.left t.inner) (put x place fresh refl))
  step_unused (Take x place fresh) m n s put take set =
      let t = s.changes in
      put_unused x m.tree n.tree s.before.distinct (goes_out own_of x m.tree n.tree s.before.distinct s.after.distinct t.left t.empty) (goes_in own_of x m.tree n.tree t.left) (gone_found x m.tree n.tree t.left t.inner) (take x place fresh refl)
  step_unused (SetOperand x k old new) m n s put take set =
      let w = set x k old new refl in
      let f = free_value old w.0 in
      let g = free_value new w.1 in
      same_bool (is_unused y n.tree) (is_unused y m.tree)
      (by_subject x m.tree n.tree (goes_edited own_of x (put_operand k new) (operand_id x k new) (operand_name x k new) m.tree n.tree s.changes.after) (λ z h i. inr (
        edit_stand (at x (put_operand k new)) z,
        edited_there own_of x (put_operand k new) (operand_id x k new) (operand_name x k new) m.tree n.tree s.changes.after z h,
        ap (list_all (λ v. not (is_result_of y v))) (set_operands x k new z.here i) ∙ set_at (λ v. not (is_result_of y v)) (head z.here).operands k old new (operand_there x k old m.tree z.here s.changes.was (ap (λ j. find j m.tree) (sym i) ∙ stand_found m.tree s.before.distinct z h)) f g,
      )))
      (by_subject x n.tree m.tree (goes_edited own_of x (put_operand k old) (operand_id x k old) (operand_name x k old) n.tree m.tree s.changes.before) (λ z h i. inr (
        edit_stand (at x (put_operand k old)) z,
        edited_there own_of x (put_operand k old) (operand_id x k old) (operand_name x k old) n.tree m.tree s.changes.before z h,
        ap (list_all (λ v. not (is_result_of y v))) (set_operands x k old z.here i) ∙ set_at (λ v. not (is_result_of y v)) (head z.here).operands k new old (operand_there x k new n.tree z.here s.changes.is (ap (λ j. find j n.tree) (sym i) ∙ stand_found n.tree s.after.distinct z h)) g f,
      )))
    where
      free_value : (v : Value) → (defining_op v ≡ Some y → ⊥) → not (is_result_of y v) ≡ true
      free_value (Arg a r j) n = refl
      free_value (Result a j) n = elim (bool_cases (eqb a y)) [ inl e ↦ absurd (n (ap Some (eqb-true a y e))) | inr e ↦ ap not e ]
  step_unused (SetEntry x part key old new) m n s put take set =
      let f = change_entry key_before (name_term c key) (option_map (attr_term c) new) in
      let g = change_entry key_before (name_term c key) (option_map (attr_term c) old) in
      same_bool (is_unused y n.tree) (is_unused y m.tree)
      (by_subject x m.tree n.tree (goes_edited own_of x (change_part part f) (part_id x part f) (part_name x part f) m.tree n.tree s.changes.after) (λ z h i. inr (
        edit_stand (at x (change_part part f)) z,
        edited_there own_of x (change_part part f) (part_id x part f) (part_name x part f) m.tree n.tree s.changes.after z h,
        same_free y (each_head (at x (change_part part f)) z.here) z.here (edit_operands (at x (change_part part f)) (part_operands x part f) z.here),
      )))
      (by_subject x n.tree m.tree (goes_edited own_of x (change_part part g) (part_id x part g) (part_name x part g) n.tree m.tree s.changes.before) (λ z h i. inr (
        edit_stand (at x (change_part part g)) z,
        edited_there own_of x (change_part part g) (part_id x part g) (part_name x part g) n.tree m.tree s.changes.before z h,
        same_free y (each_head (at x (change_part part g)) z.here) z.here (edit_operands (at x (change_part part g)) (part_operands x part g) z.here),
      )))
  step_unused (Shift x old new) m n s put take set =
      let t = s.changes in
      same_bool (is_unused y n.tree) (is_unused y m.tree)
      (by_subject x m.tree n.tree (goes_on own_of x m.tree n.tree s.before.distinct (sym t.rest) (sym t.same)) (λ z h i. inr (itself x m.tree n.tree s.before.distinct t.same z h i)))
      (by_subject x n.tree m.tree (goes_on own_of x n.tree m.tree s.after.distinct t.rest t.same) (λ z h i. inr (itself x n.tree m.tree s.after.distinct (sym t.same) z h i)))
    where
      itself : (x : ℕ) (t u : Operation) → HasDistinctIds t → find x u ≡ find x t → (z : OpWithPathOf (List ℕ) TypeTerm AttrTerm) → In z (stands [] t) → op_with_path_id z ≡ x → (r : OpWithPathOf (List ℕ) TypeTerm AttrTerm) × In r (stands [] u) × (free_of y r.here ≡ free_of y z.here)
      itself x t u d same z h i =
          let r = found_stands x u z.here (same ∙ ap (λ j. find j t) (sym i) ∙ stand_found t d z h) in
          (r.0, r.1, ap (free_of y) r.3)

-- ---- what the store shows at the end if an operation had a value as an operand, the store shows it, or an event
-- replaced it there
abbrev Said : (ℕ → List Value) → List Event → ℕ → Value → Type 0
Said shown es x v = In v (shown x) ⊎ ((e : Event) × In e es × ((k : ℕ) × ((new : Value) × (e ≡ SetOperand x k v new))))

later : (shown : ℕ → List Value) (e : Event) (es : List Event) (x : ℕ) (v : Value) → Said shown es x v → Said shown (e ∷ es) x v
later shown e es x v (inl h) = inl h
later shown e es x v (inr h) = inr (h.0, inr h.1, h.2)

-- what is known of such an operand after an event
abbrev After : (ℕ → List Value) → Event → List Event → Module → ℕ → Value → Type 0
After shown e es p x v = (q : Operation) → find x p.tree ≡ Some q → In v (head q).operands → Said shown (e ∷ es) x v

-- an operation that the event isn't about keeps its operands
goes_said : (shown : ℕ → List Value) (e : Event) (es : List Event) (z : ℕ) (m p : Module) → HasDistinctIds p.tree → Goes (Like own_of z) z m.tree p.tree → (x : ℕ) (o : Operation) → find x m.tree ≡ Some o → eqb x z ≡ false → (v : Value) → In v (head o).operands
    → After shown e es p x v → Said shown (e ∷ es) x v
goes_said shown e es z m p dp w x o f apart v h more =
    let r = found_stands x m.tree o f in
    let u = w r.0 r.1 (λ i. true≢false (sym (eq-eqb x z (sym r.2 ∙ i)) ∙ apart)) in
    let same : (head o).operands ≡ (head u.0.here).operands = ap (λ (q : Operation). (head q).operands) (sym r.3) ∙ node_operands r.0.here u.0.here u.3.node in
    more u.0.here (ap (λ j. find j p.tree) (sym (u.2 ∙ r.2)) ∙ stand_found p.tree dp u.0 u.1) (subst (λ vs. In v vs) same h)

edited_found : (z : ℕ) (g : HeadOf (List ℕ) TypeTerm AttrTerm → HeadOf (List ℕ) TypeTerm AttrTerm) → ((h : HeadOf (List ℕ) TypeTerm AttrTerm) → (at z g h).id ≡ h.id) → ((h : HeadOf (List ℕ) TypeTerm AttrTerm) → (at z g h).name ≡ h.name) → (m p : Module) → HasDistinctIds p.tree → p.tree ≡ each_head (at z g) m.tree
    → (x : ℕ) (o : Operation) → find x m.tree ≡ Some o → find x p.tree ≡ Some (each_head (at z g) o)
edited_found z g ids names m p dp is x o f =
    let r = found_stands x m.tree o f in
    let there = edited_there own_of z g ids names m.tree p.tree is r.0 r.1 in
    ap (λ j. find j p.tree) (sym (edit_id own_of z g ids names r.0.here ∙ r.2)) ∙ stand_found p.tree dp (edit_stand (at z g) r.0) there ∙ ap (λ q. Some (each_head (at z g) q)) r.3

step_said : (shown : ℕ → List Value) (c : ContextModel) (e : Event) (es : List Event) (m p : Module) → Step c e m p → IsShown shown e m → (x : ℕ) (o : Operation) → find x m.tree ≡ Some o → (v : Value) → In v (head o).operands → After shown e es p x v → Said shown (e ∷ es) x v
step_said shown c (Put z place fresh) es m p s k x o f v h more =
    let t = s.changes in
    elim (bool_cases (eqb x z)) [
      | inl i ↦ (let r = found_stands x m.tree o f in absurd (gone_found z p.tree m.tree t.left t.inner r.0 r.1 (r.2 ∙ eqb-true x z i)))
      | inr i ↦ goes_said shown (Put z place fresh) es z m p s.after.distinct (goes_in own_of z p.tree m.tree t.left) x o f i v h more
    ]
step_said shown c (Take z place fresh) es m p s k x o f v h more =
    let t = s.changes in
    elim (bool_cases (eqb x z)) [
      | inl i ↦ (let same = eqb-true x z i in inl (subst (λ vs. In v vs) (k o (ap (λ j. find j m.tree) (sym same) ∙ f) ∙ ap shown (sym same)) h))
      | inr i ↦ goes_said shown (Take z place fresh) es z m p s.after.distinct (goes_out own_of z m.tree p.tree s.before.distinct s.after.distinct t.left t.empty) x o f i v h more
    ]
step_said shown c (SetOperand z j old new) es m p s k x o f v h more =
    elim (bool_cases (eqb x z)) [
      | inl i ↦ (let same = eqb-true x z i in
          let there = operand_there z j old m.tree o s.changes.was (ap (λ a. find a m.tree) (sym same) ∙ f) in
          elim (set_keeps (head o).operands j old new v there h) [
            | inl q ↦ inr (SetOperand z j old new, inl refl, (j, (new, λ a. SetOperand (sym same a) j (sym q a) new)))
            | inr q ↦ more (each_head (at z (put_operand j new)) o) (edited_found z (put_operand j new) (operand_id z j new) (operand_name z j new) m p s.after.distinct s.changes.after x o f)
                (subst (λ vs. In v vs) (sym (set_operands z j new o (found_id x m.tree o f ∙ same))) q)
          ])
      | inr i ↦ goes_said shown (SetOperand z j old new) es z m p s.after.distinct (goes_edited own_of z (put_operand j new) (operand_id z j new) (operand_name z j new) m.tree p.tree s.changes.after) x o f i v h more
    ]
step_said shown c (SetEntry z part key old new) es m p s k x o f v h more =
    more _ (edited_found z (change_part part _) (part_id z part _) (part_name z part _) m p s.after.distinct s.changes.after x o f)
    (subst (λ vs. In v vs) (sym (edit_operands (at z (change_part part _)) (part_operands z part _) o)) h)
step_said shown c (Shift z old new) es m p s k x o f v h more =
    let t = s.changes in
    elim (bool_cases (eqb x z)) [
      | inl i ↦ (let same = eqb-true x z i in more o (ap (λ j. find j p.tree) same ∙ t.same ∙ ap (λ j. find j m.tree) (sym same) ∙ f) h)
      | inr i ↦ goes_said shown (Shift z old new) es z m p s.after.distinct (goes_on own_of z m.tree p.tree s.before.distinct (sym t.rest) (sym t.same)) x o f i v h more
    ]

pub said : (shown : ℕ → List Value) (c : ContextModel) (es : List Event) (m n : Module) → Leads shown c es m n → (x : ℕ) (o : Operation) → find x m.tree ≡ Some o → (v : Value) → In v (head o).operands → Said shown es x v
said shown c [] m n s x o f v h = inl (subst (λ vs. In v vs) (s.1 x o (ap (λ (p : Module). find x p.tree) s.0 ∙ f)) h)
said shown c (e ∷ es) m n s x o f v h = step_said shown c e es m s.0 s.1 s.2 x o f v h (λ q g k. later shown e es x v (said shown c es s.0 n s.3 x q g v k))

-- an operation keeps whether its results are used if it defines none of the values that gain or lose a use
value_ungiven : (shown : ℕ → List Value) (es ds : List Event) (y x : ℕ) (v : Value) → ((e : Event) → In e ds → In e es) → Ungiven shown es y → ((v : Value) → In v (shown x) → defining_op v ≡ Some y → ⊥) → Said shown ds x v → defining_op v ≡ Some y → ⊥
value_ungiven shown es ds y x v within away own (inl h) = own v h
value_ungiven shown es ds y x v within away own (inr h) =
    let e : h.0 ≡ SetOperand x h.2.0 v h.2.1.0 = h.2.1.1 in
    away h.0 (within h.0 h.1) v (subst (λ vs. In v vs) (ap (moved_values shown) (sym e)) (inl refl))

unused_stays : (shown : ℕ → List Value) (c : ContextModel) (es : List Event) (m n : Module) → Leads shown c es m n → (y : ℕ) → Ungiven shown es y → is_unused y n.tree ≡ is_unused y m.tree
unused_stays shown c [] m n s y away = ap (λ (p : Module). is_unused y p.tree) s.0
unused_stays shown c (e ∷ es) m n s y away =
    unused_stays shown c es s.0 n s.3 y (λ d i. away d (inr i))
    ∙ step_unused c y e m s.0 s.1
    (λ x place fresh i o f v h. value_ungiven shown (e ∷ es) es y x v (λ d j. inr j) away (λ w k. away e (inl refl) w (subst (λ vs. In w vs) (ap (moved_values shown) (sym i)) k)) (said shown c es s.0 n s.3 x o f v h))
    (λ x place fresh i o f v h. value_ungiven shown (e ∷ es) (e ∷ es) y x v (λ d j. j) away (λ w k. away e (inl refl) w (subst (λ vs. In w vs) (ap (moved_values shown) (sym i)) k)) (said shown c (e ∷ es) m n s x o f v h))
    (λ x k old new i. (away e (inl refl) old (subst (λ vs. In old vs) (ap (moved_values shown) (sym i)) (inl refl)), away e (inl refl) new (subst (λ vs. In new vs) (ap (moved_values shown) (sym i)) (inr (inl refl)))))

moved_split : (shown : ℕ → List Value) (e : Event) (v : Value) → In v (moved_values shown e) → In v (gained_values shown e) ⊎ In v (lost_values shown e)
moved_split shown (Put x place fresh) v h = inl h
moved_split shown (Take x place fresh) v h = inr h
moved_split shown (SetOperand x k old new) v (inl i) = inr (inl i)
moved_split shown (SetOperand x k old new) v (inr h) = inl h
moved_split shown (SetEntry x part key old new) v h = absurd h
moved_split shown (Shift x old new) v h = absurd h

-- ---- an operand after the events was an operand of the operation before, or gained a use
abbrev Had : Module → ℕ → Value → Type 0
Had m x v = (q : Operation) × (find x m.tree ≡ Some q) × In v (head q).operands

abbrev Came : (ℕ → List Value) → List Event → Module → ℕ → Value → Type 0
Came shown es m x v = Had m x v ⊎ ((e : Event) × In e es × In v (gained_values shown e))

goes_had : (z : ℕ) (m p : Module) → HasDistinctIds m.tree → Goes (Like own_of z) z p.tree m.tree → (x : ℕ) → eqb x z ≡ false → (v : Value) → Had p x v → Had m x v
goes_had z m p dm w x apart v h =
    let r = found_stands x p.tree h.0 h.1 in
    let u = w r.0 r.1 (λ i. true≢false (sym (eq-eqb x z (sym r.2 ∙ i)) ∙ apart)) in
    let same : (head h.0).operands ≡ (head u.0.here).operands = ap (λ (q : Operation). (head q).operands) (sym r.3) ∙ node_operands r.0.here u.0.here u.3.node in
    (u.0.here, ap (λ j. find j m.tree) (sym (u.2 ∙ r.2)) ∙ stand_found m.tree dm u.0 u.1, subst (λ vs. In v vs) same h.2)

one_came : (shown : ℕ → List Value) (c : ContextModel) (e : Event) (es : List Event) (m p : Module) → Step c e m p → (x : ℕ) (v : Value) → In v (shown x) → Had p x v → Came shown (e ∷ es) m x v
one_came shown c (Put z place fresh) es m p s x v k h =
    let t = s.changes in
    elim (bool_cases (eqb x z)) [
      | inl i ↦ inr (Put z place fresh, inl refl, subst (λ y. In v (shown y)) (eqb-true x z i) k)
      | inr i ↦ inl (goes_had z m p s.before.distinct (goes_out own_of z p.tree m.tree s.after.distinct s.before.distinct t.left t.empty) x i v h)
    ]
one_came shown c (Take z place fresh) es m p s x v k h =
    let t = s.changes in
    elim (bool_cases (eqb x z)) [
      | inl i ↦ (let r = found_stands x p.tree h.0 h.1 in absurd (gone_found z m.tree p.tree t.left t.inner r.0 r.1 (r.2 ∙ eqb-true x z i)))
      | inr i ↦ inl (goes_had z m p s.before.distinct (goes_in own_of z m.tree p.tree t.left) x i v h)
    ]
one_came shown c (SetOperand z j old new) es m p s x v k h = elim (bool_cases (eqb x z)) [
  | inl i ↦ (let same = eqb-true x z i in
      let there = operand_there z j new p.tree h.0 s.changes.is (ap (λ a. find a p.tree) (sym same) ∙ h.1) in
      elim (set_keeps (head h.0).operands j new old v there h.2) [
        | inl q ↦ inr (SetOperand z j old new, inl refl, inl q)
        | inr q ↦ inl (
          each_head (at z (put_operand j old)) h.0,
          edited_found z (put_operand j old) (operand_id z j old) (operand_name z j old) p m s.before.distinct s.changes.before x h.0 h.1,
          subst (λ vs. In v vs) (sym (set_operands z j old h.0 (found_id x p.tree h.0 h.1 ∙ same))) q,
        )
      ])
  | inr i ↦ inl (goes_had z m p s.before.distinct (goes_edited own_of z (put_operand j old) (operand_id z j old) (operand_name z j old) p.tree m.tree s.changes.before) x i v h)
]
one_came shown c (SetEntry z part key old new) es m p s x v k h =
    let g = change_entry key_before (name_term c key) (option_map (attr_term c) old) in
    inl (
      each_head (at z (change_part part g)) h.0,
      edited_found z (change_part part g) (part_id z part g) (part_name z part g) p m s.before.distinct s.changes.before x h.0 h.1,
      subst (λ vs. In v vs) (sym (edit_operands (at z (change_part part g)) (part_operands z part g) h.0)) h.2,
    )
one_came shown c (Shift z old new) es m p s x v k h =
    let t = s.changes in
    elim (bool_cases (eqb x z)) [
      | inl i ↦ (let same = eqb-true x z i in inl (h.0, ap (λ j. find j m.tree) same ∙ sym t.same ∙ ap (λ j. find j p.tree) (sym same) ∙ h.1, h.2))
      | inr i ↦ inl (goes_had z m p s.before.distinct (goes_on own_of z p.tree m.tree s.after.distinct t.rest t.same) x i v h)
    ]

came : (shown : ℕ → List Value) (c : ContextModel) (es : List Event) (m n : Module) → Leads shown c es m n → (x : ℕ) (v : Value) → In v (shown x) → Had n x v → Came shown es m x v
came shown c [] m n s x v k h = inl (subst (λ (p : Module). Had p x v) s.0 h)
came shown c (e ∷ es) m n s x v k h = elim (came shown c es s.0 n s.3 x v k h) [
  | inl w ↦ one_came shown c e es m s.0 s.1 x v k w
  | inr w ↦ inr (w.0, inr w.1, w.2)
]

-- the store shows the operands of each operation of the last module
last_shown : (shown : ℕ → List Value) (c : ContextModel) (es : List Event) (m n : Module) → Leads shown c es m n → (x : ℕ) (o : Operation) → find x n.tree ≡ Some o → (head o).operands ≡ shown x
last_shown shown c [] m n s x o f = s.1 x o f
last_shown shown c (e ∷ es) m n s x o f = last_shown shown c es s.0 n s.3 x o f

-- no operation uses the results of y if none did before, and no value of y gained a use
none_gained : (shown : ℕ → List Value) (c : ContextModel) (es : List Event) (m n : Module) → Leads shown c es m n → HasDistinctIds n.tree → (y : ℕ) → ((e : Event) → In e es → (v : Value) → In v (gained_values shown e) → defining_op v ≡ Some y → ⊥)
    → is_unused y m.tree ≡ true → is_unused y n.tree ≡ true
none_gained shown c es m n s d y away u =
    sym (stands_every (free_of y) [] n.tree)
    ∙ each_all (λ (z : OpWithPathOf (List ℕ) TypeTerm AttrTerm). free_of y z.here) (stands [] n.tree) (λ z h. freed y (head z.here).operands (λ v k g.
    let found = stand_found n.tree d z h in
    elim (came shown c es m n s (op_with_path_id z) v (subst (λ vs. In v vs) (last_shown shown c es m n s (op_with_path_id z) z.here found) k) (z.here, found, k)) [
      | inl w ↦ not_free v g (
          let r = found_stands (op_with_path_id z) m.tree w.0 w.1 in
          all_each (λ v. not (is_result_of y v)) (head w.0).operands (subst (λ (q : Operation). free_of y q ≡ true) r.3 (all_each (λ (z : OpWithPathOf (List ℕ) TypeTerm AttrTerm). free_of y z.here) (stands [] m.tree) (stands_every (free_of y) [] m.tree ∙ u) r.0 r.1)) v w.2)
      | inr w ↦ away w.0 w.1 v w.2 g
    ]))
  where
    not_free : (v : Value) → defining_op v ≡ Some y → not (is_result_of y v) ≡ true → ⊥
    not_free (Arg a r j) g h = absurd cc
    not_free (Result a j) g h = let same : a ≡ y = cc in true≢false (sym h ∙ ap not (eq-eqb a y same))

-- an operation keeps whether its results are used if it defines no value that gains a use, and is still used if it
-- defines a value that loses one
pub unused_alike : (shown : ℕ → List Value) (c : ContextModel) (es : List Event) (m n : Module) → Leads shown c es m n → HasDistinctIds n.tree → (y : ℕ) → ((e : Event) → In e es → (v : Value) → In v (gained_values shown e) → defining_op v ≡ Some y → ⊥)
    → ((e : Event) → In e es → (v : Value) → In v (lost_values shown e) → defining_op v ≡ Some y → is_unused y n.tree ≡ false) → is_unused y n.tree ≡ is_unused y m.tree
unused_alike shown c es m n s d y gained lost = elim (bool_cases (is_unused y n.tree)) [
  | inl u ↦ unused_stays shown c es m n s y (λ e i v j g. elim (moved_split shown e v j) [
    | inl k ↦ gained e i v k g
    | inr k ↦ true≢false (sym u ∙ lost e i v k g)
  ])
  | inr u ↦ u ∙ sym (false_from_ne_true (is_unused y m.tree) (λ h. true≢false (sym (none_gained shown c es m n s d y gained h) ∙ u)))
]
