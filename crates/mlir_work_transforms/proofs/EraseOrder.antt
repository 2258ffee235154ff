-- Why a sweep is refused: each operation to erase still exists and isn't the root.
use Rattle.std.proofs.Common.{◌≡◌, refl, ap, sym, ◌∙◌, subst, inl, inr, true≢false, ℕ, eqb, eqb-true, not, List, [], ◌∷◌, ◌++◌, append_assoc, reverse, filter, Bool, true, false, cond, ◌||◌, ◌⊎◌, Option, Some, None, Result, Ok, Err}
use Rattle.std.specs.List.{list_any, IsDistinct}
use mathlib.Core.List.{reverse-cons}
use Rattle.ir_event.specs.types.Terms.{name_term, type_term, attr_term}
use Rattle.ir_event.specs.types.declared.refusal.Refusal.{Refusal}
use Rattle.ir_event.specs.types.declared.refusal.Refusal.TheVariants.{NoSuchOp, IsRoot, HasUses, Memory}
use Rattle.ir_event.specs.trees.Tree.{HeadOf, head, regions}
use Rattle.ir_event.specs.trees.Ids.{ids, regions_ids, HasDistinctIds, find, has_id}
use Rattle.ir_event.specs.trees.Meaning.{Operation}
use Rattle.ir_event.proofs.of_trees.Mapped.{map_ids}
use Rattle.ir_event.specs.trees.Places.{without}
use Rattle.ir_event.proofs.of_trees.Left.{left_distinct}
use Rattle.ir_event.specs.tree_laws.Reasons.{unless, unused_outside}
use Rattle.ir_event.specs.tree_laws.Stands.{dropping}
use Rattle.ir_event.proofs.of_tree_laws.Cuts.{one_cut, absent_before}
use Rattle.ir_event.proofs.of_tree_laws.Edited.{taken_order}
use Rattle.ir_event.proofs.of_tree_laws.Members.{stand, itself, stand_found, stand_of_member}
use Rattle.ir_event.proofs.of_tree_laws.Around.{present_stand}
use Rattle.ir_event.proofs.of_tree_laws.Shift.{inner_of}
use Rattle.ir_event.proofs.of_tree_laws.Without.{same_head}
use Rattle.ir_event.specs.Modules.{Module}
use Rattle.conversion.specs.rewriter.Contents.{edited, edit_reason}
use Rattle.conversion.specs.rewriter.Edits.{Erase}
use Rattle.conversion.specs.rewriter.Held.{TransactionModel, module_held}
use Rattle.conversion.specs.rewriter.Machine.{Fault, Outcome, Swept}
use Rattle.listeners_symbols.specs.Roles.{role}
use Rattle.std.specs.Prelude.{option_map}
use Rattle.listeners.specs.Unreached.{is_definition, says_definition, unreached_of}
use Rattle.mlir_work_transforms.specs.Sweep.{all_erased, counted, sweep_of}
use Rattle.mlir_work_transforms.specs.Erasing.{Erases}
use Rattle.mlir_work_transforms.proofs.Sweeping.{all_erased_done, all_erased_refused}
use Rattle.ir_event.proofs.of_types.Truths.{list_later}
use Rattle.std.proofs.lemmas.Bool.{cases_Bool}
use Rattle.ir_event.proofs.of_trees.Facts.{ids_head}

-- ---- a selection of a list in reverse order

-- `x` satisfies the test and is in the list, and the elements before it satisfy `IsSo`
pub record Cut (is : ℕ → Bool) (x : ℕ) (l : List ℕ) (IsSo : List ℕ → Type 0) : Type 0 where
  pub passes : is x ≡ true
  pub before : List ℕ
  pub trailing : List ℕ
  pub parts : l ≡ before ++ x ∷ trailing
  pub rest : IsSo before

module _ (is : ℕ → Bool) where
  -- each element of the first list satisfies the test and is in the second list, after the next elements of the first
  abbrev pub LastFirst : List ℕ → List ℕ → Type 0
  LastFirst [] l = Unit {0}
  LastFirst (x ∷ zs) l = Cut is x l (LastFirst zs)

  last_more : (zs l more : List ℕ) → LastFirst zs l → LastFirst zs (l ++ more)
  last_more [] l more h = tt
  last_more (x ∷ zs) l more h = record { passes = h.passes; before = h.before; trailing = h.trailing ++ more; parts = ap (λ (k : List ℕ). k ++ more) h.parts ∙ append_assoc h.before (x ∷ h.trailing) more; rest = h.rest }

  last_under : (zs : List ℕ) (y : ℕ) (l : List ℕ) → LastFirst zs l → LastFirst zs (y ∷ l)
  last_under [] y l h = tt
  last_under (x ∷ zs) y l h = record { passes = h.passes; before = y ∷ h.before; trailing = h.trailing; parts = ap (λ (k : List ℕ). y ∷ k) h.parts; rest = last_under zs y h.before h.rest }

  last_then : (zs : List ℕ) (y : ℕ) (l : List ℕ) → is y ≡ true → LastFirst zs l → LastFirst (zs ++ y ∷ []) (y ∷ l)
  last_then [] y l k h = record { passes = k; before = []; trailing = l; parts = refl; rest = tt }
  last_then (x ∷ zs) y l k h = record { passes = h.passes; before = y ∷ h.before; trailing = h.trailing; parts = ap (λ (k : List ℕ). y ∷ k) h.parts; rest = last_then zs y h.before k h.rest }

  -- the elements that satisfy both tests
  filtered : (g : ℕ → Bool) (l : List ℕ) → LastFirst (reverse (filter g (filter is l))) l
  filtered g [] = tt
  filtered g (y ∷ l) = elim (cases_Bool (is y)) [
    | inr n ↦ subst (λ (zs : List ℕ). LastFirst (reverse zs) (y ∷ l)) (sym (ap (λ c. filter g (cond c (y ∷ filter is l) (filter is l))) n)) (last_under (reverse (filter g (filter is l))) y l (filtered g l))
    | inl k ↦ subst (λ (zs : List ℕ). LastFirst (reverse zs) (y ∷ l)) (sym (ap (λ c. filter g (cond c (y ∷ filter is l) (filter is l))) k)) (elim (cases_Bool (g y)) [
      | inr n ↦ subst (λ (zs : List ℕ). LastFirst (reverse zs) (y ∷ l)) (sym (ap (λ c. cond c (y ∷ filter g (filter is l)) (filter g (filter is l))) n)) (last_under (reverse (filter g (filter is l))) y l (filtered g l))
      | inl p ↦ subst (λ (zs : List ℕ). LastFirst (reverse zs) (y ∷ l)) (sym (ap (λ c. cond c (y ∷ filter g (filter is l)) (filter g (filter is l))) p))
          (subst (λ (zs : List ℕ). LastFirst zs (y ∷ l)) (sym (reverse-cons y (filter g (filter is l)))) (last_then (reverse (filter g (filter is l))) y l k (filtered g l)))
    ])
  ]

-- ---- erasing one operation

or_true : (b : Bool) → (b || true) ≡ true
or_true true = refl
or_true false = refl

module _ (is : ℕ → Bool) (x : ℕ) (zs : List ℕ) (t : Operation) (d : HasDistinctIds t) (root : is (head t).id ≡ false) (l : LastFirst is (x ∷ zs) (ids t)) where
  known : has_id x t ≡ true
  known = ap (list_any (λ y. eqb y x)) l.parts ∙ list_later x l.before l.trailing

  other : eqb (head t).id x ≡ false
  other = elim (cases_Bool (eqb (head t).id x)) [
    | inr n ↦ n
    | inl k ↦ absurd (true≢false (sym l.passes ∙ ap is (sym (eqb-true (head t).id x k)) ∙ root))
  ]

  there : (o : Operation) × (find x t ≡ Some o)
  there = let s = present_stand [] t x known in (s.0.here, ap (λ z. find z t) (sym s.2) ∙ stand_found t d s.0 s.1)

  -- the operations that are left still exist, in the same order
  left_there : LastFirst is zs (ids (without x t))
  left_there =
      let w = taken_order x t there.0 d there.1 other in
      let id : (head there.0).id ≡ x = (inner_of x t there.0 there.1 other).id in
      let parts : ids t ≡ w.0 ++ (x ∷ (regions_ids (regions there.0) ++ w.1)) = w.2 ∙ ap (λ (k : List ℕ). w.0 ++ (k ++ w.1)) (ids_head there.0) ∙ ap (λ (z : ℕ). w.0 ++ ((z ∷ regions_ids (regions there.0)) ++ w.1)) id in
      let same : l.before ≡ w.0 = one_cut x l.before w.0 _ _ (absent_before x l.before l.trailing (subst (IsDistinct eqb) l.parts d)) (absent_before x w.0 _ (subst (IsDistinct eqb) parts d)) (sym l.parts ∙ parts) in
      subst (LastFirst is zs) (sym w.3) (last_more is zs w.0 w.1 (subst (LastFirst is zs) same l.rest))

-- ---- erasing all operations

-- the refusal of a result, or another one
abbrev refusal_in : {X : Type 0} → Refusal → Result X Fault → Refusal
refusal_in q (Ok x) = q
refusal_in q (Err fault) = fault.refusal

abbrev refusal_of : {X : Type 0} → Result X Refusal → Option Refusal
refusal_of (Ok x) = None
refusal_of (Err r) = Some r

erased_for_uses : (is : ℕ → Bool) (zs : List ℕ) (m : Module) (r : Refusal) → HasDistinctIds m.tree → is (head m.tree).id ≡ false → LastFirst is zs (ids m.tree) → all_erased zs m ≡ Err r → r ≡ HasUses
erased_for_uses is [] m r d root l e = absurd (let n : Ok m ≡ Err r = e in cc)
erased_for_uses is (x ∷ zs) m r d root l e = elim (cases_Bool (unused_outside x m.tree)) [
  | inr used ↦ (
      let why : edit_reason (Erase x) m ≡ Some HasUses = λ i. unless (known is x zs m.tree d root l i) NoSuchOp (unless (not (other is x zs m.tree d root l i)) IsRoot (unless (used i) HasUses None)) in
      let n : Some r ≡ Some HasUses = ap refusal_of (sym e ∙ all_erased_refused x zs m HasUses why) in
      cc)
  | inl free ↦ (
      let why : edit_reason (Erase x) m ≡ None = λ i. unless (known is x zs m.tree d root l i) NoSuchOp (unless (not (other is x zs m.tree d root l i)) IsRoot (unless (free i) HasUses None)) in
      erased_for_uses is zs (edited (Erase x) m) r (left_distinct x m.tree d) (ap (λ (h : HeadOf _ _ _). is h.id) (same_head x (dropping x) m.tree) ∙ root) (left_there is x zs m.tree d root l)
      (sym (all_erased_done x zs m (edited (Erase x) m) why refl) ∙ e))
]

-- the root isn't a symbol definition
root_is_none : (t : Operation) → HasDistinctIds t → is_definition t (head t).id ≡ false
root_is_none t d = ap (λ s. says_definition (option_map (role t) s)) (stand_of_member t d (stand t []) (itself [] t))

uncounted : (n : ℕ) (a : Result Module Refusal) (fault : Fault) → counted n a ≡ Err fault → a ≡ Err fault.refusal
uncounted n (Ok m) fault e = absurd (let k : Ok (Swept n, m) ≡ Err fault = e in cc)
uncounted n (Err q) fault e = ap Err (ap (λ (r : Result (Outcome × Module) Fault). refusal_in q r) e)

-- if all ids are distinct, erasing a list of operations is refused for uses only
pub unreached_for_uses : (m : Module) (r : Refusal) → HasDistinctIds m.tree → all_erased (reverse (unreached_of m.tree)) m ≡ Err r → r ≡ HasUses
unreached_for_uses m r d e = erased_for_uses (is_definition m.tree) (reverse (unreached_of m.tree)) m r d (root_is_none m.tree d) (filtered (is_definition m.tree) _ (ids m.tree)) e

-- the same for a sweep
pub sweep_for_uses : (m : Module) (fault : Fault) → HasDistinctIds m.tree → sweep_of m ≡ Err fault → fault.refusal ≡ HasUses
sweep_for_uses m fault d e = unreached_for_uses m fault.refusal d (uncounted _ _ fault e)

-- the rewriter's module has distinct ids
pub held_distinct : (h : TransactionModel) → HasDistinctIds h.store.module_of.tree → HasDistinctIds (module_held h).tree
held_distinct h d = subst (IsDistinct eqb) (sym (map_ids (name_term h.ctx) (type_term h.ctx) (attr_term h.ctx) h.store.module_of.tree)) d

-- why a sweep is refused, if it runs after a mark
pub refused_for : (xs : List ℕ) (r : Refusal) (a b c : TransactionModel) → HasDistinctIds a.store.module_of.tree → xs ≡ unreached_of (module_held a).tree → module_held b ≡ module_held a → Erases {A = Unit {0}} (reverse xs) (Err r) b c → (r ≡ HasUses) ⊎ (r ≡ Memory)
refused_for xs r a b c d is same e = elim e.erased [
  | inl why ↦ inl (unreached_for_uses (module_held a) r (held_distinct a d) ((λ i. all_erased (reverse (sym is i)) (sym same i)) ∙ why))
  | inr memory ↦ inr memory
]
