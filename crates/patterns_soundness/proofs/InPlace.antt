-- Rules that erase an operation, or change it in place.
use Rattle.std.proofs.Common.{◌≡◌, refl, ap, sym, ◌∙◌, subst, ℕ, ◌+◌, Bool, true, false, ◌&&◌, not, cond, List, [], ◌∷◌, ◌++◌, length, Option, Some, None, inl, inr, eqb, eq-eqb, eqb-true, if◌then◌else◌}
use Rattle.std.specs.Prelude.{codes, is_some, nat_lt, option_map}
use Rattle.std.specs.List.{list_all}
use Rattle.std.specs.Str.{bytes_eq}
use Rattle.std.proofs.lemmas.List.{length-set}
use Rattle.std.proofs.lemmas.Slice.Eq.{bytes_eq-Decides}
use Rattle.ir_event.specs.trees.WellFormed.{IsWellFormed}
use Rattle.ir_event.specs.types.Words.{is_isolated, is_inherent}
use Rattle.ir_event.specs.types.Terms.{TypeTerm, AttrTerm, IntegerOf}
use Rattle.ir_event.specs.types.declared.refusal.Refusal.TheVariants.{Full}
use Rattle.ir_event.specs.trees.declared.value.Value.{Value}
use Rattle.ir_event.specs.trees.declared.value.Value.TheVariants.{Result, Arg}
use Rattle.ir_event.specs.trees.declared.place.Place.{Place}
use Rattle.ir_event.specs.trees.declared.place.Part.{Part}
use Rattle.ir_event.specs.trees.declared.place.Part.TheVariants.{Props, Attrs}
use Rattle.ir_event.specs.trees.Tree.{HeadOf, op, head}
use Rattle.ir_event.specs.trees.Edits.{at, change_entry, change_part, each_head, entry_at, put_operand}
use Rattle.ir_event.specs.trees.Limits.{most_items}
use Rattle.ir_event.specs.trees.Meaning.{Operation, key_before}
use Rattle.ir_event.specs.trees.Uses.{operand_uses, same_value, uses_of}
use Rattle.ir_event.specs.tree_laws.Reasons.{found_entry_reason, set_entry_reason, unless}
use Rattle.ir_event.specs.tree_laws.Stands.{OpWithPathOf, gather, op_with_path_id, stands}
use Rattle.ir_event.specs.tree_laws.Members.{In}
use Rattle.ir_event.proofs.of_tree_laws.HeadForm.{alike_at, entry_keeps}
use Rattle.ir_event.proofs.of_tree_laws.Heads.{Alike}
use Rattle.ir_event.proofs.of_tree_laws.Keys.{keys_ordered}
use Rattle.ir_event.proofs.of_tree_laws.Listed.{all_each, both, not_false, or_right}
use Rattle.ir_event.proofs.of_tree_laws.Readings.{stands_every, stands_uses}
use Rattle.ir_event.specs.Modules.{Module}
use Rattle.op_registry.specs.Registry.{next_to}
use Rattle.dialects_int.specs.Folds.{property_of}
use Rattle.effects.specs.Dead.{is_result_of, is_unused}
use Rattle.rewriter_machine.specs.Contents.{Edit, edited, tests}
use Rattle.rewriter_machine.specs.Edits.{Erase, SetAttr, SetOperand, part_for, part_in}
use Rattle.patterns_base.specs.Lists.{Free}
use Rattle.patterns_base.proofs.Headed as headed
use Rattle.patterns_base.proofs.Plans as plans
use Rattle.patterns_base.proofs.Plans.{StandsAt, dominated_by}
use Rattle.patterns_soundness.specs.base.Keeps.{swapped_predicate}
use Rattle.patterns_soundness.specs.base.Words.{among, named, commutative}
use Rattle.patterns_soundness.specs.base.Made.{i64}
use Rattle.patterns_soundness.specs.base.Looks.{Header, insertion_of, is_constant, is_known, is_number, is_erasable, predicate, source}
use Rattle.patterns_soundness.specs.base.Folding.{erase_dead, swap_constant, mirror_comparison, choose_opposite}
use Rattle.patterns_soundness.proofs.Points.{Point, here_is, dominated_by_after, dominated_by_operand, stands_after, stands_there}
use Rattle.patterns_soundness.proofs.Shapes.{source_is, three_is, two_is}
use Rattle.ir_event.proofs.of_tree_laws.Changed.{gather_none}
use Rattle.patterns_laws.proofs.KnownFolds.{given_some}
use Rattle.ir_event.proofs.of_tree_laws.Nested.{unequal}
use Rattle.std.proofs.lemmas.Option.{same_Some}
use Rattle.patterns_soundness.proofs.of_base.Facts.{when_some}

abbrev Entries : Type 0
Entries = List (List ℕ × AttrTerm)

-- ---- an operation whose results have no use

no_result : (x k : ℕ) (v : Value) → is_result_of x v ≡ false → same_value (Result x k) v ≡ false
no_result x k (Arg y r l) e = refl
no_result x k (Result y l) e = ap (λ b. b && eqb k l) (unequal y x e)

no_use : (x k y n : ℕ) (vs : List Value) → list_all (λ v. not (is_result_of x v)) vs ≡ true → operand_uses (Result x k) y n vs ≡ []
no_use x k y n [] e = refl
no_use x k y n (v ∷ vs) e =
    let b = both (not (is_result_of x v)) (list_all (λ v. not (is_result_of x v)) vs) e in
    ap (λ c. cond c ((y, n) ∷ operand_uses (Result x k) y (n + 1) vs) (operand_uses (Result x k) y (n + 1) vs)) (no_result x k v (not_false (is_result_of x v) b.0)) ∙ no_use x k y (n + 1) vs b.1

unused_result : (x : ℕ) (t : Operation) → is_unused x t ≡ true → (k : ℕ) → uses_of (Result x k) t ≡ []
unused_result x t e k =
    sym (stands_uses (Result x k) [] t)
    ∙ gather_none (λ (s : OpWithPathOf (List ℕ) TypeTerm AttrTerm). operand_uses (Result x k) (op_with_path_id s) 0 (head s.here).operands) (stands [] t) (λ s i.
    no_use x k (op_with_path_id s) 0 (head s.here).operands
    (all_each (λ (s : OpWithPathOf (List ℕ) TypeTerm AttrTerm). list_all (λ v. not (is_result_of x v)) (head s.here).operands) (stands [] t) (stands_every (λ o. list_all (λ v. not (is_result_of x v)) (head o).operands) [] t ∙ e) s i))

dead_unused : (t o : Operation) → is_erasable t o ≡ true → is_unused (head o).id t ≡ true
unfolding is_erasable
dead_unused t o e = (both (is_unused (head o).id t) _ e).0

-- ---- operands set one after another

module _ (x : ℕ) (insertion : Place) (n : ℕ) where
  -- operation x comes after a place and has n operands
  pub record Holds (m : Module) : Type 0 where
    pub located : StandsAt x insertion m
    pub long : length (head located.at.here).operands ≡ n

  as_long : (f : HeadOf (List ℕ) TypeTerm AttrTerm → HeadOf (List ℕ) TypeTerm AttrTerm) → ((h : HeadOf (List ℕ) TypeTerm AttrTerm) → length (f h).operands ≡ length h.operands) → (o : Operation) → length (head (each_head (at x f) o)).operands ≡ length (head o).operands
  as_long f same (op h rs) = go (eqb h.id x)
    where
      go : (b : Bool) → length (cond b (f h) h).operands ≡ length h.operands
      go true = same h
      go false = refl

  module _ (m : Module) (h : Holds m) (k : ℕ) (v : Value) (has : nat_lt k n ≡ true) (seen : dominated_by x v m ≡ true) where
    has_operand : nat_lt k (length (head h.located.at.here).operands) ≡ true
    has_operand = ap (nat_lt k) h.long ∙ has

    pub set_first : (es : List Edit) → Free es (edited (SetOperand x k v) m) → Free (SetOperand x k v ∷ es) m
    set_first es = plans.set_free x insertion m h.located v seen k has_operand es

    pub set_holds : Holds (edited (SetOperand x k v) m)
    set_holds = record {
      located = headed.set_located is_isolated x insertion m h.located v seen k has_operand;
      long = as_long (put_operand k v) (λ h. length-set h.operands k v) h.located.at.here ∙ h.long;
    }

    pub set_dominated_by : (w : Value) → dominated_by x w m ≡ true → dominated_by x w (edited (SetOperand x k v) m) ≡ true
    set_dominated_by w e = headed.set_dominated_by is_isolated x insertion m h.located v seen k has_operand w ∙ e

-- ---- an attribute set at a key that is there

alike_part : (part : Part) (f : Entries → Entries) (h : Header) → Alike (change_part part f h) h
alike_part Props f h = record { id = refl; name = refl; results = refl }
alike_part Attrs f h = record { id = refl; name = refl; results = refl }

part_operands : (part : Part) (f : Entries → Entries) (h : Header) → length (change_part part f h).operands ≡ length h.operands
part_operands Props f h = refl
part_operands Attrs f h = refl

-- an entry that is found by its key's bytes is found in the order of keys
entry_there : (k : List ℕ) (es : Entries) (a : AttrTerm) → next_to k es ≡ Some a → is_some (entry_at key_before k es) ≡ true
entry_there k [] a e = absurd cc
entry_there k (f ∷ es) a e = go (bytes_eq k f.0) refl e (entry_there k es a)
  where
    found : k ≡ f.0 → is_some (entry_at key_before k (f ∷ es)) ≡ true
    found one = ap (λ z. is_some (cond (not (key_before k z) && not (key_before z k)) (Some f.1) (entry_at key_before k es))) (sym one) ∙ ap (λ b. is_some (cond (not b && not b) (Some f.1) (entry_at key_before k es))) (keys_ordered.irr k)

    first : (c : Bool) → is_some (entry_at key_before k es) ≡ true → is_some (cond c (Some f.1) (entry_at key_before k es)) ≡ true
    first true h = refl
    first false h = h

    go : (b : Bool) → bytes_eq k f.0 ≡ b → (if b then Some f.1 else next_to k es) ≡ Some a → (next_to k es ≡ Some a → is_some (entry_at key_before k es) ≡ true) → is_some (entry_at key_before k (f ∷ es)) ≡ true
    go true i e later = found ((bytes_eq-Decides k f.0).0 i)
    go false i e later = first (not (key_before k f.0) && not (key_before f.0 k)) (later e)

past : (k : List ℕ) (f : List ℕ × AttrTerm) (es : Entries) → bytes_eq k f.0 ≡ false → property_of k (f ∷ es) ≡ property_of k es
past k f es i = rw i refl

property_there : (k : List ℕ) (es : Entries) (i : TypeTerm × ℕ) → property_of k es ≡ Some i → (a : AttrTerm) × (next_to k es ≡ Some a)
property_there k [] i e = absurd cc
property_there k (f ∷ es) i e = go (bytes_eq k f.0) refl (property_there k es i)
  where
    go : (b : Bool) → bytes_eq k f.0 ≡ b → (property_of k es ≡ Some i → (a : AttrTerm) × (next_to k es ≡ Some a)) → (a : AttrTerm) × ((if bytes_eq k f.0 then Some f.1 else next_to k es) ≡ Some a)
    go true g later = (f.1, ap (λ b. if b then Some f.1 else next_to k es) g)
    go false g later = (let w = later (sym (past k f es g) ∙ e) in (w.0, ap (λ b. if b then Some f.1 else next_to k es) g ∙ w.1))

predicate_there : (h : Header) (n : ℕ) → predicate h ≡ Some n → is_some (entry_at key_before (codes "predicate") h.properties) ≡ true
predicate_there h n e = go (property_of (codes "predicate") h.properties) refl e
  where
    go : (o : Option (TypeTerm × ℕ)) → property_of (codes "predicate") h.properties ≡ o → option_map (λ (i : TypeTerm × ℕ). i.1) o ≡ Some n → is_some (entry_at key_before (codes "predicate") h.properties) ≡ true
    go None f e = absurd cc
    go (Some i) f e = (let w = property_there (codes "predicate") h.properties i f in entry_there (codes "predicate") h.properties w.0 w.1)

-- a dead operation is erased, verified or not
pub free_erase_dead : (m : Module) (o : Operation) (insertion : Place) → IsWellFormed is_isolated m → insertion_of (head o).id m.tree ≡ Some insertion → (n : ℕ) (es : List Edit) → erase_dead m.tree n insertion o ≡ Some es → Free es m
free_erase_dead m o insertion wellformed at n es e =
    let x = (head o).id in
    let w = when_some (is_erasable m.tree o) (Some (Erase x ∷ [])) es e in
    subst (λ z. Free z m) (same_Some (Erase x ∷ []) es w.1) (plans.erase_free x insertion m (stands_after m x insertion wellformed at) (λ k l. unused_result x m.tree (dead_unused m.tree o w.0) k), tt)

module _ (m : Module) (o : Operation) (insertion : Place) (s : Point m o insertion) where
  abbrev x : ℕ
  x = (head o).id

  abbrev t : Operation
  t = m.tree

  pub holds : (vs : List Value) → (head o).operands ≡ vs → Holds (head o).id insertion (length vs) m
  holds vs e = record { located = stands_there m o insertion s; long = ap (λ z. length (head z).operands) (here_is m o insertion s) ∙ ap length e }

  first_seen : (a : Value) (vs : List Value) → (head o).operands ≡ a ∷ vs → dominated_by (head o).id a m ≡ true
  first_seen a vs e = dominated_by_operand m o insertion s a (subst (In a) (sym e) (inl refl))

  second_seen : (a b : Value) (vs : List Value) → (head o).operands ≡ a ∷ b ∷ vs → dominated_by (head o).id b m ≡ true
  second_seen a b vs e = dominated_by_operand m o insertion s b (subst (In b) (sym e) (inr (inl refl)))

  third_seen : (a b c : Value) (vs : List Value) → (head o).operands ≡ a ∷ b ∷ c ∷ vs → dominated_by (head o).id c m ≡ true
  third_seen a b c vs e = dominated_by_operand m o insertion s c (subst (In c) (sym e) (inr (inr (inl refl))))

  -- two operands are swapped
  swaps : (n : Module) → Holds (head o).id insertion 2 n → (a b : Value) → dominated_by (head o).id a n ≡ true → dominated_by (head o).id b n ≡ true → Free (SetOperand (head o).id 0 b ∷ SetOperand (head o).id 1 a ∷ []) n
  swaps n h a b p q =
      set_first x insertion 2 n h 0 b refl q (SetOperand x 1 a ∷ [])
      (set_first x insertion 2 (edited (SetOperand x 0 b) n) (set_holds x insertion 2 n h 0 b refl q) 1 a refl (set_dominated_by x insertion 2 n h 0 b refl q a p) [] tt)

  pub free_swap_constant : (n : ℕ) (es : List Edit) → swap_constant m.tree n insertion o ≡ Some es → Free es m
  free_swap_constant n es e =
      let p = two_is (head o) _ es e in
      let w = when_some (among commutative (head o).name && (is_known t p.first && not (is_constant t p.second))) (Some (SetOperand x 0 p.second ∷ SetOperand x 1 p.first ∷ [])) es p.makes in
      subst (λ z. Free z m) (same_Some (SetOperand x 0 p.second ∷ SetOperand x 1 p.first ∷ []) es w.1)
      (swaps m (holds (p.first ∷ p.second ∷ []) p.operands) p.first p.second (first_seen p.first (p.second ∷ []) p.operands) (second_seen p.first p.second [] p.operands))

  -- an attribute is set at a key that the operation has as a property, or in the dictionary where the key belongs
  module _ (k : List ℕ) (a : AttrTerm) (there : is_some (entry_at key_before k (head o).properties) ≡ true) where
    abbrev part : Part
    part = part_for tests (head o).id k m.tree

    is_property : part_for tests (head o).id k m.tree ≡ Props
    is_property =
        ap (λ f. part_in tests k f) s.found
        ∙ ap (λ b. if b then Props else Attrs) (or_right (is_inherent (head o).name k) _ there)

    no_reason : set_entry_reason key_before (head o).id (part_for tests (head o).id k m.tree) k (Some a) m.tree ≡ None
    no_reason =
        ap (λ p. set_entry_reason key_before x p k (Some a) t) is_property
        ∙ ap (found_entry_reason key_before Props k (Some a)) s.found
        ∙ ap (λ b. unless b Full None) (or_right (nat_lt (length (head o).properties) most_items) _ there)

    abbrev change : Header → Header
    change = change_part (part_for tests (head o).id k m.tree) (change_entry key_before k (Some a))

    alike : (h : Header) → Alike (at (head o).id (change_part (part_for tests (head o).id k m.tree) (change_entry key_before k (Some a))) h) h
    alike = alike_at x change (alike_part part (change_entry key_before k (Some a)))

    entry_stands : StandsAt (head o).id insertion (edited (SetAttr (head o).id k a) m)
    entry_stands =
        headed.located_headed is_isolated (at x change) alike x insertion m (stands_there m o insertion s)
        (entry_keeps is_isolated key_before keys_ordered.trans x part k (Some a) m s.wellformed s.sorted no_reason)

    entry_holds : (vs : List Value) → (head o).operands ≡ vs → Holds (head o).id insertion (length vs) (edited (SetAttr (head o).id k a) m)
    unfolding holds entry_stands
    entry_holds vs e = record {
      located = entry_stands;
      long = as_long x insertion (length vs) change (part_operands part (change_entry key_before k (Some a))) (stands_there m o insertion s).at.here ∙ (holds vs e).long;
    }

    entry_dominated_by : (v : Value) → dominated_by (head o).id v m ≡ true → dominated_by (head o).id v (edited (SetAttr (head o).id k a) m) ≡ true
    entry_dominated_by v e = headed.dominated_by_headed is_isolated (at x change) alike t x v ∙ e

  pub free_mirror_comparison : (n : ℕ) (es : List Edit) → mirror_comparison m.tree n insertion o ≡ Some es → Free es m
  free_mirror_comparison n es e =
      let p = two_is (head o) _ es e in
      let w = when_some (named (codes "arith.cmpi") (head o).name) _ es p.makes in
      let asks = given_some (predicate (head o)) _ es w.1 in
      let a = IntegerOf i64 (swapped_predicate asks.0) in
      let u = when_some (is_known t p.first && not (is_constant t p.second)) (Some (SetAttr x (codes "predicate") a ∷ SetOperand x 0 p.second ∷ SetOperand x 1 p.first ∷ [])) es asks.2 in
      let there = predicate_there (head o) asks.0 asks.1 in
      subst (λ z. Free z m) (same_Some (SetAttr x (codes "predicate") a ∷ SetOperand x 0 p.second ∷ SetOperand x 1 p.first ∷ []) es u.1) (
        no_reason (codes "predicate") a there,
        swaps (edited (SetAttr x (codes "predicate") a) m) (entry_holds (codes "predicate") a there (p.first ∷ p.second ∷ []) p.operands) p.first p.second
            (entry_dominated_by (codes "predicate") a there p.first (first_seen p.first (p.second ∷ []) p.operands)) (entry_dominated_by (codes "predicate") a there p.second (second_seen p.first p.second [] p.operands)),
      )

  -- three operands are set
  sets_three : (n : Module) → Holds (head o).id insertion 3 n → (a b c : Value) → dominated_by (head o).id a n ≡ true → dominated_by (head o).id b n ≡ true → dominated_by (head o).id c n ≡ true
      → Free (SetOperand (head o).id 0 a ∷ SetOperand (head o).id 1 b ∷ SetOperand (head o).id 2 c ∷ []) n
  sets_three n h a b c p q r =
      let one = set_holds x insertion 3 n h 0 a refl p in
      let n1 = edited (SetOperand x 0 a) n in
      let q1 = set_dominated_by x insertion 3 n h 0 a refl p b q in
      let r1 = set_dominated_by x insertion 3 n h 0 a refl p c r in
      set_first x insertion 3 n h 0 a refl p (SetOperand x 1 b ∷ SetOperand x 2 c ∷ [])
      (set_first x insertion 3 n1 one 1 b refl q1 (SetOperand x 2 c ∷ [])
      (set_first x insertion 3 (edited (SetOperand x 1 b) n1) (set_holds x insertion 3 n1 one 1 b refl q1) 2 c refl (set_dominated_by x insertion 3 n1 one 1 b refl q1 c r1) [] tt))

  pub free_choose_opposite : (n : ℕ) (es : List Edit) → choose_opposite m.tree n insertion o ≡ Some es → Free es m
  free_choose_opposite n es e =
      let p = three_is (head o) _ es e in
      let w = when_some (named (codes "arith.select") (head o).name) _ es p.makes in
      let y = given_some (source t (codes "arith.xori") p.first) _ es w.1 in
      let q = two_is y.0 _ es y.2 in
      let u = when_some (is_number t 1 q.second) (Some (SetOperand x 0 q.first ∷ SetOperand x 1 p.third ∷ SetOperand x 2 p.second ∷ [])) es q.makes in
      let trailing = dominated_by_after m o insertion s p.first (subst (In p.first) (sym p.operands) (inl refl)) y.0 (source_is t (codes "arith.xori") p.first y.0 y.1) q.first (subst (In q.first) (sym q.operands) (inl refl)) in
      subst (λ z. Free z m) (same_Some (SetOperand x 0 q.first ∷ SetOperand x 1 p.third ∷ SetOperand x 2 p.second ∷ []) es u.1)
      (sets_three m (holds (p.first ∷ p.second ∷ p.third ∷ []) p.operands) q.first p.third p.second trailing (third_seen p.first p.second p.third [] p.operands) (second_seen p.first p.second (p.third ∷ []) p.operands))
