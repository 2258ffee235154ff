-- Heads of operations with their successors, and heads of scopes.
use Rattle.std.proofs.Common.{◌≡◌, refl, ap, sym, ◌∙◌, ℕ, Bool, true, false, true≢false, cond, not, ◌&&◌, List, [], ◌∷◌, map, Option, Some, None}
use Rattle.std.specs.Prelude.{codes, pos, option_map, option_and_then}
use Rattle.ir_tree.specs.types.Terms.{AttrTerm, IntegerOf, Flag, DenseArray}
use Rattle.ir_tree.specs.Meaning.{key_before}
use Rattle.ir_tree.specs.Edits.{same_key, put_entry, drop_entry, entry_at}
use Rattle.ir_types.proofs.Growth.{name_refl}
use Rattle.ir_tree_laws.proofs.Keys.{keys_ordered}
use Rattle.ir_tree_blocks.specs.Flat.{Head}
use Rattle.ir_tree_blocks.specs.Scopes.{i32, is_some, or_zero, or_none, naturals, numbers_in, number_in, is_scope, order_of, label_of, successors_in, successors_of, has_successors_key, attributes_with, with_successors, other_attributes, without_successors, scope_head}

-- a dictionary without a key
absent_step : {X : Type 0} (c : Bool) (x : X) (o : Option X) → cond c (Some x) o ≡ None → (c ≡ false) × (o ≡ None)
absent_step true x o h = absurd cc
absent_step false x o h = (refl, h)

module _ {N A : Type 0} (before : N → N → Bool) (k : N) where
  pub drop_absent : (es : List (N × A)) → entry_at before k es ≡ None → drop_entry before k es ≡ es
  drop_absent [] h = refl
  drop_absent (e ∷ es) h = let a = absent_step (same_key before k e.0) e.1 (entry_at before k es) h in λ i. cond (a.0 i) es (e ∷ drop_absent es a.1 i)

  module _ (same : same_key before k k ≡ true) (a : A) where
    tied : (e : N × A) → same_key before k e.0 ≡ false → before k e.0 ≡ false → before e.0 k ≡ false → ⊥
    tied e ne x y = let t : (not (before k e.0) && not (before e.0 k)) ≡ true = λ i. not (x i) && not (y i) in true≢false (sym t ∙ ne)

    drop_step : (e : N × A) (es : List (N × A)) → drop_entry before k (put_entry before k a es) ≡ es → same_key before k e.0 ≡ false → (p q : Bool) → before k e.0 ≡ p → before e.0 k ≡ q
        → drop_entry before k (cond p ((k, a) ∷ e ∷ es) (cond q (e ∷ put_entry before k a es) ((k, a) ∷ es))) ≡ e ∷ es
    drop_step e es rest ne true q x y = ap (λ c. cond c (e ∷ es) ((k, a) ∷ drop_entry before k (e ∷ es))) same
    drop_step e es rest ne false true x y = λ i. cond (ne i) (put_entry before k a es) (e ∷ rest i)
    drop_step e es rest ne false false x y = absurd (tied e ne x y)

    pub drop_put : (es : List (N × A)) → entry_at before k es ≡ None → drop_entry before k (put_entry before k a es) ≡ es
    drop_put [] h = ap (λ c. cond c [] ((k, a) ∷ [])) same
    drop_put (e ∷ es) h = let b = absent_step (same_key before k e.0) e.1 (entry_at before k es) h in drop_step e es (drop_put es b.1) b.0 (before k e.0) (before e.0 k) refl refl

    at_step : (e : N × A) (es : List (N × A)) → entry_at before k (put_entry before k a es) ≡ Some a → same_key before k e.0 ≡ false → (p q : Bool) → before k e.0 ≡ p → before e.0 k ≡ q
        → entry_at before k (cond p ((k, a) ∷ e ∷ es) (cond q (e ∷ put_entry before k a es) ((k, a) ∷ es))) ≡ Some a
    at_step e es rest ne true q x y = ap (λ c. cond c (Some a) (entry_at before k (e ∷ es))) same
    at_step e es rest ne false true x y = λ i. cond (ne i) (Some e.1) (rest i)
    at_step e es rest ne false false x y = absurd (tied e ne x y)

    pub at_put : (es : List (N × A)) → entry_at before k es ≡ None → entry_at before k (put_entry before k a es) ≡ Some a
    at_put [] h = ap (λ c. cond c (Some a) None) same
    at_put (e ∷ es) h = let b = absent_step (same_key before k e.0) e.1 (entry_at before k es) h in at_step e es (at_put es b.1) b.0 (before k e.0) (before e.0 k) refl refl

same_self : (k : List ℕ) → same_key key_before k k ≡ true
same_self k = λ i. not (keys_ordered.irr k i) && not (keys_ordered.irr k i)

none_of : (o : Option AttrTerm) → is_some o ≡ false → o ≡ None
none_of None h = refl
none_of (Some a) h = absurd (true≢false h)

no_key : (h : Head) → has_successors_key h ≡ false → entry_at key_before (codes "cf.successors") h.attributes ≡ None
unfolding has_successors_key
no_key h e = none_of (entry_at key_before (codes "cf.successors") h.attributes) e

naturals_again : (ns : List ℕ) → naturals (map pos ns) ≡ Some ns
naturals_again [] = refl
naturals_again (n ∷ ns) = ap (option_map (λ (ms : List ℕ). n ∷ ms)) (naturals_again ns)

-- a head with its successors
pub successors_with : (h : Head) (ss : List ℕ) → has_successors_key h ≡ false → successors_of (with_successors h ss) ≡ ss
unfolding successors_in attributes_with numbers_in
successors_with h [] e = ap (λ o. or_none (option_and_then numbers_in o)) (no_key h e)
successors_with h (s ∷ ss) e =
    ap (λ o. or_none (option_and_then numbers_in o)) (at_put key_before (codes "cf.successors") (same_self (codes "cf.successors")) (DenseArray i32 (map pos (s ∷ ss))) h.attributes (no_key h e))
    ∙ ap or_none (naturals_again (s ∷ ss))

pub without_with : (h : Head) (ss : List ℕ) → has_successors_key h ≡ false → without_successors (with_successors h ss) ≡ h
unfolding attributes_with other_attributes
without_with h [] e = λ i. record h { attributes = drop_absent key_before (codes "cf.successors") h.attributes (no_key h e) i }
without_with h (s ∷ ss) e = λ i. record h { attributes = drop_put key_before (codes "cf.successors") (same_self (codes "cf.successors")) (DenseArray i32 (map pos (s ∷ ss))) h.attributes (no_key h e) i }

pub is_scope_with : (h : Head) (ss : List ℕ) → is_scope (with_successors h ss) ≡ is_scope h
unfolding is_scope
is_scope_with h ss = refl

-- the first entry of a dictionary
first_entry : {N A : Type 0} (before : N → N → Bool) (k : N) (a : A) (es : List (N × A)) → same_key before k k ≡ true → entry_at before k ((k, a) ∷ es) ≡ Some a
first_entry before k a es same = ap (λ c. cond c (Some a) (entry_at before k es)) same

-- the head of a scope
pub scope_is : (x l : ℕ) (u : Bool) → is_scope (scope_head x l u) ≡ true
unfolding is_scope scope_head
scope_is x l u = name_refl (codes "cf.block")

pub scope_label : (x l : ℕ) (u : Bool) → label_of (scope_head x l u) ≡ l
unfolding order_of scope_head number_in
scope_label x l true = ap (λ o. or_zero (option_and_then number_in o)) (first_entry key_before (codes "order") (IntegerOf i32 l) ((codes "unreachable", Flag) ∷ []) (same_self (codes "order")))
scope_label x l false = ap (λ o. or_zero (option_and_then number_in o)) (first_entry key_before (codes "order") (IntegerOf i32 l) [] (same_self (codes "order")))

pub scope_id : (x l : ℕ) (u : Bool) → (scope_head x l u).id ≡ x
unfolding scope_head
scope_id x l u = refl
