-- Tests of lists of operations by tests of their items.
use Rattle.std.proofs.Common.{◌≡◌, refl, ap, sym, ◌∙◌, ℕ, zero, suc, ◌+◌, ◌<◌, ◌≤◌, Bool, true, false, true≢false, cond, not, ◌&&◌, ◌||◌, List, [], ◌∷◌, length, get_or, drop, take, length-drop, ◌-◌, Some, None, arith}
use Rattle.std.specs.Prelude.{nat_lt}
use Rattle.std.proofs.lemmas.Bool.{ltb-false}
use Rattle.std.proofs.lemmas.List.{take_all}
use Rattle.std.specs.List.{list_all, position, position_or_len}
use Rattle.std.proofs.lemmas.List.Quantifiers.{position-Some}
use Rattle.ir_tree.specs.types.Things.{ContextModel}
use Rattle.ir_tree.specs.Tree.{Op, head, OpsOf, no_ops, next}
use Rattle.ir_tree.specs.View.{region_view}
use Rattle.ir_tree.specs.declared.tree.TreeRegion.{TreeRegion}
use Rattle.ir_tree.specs.declared.tree.TreeRegion.TheVariants.{Empty, Block}
use Rattle.ir_tree.specs.Meaning.{Operation, meaning}
use Rattle.ir_tree_laws.proofs.Listed.{both, not_false}
use Rattle.ir_tree_blocks.specs.Flat.{Head}
use Rattle.ir_tree_blocks.specs.Nesting.{Ops}
use Rattle.ir_tree_blocks.specs.Scopes.{is_scope, successors_of}
use Rattle.ir_tree_blocks.specs.Form.{all_lists, ends_in_scopes, has_one_block, is_nil, only_last_names, only_scopes}
use Rattle.ir_tree_blocks.specs.Read.{ops_meaning, region_meaning, regions_meaning}
use Rattle.ir_tree_blocks.specs.Whole.{has_no_scope, list_passes, names_blocks}

pub no_one_block : (c : ContextModel) (gs : List TreeRegion) → 2 ≤ length gs → false ≡ has_one_block (regions_meaning c gs)
no_one_block c [] l = absurd (omega arith)
no_one_block c (g ∷ []) l = absurd (omega arith)
no_one_block c (Empty ∷ h ∷ gs) l = refl
no_one_block c (Block args os ∷ h ∷ gs) l = refl

pub lists_are : (c : ContextModel) (p : Ops → Bool) (gs : List TreeRegion) → list_all (λ g. list_passes p (region_meaning c g)) gs ≡ all_lists p (regions_meaning c gs)
lists_are c p [] = refl
lists_are c p (Empty ∷ gs) = lists_are c p gs
lists_are c p (Block args os ∷ gs) = ap (λ b. p (ops_meaning c os.items) && b) (lists_are c p gs)

module _ (c : ContextModel) where
  abbrev scoped : Op → Bool
  scoped o = is_scope (head (meaning c o))

  pub only_is : (os : List Op) → list_all (λ o. is_scope (head (meaning c o))) os ≡ only_scopes (ops_meaning c os)
  only_is [] = refl
  only_is (o ∷ os) = ap (λ b. scoped o && b) (only_is os)

  pub none_is : (os : List Op) → list_all (λ o. not (is_scope (head (meaning c o)))) os ≡ has_no_scope (ops_meaning c os)
  none_is [] = refl
  none_is (o ∷ os) = ap (λ b. not (scoped o) && b) (none_is os)

  ends_at : (os : List Op) (i : ℕ) (d : Op) → i < length os → scoped (get_or os i d) ≡ true → ((k : ℕ) → k < i → scoped (get_or os k d) ≡ false)
      → only_scopes (ops_meaning c (drop i os)) ≡ ends_in_scopes (ops_meaning c os)
  ends_at [] i d l h first = absurd (omega arith)
  ends_at (o ∷ os) zero d l h first = ap (λ b. b && only_scopes (ops_meaning c os)) h ∙ sym (ap (λ b. cond b (only_scopes (ops_meaning c os)) (ends_in_scopes (ops_meaning c os))) h)
  ends_at (o ∷ os) (suc i) d l h first =
      let m : i < length os = omega arith in
      ends_at os i d m h (λ k m. first (suc k) (omega arith)) ∙ sym (ap (λ b. cond b (only_scopes (ops_meaning c os)) (ends_in_scopes (ops_meaning c os))) (first 0 (omega arith)))

  pub ends_found : (os : List Op) (i : ℕ) → position (λ o. is_scope (head (meaning c o))) os ≡ Some i → only_scopes (ops_meaning c (drop i os)) ≡ ends_in_scopes (ops_meaning c os)
  ends_found [] i e = absurd (cc e)
  ends_found (o ∷ os) i e = let h = position-Some (λ o. is_scope (head (meaning c o))) (o ∷ os) i o e in ends_at (o ∷ os) i o h.0 h.1 h.2

  past : (m n : ℕ) (b : Bool) → nat_lt m n ≡ b → cond b (Some m) None ≡ None → n ≤ m
  past m n true e h = absurd (cc h)
  past m n false e h = ltb-false m n e

  none_past : (p : Op → Bool) (os : List Op) → position p os ≡ None → length os ≤ position_or_len p os
  none_past p os e = past (position_or_len p os) (length os) (nat_lt (position_or_len p os) (length os)) refl e

  ends_past : (os : List Op) → length os ≤ position_or_len (λ o. is_scope (head (meaning c o))) os → true ≡ ends_in_scopes (ops_meaning c os)
  ends_past [] h = refl
  ends_past (o ∷ os) h =
      elim (scoped o) as (λ b. length (o ∷ os) ≤ cond (not b) (1 + position_or_len scoped os) 0 → true ≡ cond b (only_scopes (ops_meaning c os)) (ends_in_scopes (ops_meaning c os)))
      [ true ↦ λ l. absurd (omega arith) | false ↦ λ l. ends_past os (omega arith) ]
      h

  pub ends_none : (os : List Op) → position (λ o. is_scope (head (meaning c o))) os ≡ None → true ≡ ends_in_scopes (ops_meaning c os)
  ends_none os e = ends_past os (none_past (λ o. is_scope (head (meaning c o))) os e)

  abbrev naming : Op → Bool
  naming o = names_blocks (head (meaning c o))

-- a list of scopes names nothing
scopes_name : (os : Ops) → only_scopes os ≡ true → only_last_names os ≡ true
scopes_name no_ops h = refl
scopes_name (next o os) h =
    let b = both (is_scope (head o)) (only_scopes os) h in
    ap (λ s. (s || (is_nil (successors_of (head o)) || only_scopes os)) && only_last_names os) b.0 ∙ scopes_name os b.1

implied : (b c : Bool) → (b ≡ true → c ≡ true) → b ≡ (b && c)
implied true c h = sym (h refl)
implied false c h = refl

-- an operation that names blocks, and one that doesn't
named_here : (h : Head) (os : Ops) → names_blocks h ≡ true → only_scopes os ≡ ((is_scope h || (is_nil (successors_of h) || only_scopes os)) && only_last_names os)
named_here h os e =
    let b = both (not (is_scope h)) (not (is_nil (successors_of h))) e in
    implied (only_scopes os) (only_last_names os) (scopes_name os)
    ∙ (λ i. (sym (not_false (is_scope h) b.0) i || (sym (not_false (is_nil (successors_of h)) b.1) i || only_scopes os)) && only_last_names os)

unnamed : (s n r : Bool) → (not s && not n) ≡ false → (s || (n || r)) ≡ true
unnamed true n r e = refl
unnamed false true r e = refl
unnamed false false r e = absurd (true≢false e)

unnamed_here : (h : Head) (os : Ops) → names_blocks h ≡ false → only_last_names os ≡ ((is_scope h || (is_nil (successors_of h) || only_scopes os)) && only_last_names os)
unnamed_here h os e = sym (ap (λ b. b && only_last_names os) (unnamed (is_scope h) (is_nil (successors_of h)) (only_scopes os) e))

module _ (c : ContextModel) where
  names_at : (os : List Op) (i : ℕ) (d : Op) → i < length os → naming c (get_or os i d) ≡ true → ((k : ℕ) → k < i → naming c (get_or os k d) ≡ false)
      → only_scopes (ops_meaning c (drop (suc i) os)) ≡ only_last_names (ops_meaning c os)
  names_at [] i d l h first = absurd (omega arith)
  names_at (o ∷ os) zero d l h first = named_here (head (meaning c o)) (ops_meaning c os) h
  names_at (o ∷ os) (suc i) d l h first =
      let m : i < length os = omega arith in
      names_at os i d m h (λ k m. first (suc k) (omega arith)) ∙ unnamed_here (head (meaning c o)) (ops_meaning c os) (first 0 (omega arith))

  pub names_found : (os : List Op) (i n : ℕ) → n ≡ i + 1 → position (λ o. names_blocks (head (meaning c o))) os ≡ Some i → only_scopes (ops_meaning c (drop n os)) ≡ only_last_names (ops_meaning c os)
  names_found [] i n s e = absurd (cc e)
  names_found (o ∷ os) i n s e =
      let h = position-Some (λ o. names_blocks (head (meaning c o))) (o ∷ os) i o e in
      let m : n ≡ suc i = omega arith in
      ap (λ m. only_scopes (ops_meaning c (drop m (o ∷ os)))) m ∙ names_at (o ∷ os) i o h.0 h.1 h.2

  names_step : (o : Op) (os : List Op) → (length os ≤ position_or_len (λ o. names_blocks (head (meaning c o))) os → true ≡ only_last_names (ops_meaning c os))
      → (b : Bool) → naming c o ≡ b → length (o ∷ os) ≤ cond (not b) (1 + position_or_len (λ o. names_blocks (head (meaning c o))) os) 0 → true ≡ only_last_names (ops_meaning c (o ∷ os))
  names_step o os later true e l = absurd (omega arith)
  names_step o os later false e l = later (omega arith) ∙ unnamed_here (head (meaning c o)) (ops_meaning c os) e

  names_past : (os : List Op) → length os ≤ position_or_len (λ o. names_blocks (head (meaning c o))) os → true ≡ only_last_names (ops_meaning c os)
  names_past [] h = refl
  names_past (o ∷ os) h = names_step o os (names_past os) (naming c o) refl h

  pub names_none : (os : List Op) → position (λ o. names_blocks (head (meaning c o))) os ≡ None → true ≡ only_last_names (ops_meaning c os)
  names_none os e = names_past os (none_past c (λ o. names_blocks (head (meaning c o))) os e)

-- a slice to the end is what is left
pub rest_is : {X : Type 0} (xs : List X) (n : ℕ) → take (length xs - n) (drop n xs) ≡ drop n xs
rest_is xs n = take_all (length xs - n) (drop n xs) (omega (arith, length-drop n xs))
