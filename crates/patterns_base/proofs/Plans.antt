-- Rewrite plans at an operation without a refused edit. Each lemma removes the first edit of a list.
use Rattle.std.proofs.Common.{◌≡◌, refl, ap, sym, ◌∙◌, ℕ, ◌<◌, Bool, true, not, List, [], ◌∷◌, ◌++◌, length, map, Option, Some, None, option_map}
use Rattle.std.specs.Prelude.{nat_lt, slice_get, option_and_then, is_some}
use Rattle.std.specs.List.{list_all}
use Rattle.std.specs.Option.{option_eq}
use Rattle.ir_types.specs.Terms.{TypeTerm, AttrTerm}
use Rattle.ir_types.specs.Words.{is_isolated, is_table}
use Rattle.ir_tree.specs.declared.value.Value.{Value}
use Rattle.ir_tree.specs.declared.value.Value.TheVariants.{Result}
use Rattle.ir_tree.specs.declared.place.Place.{Place}
use Rattle.ir_tree.specs.Tree.{HeadOf, op, head, regions}
use Rattle.ir_tree.specs.Ids.{find, has_id, op_count}
use Rattle.ir_tree.specs.Limits.{most_ops, most_next, op_fits}
use Rattle.ir_tree.specs.Uses.{uses_of}
use Rattle.ir_tree.specs.Sites.{visible}
use Rattle.ir_tree.specs.Meaning.{Operation}
use Rattle.ir_tree_laws.specs.Reasons.{with_id, hold_none}
use Rattle.ir_tree_laws.specs.Values.{type_of_value}
use Rattle.rewriter_machine.specs.events.Modules.{Module}
use Rattle.ir_types.specs.SameTypes.{same_type}
use Rattle.rewriter_machine.specs.Contents.{Edit, all_edited, edited, edit_reason}
use Rattle.rewriter_machine.specs.Edits.{Make, Erase, Move, SetOperand, Replace}
use Rattle.patterns_base.specs.Lists.{Free}
use Rattle.patterns_base.proofs.Made.{Located}
use Rattle.patterns_base.proofs.Made as made
use Rattle.patterns_base.proofs.Headed as headed
use Rattle.patterns_base.proofs.Give as give
use Rattle.patterns_base.proofs.Body.{Holding, hold_step}
use Rattle.ir_tree_laws.proofs.Reverted.{passed}

-- operation x of a module comes after a place
abbrev pub StandsAt : ℕ → Place → Module → Type 0
StandsAt = Located is_isolated

-- whether a value dominates it
abbrev pub dominated_by : ℕ → Value → Module → Bool
dominated_by x v m = visible is_isolated m.tree x v

-- whether two values of a tree have the same type
abbrev pub same_types : Value → Value → Operation → Bool
same_types v w t = option_eq same_type (type_of_value v t) (type_of_value w t)

module _ (x : ℕ) (insertion : Place) (m : Module) (s : StandsAt x insertion m) where
  -- it is erased, if none of its results is used
  pub erase_free : ((k : ℕ) → k < length (head s.at.here).results → uses_of (Result x k) m.tree ≡ []) → edit_reason (Erase x) m ≡ None
  erase_free unused =
      passed _ _ _ (give.there_is is_isolated x insertion m s)
      (passed _ _ _ (ap not (headed.not_root is_isolated x insertion m s))
      (passed _ _ _ (give.may_erase is_isolated x insertion m s unused) refl))

  -- a value that dominates it is set as its operand
  pub set_free : (v : Value) → dominated_by x v m ≡ true → (k : ℕ) → nat_lt k (length (head s.at.here).operands) ≡ true → (es : List Edit) → Free es (edited (SetOperand x k v) m) → Free (SetOperand x k v ∷ es) m
  set_free v seen k has es rest = (headed.set_free is_isolated x insertion m s v seen k has, rest)

  -- a value that dominates it replaces its one result, and it is erased
  pub give_free : (v : Value) → dominated_by x v m ≡ true → (ty : TypeTerm) → (head s.at.here).results ≡ ty ∷ [] → same_types (Result x 0) v m.tree ≡ true → Free (Replace (Result x 0) v ∷ Erase x ∷ []) m
  give_free v seen ty one same = (
    passed _ _ _ (ap (λ o. has_first o) (headed.found_there is_isolated x insertion m s) ∙ ap is_first one)
        (passed _ _ _ (give.given_is is_isolated x insertion m s v seen ty one)
        (passed _ _ _ same
        (passed _ _ _ (give.given_users is_isolated x insertion m s v seen ty one) refl))),
    (
      passed _ _ _ (give.there_is is_isolated x insertion (give.replaced is_isolated x insertion m s v seen ty one) (give.given_located is_isolated x insertion m s v seen ty one))
          (passed _ _ _ (ap not (headed.not_root is_isolated x insertion (give.replaced is_isolated x insertion m s v seen ty one) (give.given_located is_isolated x insertion m s v seen ty one)))
          (passed _ _ _ (give.given_spared is_isolated x insertion m s v seen ty one) refl)),
      tt,
    ),
  )
    where
      is_first : List TypeTerm → Bool
      is_first l = is_some (slice_get l 0)

      has_first : Option Operation → Bool
      has_first o = is_some (option_and_then (λ o. slice_get (head o).results 0) o)

  -- an operation on values that dominate it is inserted before it
  module _ (o : Operation) (leaf : hold_none (regions o) ≡ true) (seen : list_all (visible is_isolated m.tree x) (head o).operands ≡ true) (fits : op_fits o ≡ true) (headroom : nat_lt (op_count m.tree) most_ops ≡ true) (more : nat_lt m.next most_next ≡ true) where
    pub make_free : (es : List Edit) → Free es (edited (Make insertion o) m) → Free (Make insertion o ∷ es) m
    make_free es rest = (made.make_free is_isolated x insertion m s o leaf seen fits headroom more, rest)

    abbrev pub make_stands : StandsAt x insertion (edited (Make insertion o) m)
    make_stands = made.make_located is_isolated x insertion m s o leaf seen fits headroom more

    pub make_dominated_by : (v : Value) → dominated_by x v m ≡ true → dominated_by x v (edited (Make insertion o) m) ≡ true
    make_dominated_by v e = made.dominated_by_still is_isolated x insertion m s o leaf v e

    pub make_dominated_by_new : (k : ℕ) → nat_lt k (length (head o).results) ≡ true → dominated_by x (Result m.next k) (edited (Make insertion o) m) ≡ true
    make_dominated_by_new k l = made.dominated_by_new is_isolated x insertion m s o leaf k l

    -- the types of the new results
    pub make_type_new : (k : ℕ) → type_of_value (Result m.next k) (edited (Make insertion o) m).tree ≡ slice_get (head o).results k
    make_type_new k = ap (option_and_then (λ o. slice_get (head o).results k)) (made.new_found is_isolated x insertion m s o leaf) ∙ results o
      where
        results : (o : Operation) → slice_get (head (with_id m.next o)).results k ≡ slice_get (head o).results k
        results (op h rs) = refl

    pub make_type : (y k : ℕ) → has_id y m.tree ≡ true → type_of_value (Result y k) (edited (Make insertion o) m).tree ≡ type_of_value (Result y k) m.tree
    make_type y k there = sym (by_head (find y (edited (Make insertion o) m).tree)) ∙ ap (λ (h : Option (HeadOf (List ℕ) TypeTerm AttrTerm)). option_and_then (λ h. slice_get h.results k) h) (made.heads_stay is_isolated x insertion m s o leaf y there) ∙ by_head (find y m.tree)
      where
        by_head : (f : Option Operation) → option_and_then (λ (h : HeadOf (List ℕ) TypeTerm AttrTerm). slice_get h.results k) (option_map (λ o. head o) f) ≡ option_and_then (λ o. slice_get (head o).results k) f
        by_head None = refl
        by_head (Some q) = refl

-- operations of a block move before the operation around it
abbrev pub HasFirst : ℕ → ℕ → Place → List ℕ → Module → Type 0
HasFirst = Holding is_isolated is_table

abbrev pub moving : Place → List ℕ → List Edit
moving place ys = map (λ y. Move y place) ys

dropped : (x r : ℕ) (insertion : Place) (ys zs : List ℕ) (m : Module) → HasFirst x r insertion (ys ++ zs) m → HasFirst x r insertion zs (all_edited (moving insertion ys) m)
dropped x r insertion [] zs m h = h
dropped x r insertion (y ∷ ys) zs m h = dropped x r insertion ys zs (edited (Move y insertion) m) (hold_step is_isolated is_table x r insertion y (ys ++ zs) m h).1

pub move_free : (x r : ℕ) (insertion : Place) (ys zs : List ℕ) (m : Module) → HasFirst x r insertion (ys ++ zs) m → (es : List Edit) → Free es (all_edited (moving insertion ys) m) → Free (moving insertion ys ++ es) m
move_free x r insertion [] zs m h es rest = rest
move_free x r insertion (y ∷ ys) zs m h es rest = (let k = hold_step is_isolated is_table x r insertion y (ys ++ zs) m h in (k.0, move_free x r insertion ys zs (edited (Move y insertion) m) k.1 es rest))

pub move_rest : (x r : ℕ) (insertion : Place) (ys zs : List ℕ) (m : Module) → HasFirst x r insertion (ys ++ zs) m → HasFirst x r insertion zs (all_edited (moving insertion ys) m)
move_rest = dropped

-- ---- whole plans

-- the result of a new operation replaces the one result of x
pub give_new_free : (x : ℕ) (insertion : Place) (m : Module) (s : StandsAt x insertion m) (o : Operation) → hold_none (regions o) ≡ true → list_all (visible is_isolated m.tree x) (head o).operands ≡ true → op_fits o ≡ true
    → nat_lt (op_count m.tree) most_ops ≡ true → nat_lt m.next most_next ≡ true → (ty new : TypeTerm) → (head s.at.here).results ≡ ty ∷ [] → (head o).results ≡ new ∷ [] → same_type ty new ≡ true
    → Free (Make insertion o ∷ Replace (Result x 0) (Result m.next 0) ∷ Erase x ∷ []) m
give_new_free x insertion m s o leaf seen fits headroom more ty new one gives same =
    make_free x insertion m s o leaf seen fits headroom more (Replace (Result x 0) (Result m.next 0) ∷ Erase x ∷ [])
    (give_free x insertion (edited (Make insertion o) m) after (Result m.next 0) (make_dominated_by_new x insertion m s o leaf seen fits headroom more 0 (ap (λ (l : List TypeTerm). nat_lt 0 (length l)) gives)) ty one_after types)
  where
    after : StandsAt x insertion (edited (Make insertion o) m)
    after = make_stands x insertion m s o leaf seen fits headroom more

    there : has_id x m.tree ≡ true
    there = give.there_is is_isolated x insertion m s

    of_x : type_of_value (Result x 0) (edited (Make insertion o) m).tree ≡ Some ty
    of_x = make_type x insertion m s o leaf seen fits headroom more x 0 there ∙ ap (option_and_then (λ o. slice_get (head o).results 0)) (headed.found_there is_isolated x insertion m s) ∙ ap (λ (l : List TypeTerm). slice_get l 0) one

    heads : head after.at.here ≡ head s.at.here
    heads = (let two : Some (head after.at.here) ≡ Some (head s.at.here) = ap (option_map (λ o. head o)) (sym (headed.found_there is_isolated x insertion (edited (Make insertion o) m) after)) ∙ made.heads_stay is_isolated x insertion m s o leaf x there ∙ ap (option_map (λ o. head o)) (headed.found_there is_isolated x insertion m s) in cc)

    one_after : (head after.at.here).results ≡ ty ∷ []
    one_after = ap (λ (h : HeadOf (List ℕ) TypeTerm AttrTerm). h.results) heads ∙ one

    types : same_types (Result x 0) (Result m.next 0) (edited (Make insertion o) m).tree ≡ true
    types = (λ i. option_eq same_type (of_x i) ((make_type_new x insertion m s o leaf seen fits headroom more 0 ∙ ap (λ (l : List TypeTerm). slice_get l 0) gives) i)) ∙ same
