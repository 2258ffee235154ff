-- Edits before an operation with one result, which another value replaces in the end.
use Rattle.std.proofs.Common.{◌≡◌, refl, ap, sym, ◌∙◌, ℕ, suc, ◌+◌, ◌≤◌, true, List, [], ◌∷◌, Some, option_map, arith}
use Rattle.std.specs.Prelude.{nat_lt, slice_get, option_and_then}
use Rattle.std.specs.List.{list_all}
use Rattle.std.specs.Option.{option_eq}
use Rattle.std.proofs.lemmas.Bool.{lt-ltb}
use Rattle.ir_event.specs.types.Words.{is_isolated}
use Rattle.ir_event.specs.types.Terms.{TypeTerm, AttrTerm}
use Rattle.ir_event.specs.types.SameTypes.{same_type}
use Rattle.ir_event.specs.trees.declared.value.Value.{Value}
use Rattle.ir_event.specs.trees.declared.value.Value.TheVariants.{Result}
use Rattle.ir_event.specs.trees.declared.place.Place.{Place}
use Rattle.ir_event.specs.trees.Tree.{HeadOf, head}
use Rattle.ir_event.specs.trees.Ids.{op_count}
use Rattle.ir_event.specs.trees.Limits.{most_ops, most_next, op_fits, items_fit}
use Rattle.ir_event.specs.trees.Sites.{visible}
use Rattle.ir_event.specs.trees.Meaning.{Operation}
use Rattle.ir_event.specs.tree_laws.Values.{type_of_value}
use Rattle.ir_event.specs.tree_laws.Reasons.{with_id}
use Rattle.ir_event.proofs.of_tree_laws.Edited.{put_op_count}
use Rattle.ir_event.proofs.of_tree_laws.Listed.{both_hold}
use Rattle.ir_event.specs.Modules.{Module}
use Rattle.rewriter_machine.specs.Contents.{Edit, edited}
use Rattle.rewriter_machine.specs.Edits.{Make}
use Rattle.patterns_base.specs.Lists.{Free}
use Rattle.patterns_base.proofs.Give.{there_is}
use Rattle.patterns_base.proofs.Headed.{found_there}
use Rattle.patterns_base.proofs.Made as made_there
use Rattle.patterns_base.proofs.Plans as plans
use Rattle.patterns_base.proofs.Plans.{StandsAt, dominated_by}
use Rattle.patterns_soundness.specs.base.Made.{Entries, made}
use Rattle.patterns_soundness.specs.base.Makes.{give, give_new}

-- operation x, with one result of a type, comes after a place, and k more operations are within the limits
pub record IsWithinLimits (x : ℕ) (insertion : Place) (ty : TypeTerm) (k : ℕ) (m : Module) : Type 0 where
  pub located : StandsAt x insertion m
  pub one : (head located.at.here).results ≡ ty ∷ []
  pub ops : op_count m.tree + k ≤ most_ops
  pub ids : m.next + k ≤ most_next

module _ (x : ℕ) (insertion : Place) (ty : TypeTerm) where
  result_type : (k : ℕ) (m : Module) (f : IsWithinLimits x insertion ty k m) → type_of_value (Result x 0) m.tree ≡ Some ty
  result_type k m f = ap (option_and_then (λ o. slice_get (head o).results 0)) (found_there is_isolated x insertion m f.located) ∙ ap (λ (l : List TypeTerm). slice_get l 0) f.one

  -- a value of the result's type that dominates x may replace the result
  pub given : (k : ℕ) (m : Module) → IsWithinLimits x insertion ty k m → (v : Value) → dominated_by x v m ≡ true → (u : TypeTerm) → type_of_value v m.tree ≡ Some u → same_type ty u ≡ true → Free (give x v) m
  given k m f v seen u of same = plans.give_free x insertion m f.located v seen ty f.one ((λ i. option_eq same_type (result_type k m f i) (of i)) ∙ same)

  -- an operation is inserted before x
  module _ (k : ℕ) (m : Module) (f : IsWithinLimits x insertion ty (suc k) m) (name : List ℕ) (operands : List Value) (new : TypeTerm) (properties : Entries)
      (few : items_fit operands ≡ true) (short : items_fit properties ≡ true) (seen : list_all (visible is_isolated m.tree x) operands ≡ true) where
    abbrev o : Operation
    o = made name operands new properties

    headroom : nat_lt (op_count m.tree) most_ops ≡ true
    headroom = lt-ltb (op_count m.tree) most_ops (let n = f.ops in omega (arith, n))

    more : nat_lt m.next most_next ≡ true
    more = lt-ltb m.next most_next (let n = f.ids in omega (arith, n))

    fits : op_fits (made name operands new properties) ≡ true
    fits = both_hold _ _ (both_hold (items_fit operands) _ few (both_hold (items_fit properties) _ short refl)) refl

    pub make_first : (es : List Edit) → Free es (edited (Make insertion (made name operands new properties)) m) → Free (Make insertion (made name operands new properties) ∷ es) m
    make_first = plans.make_free x insertion m f.located o refl seen fits headroom more

    after : StandsAt x insertion (edited (Make insertion (made name operands new properties)) m)
    after = plans.make_stands x insertion m f.located o refl seen fits headroom more

    heads : head after.at.here ≡ head f.located.at.here
    heads =
        (let two : Some (head after.at.here) ≡ Some (head f.located.at.here) = ap (option_map (λ o. head o)) (sym (found_there is_isolated x insertion (edited (Make insertion o) m) after)) ∙ made_there.heads_stay is_isolated x insertion m f.located o refl x (there_is is_isolated x insertion m f.located) ∙ ap (option_map (λ o. head o)) (found_there is_isolated x insertion m f.located) in cc)

    count : op_count (edited (Make insertion (made name operands new properties)) m).tree ≡ op_count m.tree + 1
    count = put_op_count insertion (with_id m.next o) m.tree (made_there.may is_isolated x insertion m f.located o refl)

    pub made_fit : IsWithinLimits x insertion ty k (edited (Make insertion (made name operands new properties)) m)
    made_fit = record {
      located = after;
      one = ap (λ (h : HeadOf (List ℕ) TypeTerm AttrTerm). h.results) heads ∙ f.one;
      ops = (let n = f.ops in omega (arith, n, count));
      ids = (let n = f.ids in omega (arith, n));
    }

    -- the values that dominated x still do, and so does the new value, which has the new type
    pub dominated_by_still : (v : Value) → dominated_by x v m ≡ true → dominated_by x v (edited (Make insertion (made name operands new properties)) m) ≡ true
    dominated_by_still = plans.make_dominated_by x insertion m f.located o refl seen fits headroom more

    pub dominated_by_new : (n : ℕ) → n ≡ m.next → dominated_by x (Result n 0) (edited (Make insertion (made name operands new properties)) m) ≡ true
    dominated_by_new n e = ap (λ z. dominated_by x (Result z 0) (edited (Make insertion o) m)) e ∙ plans.make_dominated_by_new x insertion m f.located o refl seen fits headroom more 0 refl

    new_type : (n : ℕ) → n ≡ m.next → type_of_value (Result n 0) (edited (Make insertion (made name operands new properties)) m).tree ≡ Some new
    new_type n e = ap (λ z. type_of_value (Result z 0) (edited (Make insertion o) m).tree) e ∙ plans.make_type_new x insertion m f.located o refl seen fits headroom more 0

    -- the new result replaces the result of x, if it has that type
    pub new_given : (n : ℕ) → n ≡ m.next → same_type ty new ≡ true → Free (give_new insertion n x (made name operands new properties)) m
    new_given n e same = make_first (give x (Result n 0)) (given k (edited (Make insertion o) m) made_fit (Result n 0) (dominated_by_new n e) new (new_type n e) same)
