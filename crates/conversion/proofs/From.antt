-- The operations of a tree before heads were changed and an operation was taken out.
use Rattle.std.proofs.Common.{◌≡◌, refl, ap, sym, ◌∙◌, subst, ℕ, zero, suc, ◌+◌, [], ◌∷◌, Option, Some, None}
use Rattle.std.specs.Prelude.{option_and_then, slice_get}
use Rattle.ir_event.specs.trees.declared.value.Value.{Value}
use Rattle.ir_event.specs.trees.declared.value.Value.TheVariants.{Result, Arg}
use Rattle.ir_event.specs.trees.Tree.{HeadOf, OpOf, op, RegionsOf, no_regions, region, empty, block, head, regions}
use Rattle.ir_event.specs.trees.Ids.{HasDistinctIds, find}
use Rattle.ir_event.specs.trees.Edits.{each_head, regions_each_head}
use Rattle.ir_event.specs.trees.Places.{each_list, regions_each_list, without}
use Rattle.ir_event.specs.store.Nodes.{regions_arguments}
use Rattle.ir_event.specs.tree_laws.Members.{In}
use Rattle.ir_event.specs.tree_laws.Stands.{OpWithPathOf, op_with_path_id, stands, dropping, edit_stand}
use Rattle.ir_event.specs.tree_laws.Values.{region_at, arguments_of, arguments_at, type_of_value}
use Rattle.ir_event.proofs.of_tree_laws.Heads.{each_stands}
use Rattle.ir_event.proofs.of_tree_laws.Listed.{in_mapped}
use Rattle.ir_event.proofs.of_tree_laws.Members.{found_stands, stand_found}
use Rattle.ir_event.proofs.of_tree_laws.Without.{member_left, same_head}

module _ {N T A : Type 0} where
  -- operation w of the old tree, which differs from the new one only in its head, changed by f
  pub record Was (f : HeadOf N T A → HeadOf N T A) (t : OpOf N T A) (w : ℕ) (o : OpOf N T A) : Type 0 where
    pub was : OpOf N T A
    pub found : find w t ≡ Some was
    pub is : head o ≡ f (head was)
    pub arguments : regions_arguments (regions o) ≡ regions_arguments (regions was)

  -- each operation of u was one of t
  abbrev pub From : (HeadOf N T A → HeadOf N T A) → OpOf N T A → OpOf N T A → Type 0
  From f t u = (w : ℕ) (o : OpOf N T A) → find w u ≡ Some o → Was f t w o

  -- ---- an operation is taken out
  left_arguments : (x p r : ℕ) (rs : RegionsOf N T A) → regions_arguments (regions_each_list (dropping x) p r rs) ≡ regions_arguments rs
  left_arguments x p r no_regions = refl
  left_arguments x p r (region empty rs) = ap (λ l. None ∷ l) (left_arguments x p (r + 1) rs)
  left_arguments x p r (region (block args os) rs) = ap (λ l. Some args ∷ l) (left_arguments x p (r + 1) rs)

  left_own : (x : ℕ) (o : OpOf N T A) → regions_arguments (regions (each_list (dropping x) o)) ≡ regions_arguments (regions o)
  left_own x (op h rs) = left_arguments x h.id 0 rs

  pub from_left : (x : ℕ) (t : OpOf N T A) → HasDistinctIds t → From (λ h. h) t (without x t)
  from_left x t d w o e =
      let s = found_stands w (without x t) o e in
      let k = member_left x t s.0 s.1 in
      let here : o ≡ each_list (dropping x) k.0.here = sym s.3 ∙ ap (λ (z : OpWithPathOf N T A). z.here) k.3 in
      let heads : head o ≡ head k.0.here = ap (λ (z : OpOf N T A). head z) here ∙ same_head x (dropping x) k.0.here in
      let id : op_with_path_id k.0 ≡ w = sym (ap (λ (z : HeadOf N T A). z.id) heads) ∙ ap (λ (z : OpOf N T A). (head z).id) (sym s.3) ∙ s.2 in
      record {
        was = k.0.here;
        found = ap (λ z. find z t) (sym id) ∙ stand_found t d k.0 k.1;
        is = heads;
        arguments = ap (λ (z : OpOf N T A). regions_arguments (regions z)) here ∙ left_own x k.0.here;
      }

  -- ---- heads are changed
  module _ (f : HeadOf N T A → HeadOf N T A) (ids : (h : HeadOf N T A) → (f h).id ≡ h.id) where
    edited_arguments : (rs : RegionsOf N T A) → regions_arguments (regions_each_head f rs) ≡ regions_arguments rs
    edited_arguments no_regions = refl
    edited_arguments (region empty rs) = ap (λ l. None ∷ l) (edited_arguments rs)
    edited_arguments (region (block args os) rs) = ap (λ l. Some args ∷ l) (edited_arguments rs)

    edited_own : (o : OpOf N T A) → regions_arguments (regions (each_head f o)) ≡ regions_arguments (regions o)
    edited_own (op h rs) = edited_arguments rs

    edited_head : (o : OpOf N T A) → head (each_head f o) ≡ f (head o)
    edited_head (op h rs) = refl

    pub from_edited : (t : OpOf N T A) → HasDistinctIds t → From f t (each_head f t)
    from_edited t d w o e =
        let s = found_stands w (each_head f t) o e in
        let k = in_mapped (edit_stand f) s.0 (stands [] t) (subst (λ l. In s.0 l) (each_stands f [] t) s.1) in
        let here : o ≡ each_head f k.0.here = sym s.3 ∙ ap (λ (z : OpWithPathOf N T A). z.here) k.2 in
        let heads : head o ≡ f (head k.0.here) = ap (λ (z : OpOf N T A). head z) here ∙ edited_head k.0.here in
        let id : op_with_path_id k.0 ≡ w = sym (ids (head k.0.here)) ∙ sym (ap (λ (z : HeadOf N T A). z.id) heads) ∙ ap (λ (z : OpOf N T A). (head z).id) (sym s.3) ∙ s.2 in
        record {
          was = k.0.here;
          found = ap (λ z. find z t) (sym id) ∙ stand_found t d k.0 k.1;
          is = heads;
          arguments = ap (λ (z : OpOf N T A). regions_arguments (regions z)) here ∙ edited_own k.0.here;
        }

  pub from_both : (f : HeadOf N T A → HeadOf N T A) (t u v : OpOf N T A) → From f t u → From (λ h. h) u v → From f t v
  from_both f t u v g k w o e =
      let b = k w o e in
      let a = g w b.was b.found in
      record { was = a.was; found = a.found; is = b.is ∙ a.is; arguments = b.arguments ∙ a.arguments }

  -- ---- values keep their types
  at_place : (r : ℕ) (rs : RegionsOf N T A) → option_and_then arguments_of (region_at r rs) ≡ option_and_then (λ a. a) (slice_get (regions_arguments rs) r)
  at_place zero no_regions = refl
  at_place (suc r) no_regions = refl
  at_place zero (region g rs) = refl
  at_place (suc r) (region g rs) = at_place r rs

  same_arguments : (r : ℕ) (o p : OpOf N T A) → regions_arguments (regions o) ≡ regions_arguments (regions p) → arguments_at r o ≡ arguments_at r p
  same_arguments r o p e = at_place r (regions o) ∙ ap (λ l. option_and_then (λ a. a) (slice_get l r)) e ∙ sym (at_place r (regions p))

  module _ (f : HeadOf N T A → HeadOf N T A) (results : (h : HeadOf N T A) → (f h).results ≡ h.results) (t u : OpOf N T A) (from : From f t u) where
    abbrev result_in : ℕ → Option (OpOf N T A) → Option T
    result_in k a = option_and_then (λ (o : OpOf N T A). slice_get (head o).results k) a

    abbrev argument_in : ℕ → ℕ → Option (OpOf N T A) → Option T
    argument_in r k a = option_and_then (λ (o : OpOf N T A). option_and_then (λ args. slice_get args k) (arguments_at r o)) a

    result_back : (y k : ℕ) (ty : T) (a : Option (OpOf N T A)) → find y u ≡ a → result_in k a ≡ Some ty → result_in k (find y t) ≡ Some ty
    result_back y k ty None i e = absurd cc
    result_back y k ty (Some o) i e =
        (let w = from y o i in
        ap (result_in k) w.found ∙ ap (λ l. slice_get l k) (sym (results (head w.was)) ∙ sym (ap (λ (h : HeadOf N T A). h.results) w.is)) ∙ e)

    argument_back : (y r k : ℕ) (ty : T) (a : Option (OpOf N T A)) → find y u ≡ a → argument_in r k a ≡ Some ty → argument_in r k (find y t) ≡ Some ty
    argument_back y r k ty None i e = absurd cc
    argument_back y r k ty (Some o) i e =
        (let w = from y o i in
        ap (argument_in r k) w.found ∙ ap (option_and_then (λ args. slice_get args k)) (sym (same_arguments r o w.was w.arguments)) ∙ e)

    pub type_back : (v : Value) (ty : T) → type_of_value v u ≡ Some ty → type_of_value v t ≡ Some ty
    type_back (Result y k) ty e = result_back y k ty (find y u) refl e
    type_back (Arg y r k) ty e = argument_back y r k ty (find y u) refl e
