-- Erasing a cast makes the module smaller.
use Rattle.std.proofs.Common.{◌≡◌, refl, ap, sym, ◌∙◌, subst, ℕ, suc, ◌<◌, ◌≤◌, Bool, true, false, true≢false, cond, not, ◌&&◌, eqb, List, [], ◌∷◌, length, map, filter, Option, Some, None, inl, inr, arith}
use Rattle.std.specs.List.{list_any}
use Rattle.ir_event.specs.types.Terms.{TypeTerm}
use Rattle.ir_event.specs.trees.declared.value.Value.{Value}
use Rattle.ir_event.specs.trees.declared.value.Value.TheVariants.{Result}
use Rattle.ir_event.specs.trees.declared.place.Place.{Place}
use Rattle.ir_event.specs.trees.Tree.{OpOf, head}
use Rattle.ir_event.specs.trees.Ids.{find, has_id, op_count}
use Rattle.ir_event.specs.trees.Places.{without}
use Rattle.ir_event.specs.trees.Edits.{put_values, with_value_replaced}
use Rattle.ir_event.specs.trees.Meaning.{Operation}
use Rattle.ir_event.specs.tree_laws.Stands.{OpWithPathOf, op_with_path_id, stands, is_gone, left_stand}
use Rattle.ir_event.specs.tree_laws.Members.{In}
use Rattle.ir_event.proofs.of_tree_laws.Listed.{bool_cases, both}
use Rattle.ir_event.proofs.of_tree_laws.Readings.{stands_ids}
use Rattle.ir_event.proofs.of_tree_laws.Members.{found_stands}
use Rattle.ir_event.proofs.of_tree_laws.Around.{present_stand, stand_present, left_apart}
use Rattle.ir_event.proofs.of_tree_laws.Without.{without_stands}
use Rattle.ir_event.proofs.of_tree_laws.Heads.{each_id}
use Rattle.ir_event.proofs.of_tree_laws.HeadForm.{edit_ids}
use Rattle.ir_event.specs.Modules.{Module}
use Rattle.effects.specs.Dead.{is_unused}
use Rattle.patterns_base.specs.Contents.{Edit, all_edited, edited}
use Rattle.patterns_base.specs.Edits.{Erase}
use Rattle.patterns_base.specs.declared.rule.Rule.TheVariants.{CastBack}
use Rattle.patterns_base.specs.Casting.{cast_back, unrealized, back_from}
use Rattle.patterns_base.specs.Keeps.{given}
use Rattle.patterns_base.specs.Looks.{One, is_of_type, one, one_from, source}
use Rattle.patterns_base.specs.Makes.{give}
use Rattle.patterns_base.specs.Rules.{rule}
use Rattle.patterns_base.specs.Rewrites.{Rewrite, none, refused, becomes, rewrite_of}
use Rattle.patterns_base.specs.Words.{named}
use Rattle.conversion_base.specs.Targets.{cast_name}
use Rattle.conversion_base.specs.Reconciling.{rewrite_or, collapse, is_cast, is_cast_found, unused_erased}
use Rattle.conversion_base.proofs.Makes.{applies, given_some, rewritten}
use Rattle.conversion_base.proofs.Enough.{becomes_is}
use Rattle.ir_event.proofs.of_tree_laws.Wellformed.{filter_shorter}
use Rattle.patterns_base.proofs.Facts.{when_some}

-- ---- an operation is taken out of a tree

filter_step : {X : Type 0} (p : X → Bool) (x : X) (xs : List X) (n : ℕ) → (b : Bool) → p x ≡ b → length (filter p xs) ≤ n → length (filter p (x ∷ xs)) ≤ suc n
filter_step p x xs n true e h = subst (λ b. length (cond b (x ∷ filter p xs) (filter p xs)) ≤ suc n) (sym e) (omega (arith, h))
filter_step p x xs n false e h = subst (λ b. length (cond b (x ∷ filter p xs) (filter p xs)) ≤ suc n) (sym e) (omega (arith, h))

filter_less : {X : Type 0} (p : X → Bool) (x : X) (xs : List X) (n : ℕ) → (b : Bool) → p x ≡ b → length (filter p xs) < n → length (filter p (x ∷ xs)) < suc n
filter_less p x xs n true e h = subst (λ b. length (cond b (x ∷ filter p xs) (filter p xs)) < suc n) (sym e) (omega (arith, h))
filter_less p x xs n false e h = subst (λ b. length (cond b (x ∷ filter p xs) (filter p xs)) < suc n) (sym e) (omega (arith, h))

shorter : {X : Type 0} (p : X → Bool) (y : X) (xs : List X) → In y xs → p y ≡ false → length (filter p xs) < length xs
shorter p y [] h e = absurd h
shorter p y (x ∷ xs) (inl k) e =
    let n = filter_shorter p xs in
    subst (λ b. length (cond b (x ∷ filter p xs) (filter p xs)) < suc (length xs)) (sym (sym (ap p k) ∙ e)) (omega (arith, n))
shorter p y (x ∷ xs) (inr h) e = filter_less p x xs (length xs) (p x) refl (shorter p y xs h e)

pub map_length : {X Y : Type 0} (f : X → Y) (xs : List X) → length (map f xs) ≡ length xs
map_length f [] = refl
map_length f (x ∷ xs) = ap suc (map_length f xs)

module _ {N T A : Type 0} where
  counted : (t : OpOf N T A) → op_count t ≡ length (stands [] t)
  counted t = ap length (sym (stands_ids [] t)) ∙ map_length (λ (s : OpWithPathOf N T A). op_with_path_id s) (stands [] t)

  pub falls_without : (x : ℕ) (t : OpOf N T A) → eqb (head t).id x ≡ false → has_id x t ≡ true → op_count (without x t) < op_count t
  falls_without x t root h =
      let s = present_stand [] t x h in
      let gone : is_gone x s.0 ≡ true = elim (bool_cases (is_gone x s.0)) [
        | inl k ↦ k
        | inr k ↦ absurd (left_apart x t s.0 s.1 k root s.2)
      ] in
      let less = shorter (λ (u : OpWithPathOf N T A). not (is_gone x u)) s.0 (stands [] t) s.1 (ap not gone) in
      let before = counted t in
      let after = counted (without x t) ∙ ap length (without_stands x t) ∙ map_length (left_stand x) (filter (λ (u : OpWithPathOf N T A). not (is_gone x u)) (stands [] t)) in
      omega (arith, less, before, after)

  pub falls_replaced : (x : ℕ) (v w : Value) (t : OpOf N T A) → eqb (head t).id x ≡ false → has_id x t ≡ true → op_count (without x (with_value_replaced v w t)) < op_count t
  falls_replaced x v w t root h =
      let same = edit_ids (put_values v w) (λ h. record { id = refl; name = refl; results = refl }) t in
      let less = falls_without x (with_value_replaced v w t) (ap (λ y. eqb y x) (each_id (put_values v w) (λ h. record { id = refl; name = refl; results = refl }) t) ∙ root) (ap (list_any (λ y. eqb y x)) same ∙ h) in
      let count = ap length same in
      omega (arith, less, count)

  pub found_id : (x : ℕ) (t o : OpOf N T A) → find x t ≡ Some o → (has_id x t ≡ true) × ((head o).id ≡ x)
  found_id x t o e =
      let w = found_stands x t o e in
      (ap (λ z. has_id z t) (sym w.2) ∙ stand_present [] t w.0 w.1, ap (λ (z : OpOf N T A). (head z).id) (sym w.3) ∙ w.2)

-- ---- casts

pub rule_is : (t : Operation) (n : ℕ) (insertion : Place) (o : Operation) → rule CastBack t n insertion o ≡ cast_back t n insertion o
unfolding rule
rule_is t n insertion o = refl

one_name : (name : List ℕ) (vs : List Value) (ts : List TypeTerm) (p : One) → one_from name vs ts ≡ Some p → p.name ≡ name
one_name name [] ts p e = absurd cc
one_name name (a ∷ []) [] p e = absurd cc
one_name name (a ∷ []) (ty ∷ []) p e = (let same : record { name = name; first = a; ty = ty } ≡ p = cc in ap (λ (q : One). q.name) (sym same))
one_name name (a ∷ []) (ty ∷ u ∷ ts) p e = absurd cc
one_name name (a ∷ b ∷ vs) ts p e = absurd cc

-- casting back at a cast gives a replacement for its result
pub given_at : (t : Operation) (n : ℕ) (insertion : Place) (o : Operation) (es : List Edit) → named cast_name (head o).name ≡ true → rule CastBack t n insertion o ≡ Some es → (v : Value) × (es ≡ give (head o).id v)
given_at t n insertion o es c e =
    let p = given_some (one (head o)) _ es (sym (rule_is t n insertion o) ∙ e) in
    by_test p.0 (named cast_name p.0.name) _ (ap (named cast_name) (one_name (head o).name (head o).operands (head o).results p.0 p.1) ∙ c) p.2
  where
    from_back : (p q : One) → back_from t n insertion o p q ≡ Some es → (v : Value) × (es ≡ give (head o).id v)
    from_back p q e = (let w = when_some (is_of_type t p.ty q.first) (Some (give (head o).id q.first)) es e in let same : give (head o).id q.first ≡ es = cc in (q.first, sym same))

    from_unrealized : (p : One) (b : Bool) → cond b (Some (give (head o).id p.first)) (given (source t p.name p.first) (λ y. given (one y) (back_from t n insertion o p))) ≡ Some es → (v : Value) × (es ≡ give (head o).id v)
    from_unrealized p true e = (let same : give (head o).id p.first ≡ es = cc in (p.first, sym same))
    from_unrealized p false e =
        (let y = given_some (source t p.name p.first) _ es e in
        let q = given_some (one y.0) _ es y.2 in
        from_back p q.0 q.2)

    by_test : (p : One) (b : Bool) (r : Option (List Edit)) → b ≡ true → cond b (unrealized t n insertion o p) r ≡ Some es → (v : Value) × (es ≡ give (head o).id v)
    by_test p true r c e = from_unrealized p (is_of_type t p.ty p.first) e
    by_test p false r c e = absurd (true≢false (sym c))

-- a cast is in the module
pub cast_there : (x : ℕ) (t : Operation) → is_cast x t ≡ true → (o : Operation) × (find x t ≡ Some o) × (named cast_name (head o).name ≡ true)
cast_there x t e = go (find x t) refl e
  where
    go : (f : Option Operation) → find x t ≡ f → is_cast_found f ≡ true → (o : Operation) × (find x t ≡ Some o) × (named cast_name (head o).name ≡ true)
    go None g e = absurd (true≢false (sym e))
    go (Some o) g e = (o, g, e)

module _ (m n : Module) (x : ℕ) (root : eqb (head m.tree).id x ≡ false) (cast : is_cast x m.tree ≡ true) where
  there : has_id x m.tree ≡ true
  there = let o = cast_there x m.tree cast in (found_id x m.tree o.0 o.1).0

  unused_falls : unused_erased m x ≡ becomes n → op_count n.tree < op_count m.tree
  unused_falls e = go (is_unused x m.tree) e
    where
      go : (b : Bool) → cond b (becomes (edited (Erase x) m)) none ≡ becomes n → op_count n.tree < op_count m.tree
      go true e = subst (λ (q : Module). op_count q.tree < op_count m.tree) (becomes_is (edited (Erase x) m) n e) (falls_without x m.tree root there)
      go false e = absurd cc

  rule_falls : rewrite_of CastBack m x ≡ becomes n → op_count n.tree < op_count m.tree
  rule_falls e =
      let w = rewritten CastBack m n x e in
      let a = applies CastBack m x w.0 w.1 in
      let o = cast_there x m.tree cast in
      let same : o.0 ≡ a.here = (let two : Some o.0 ≡ Some a.here = sym o.1 ∙ a.found in cc) in
      let v = given_at m.tree m.next a.insertion a.here w.0 (ap (λ (z : Operation). named cast_name (head z).name) (sym same) ∙ o.2) a.is in
      let id = (found_id x m.tree a.here a.found).1 in
      let is : n ≡ all_edited (give x v.0) m = w.2 ∙ ap (λ es. all_edited es m) (v.1 ∙ ap (λ y. give y v.0) id) in
      subst (λ (q : Module). op_count q.tree < op_count m.tree) (sym is) (falls_replaced x (Result x 0) v.0 m.tree root there)

-- each erased cast makes the module smaller
pub falls_collapse : (m n : Module) (x : ℕ) → collapse m x ≡ becomes n → op_count n.tree < op_count m.tree
falls_collapse m n x e = go (is_cast x m.tree && not (eqb (head m.tree).id x)) refl e
  where
    not_is : (b : Bool) → not b ≡ true → b ≡ false
    not_is true h = sym h
    not_is false h = refl

    either_falls : (a b : Rewrite) → (a ≡ becomes n → op_count n.tree < op_count m.tree) → (b ≡ becomes n → op_count n.tree < op_count m.tree) → rewrite_or a b ≡ becomes n → op_count n.tree < op_count m.tree
    either_falls none b f g e = g e
    either_falls (refused r) b f g e = absurd cc
    either_falls (becomes p) b f g e = f e

    go : (b : Bool) → (is_cast x m.tree && not (eqb (head m.tree).id x)) ≡ b → cond b (rewrite_or (unused_erased m x) (rewrite_of CastBack m x)) none ≡ becomes n → op_count n.tree < op_count m.tree
    go true f e =
        (let c = both (is_cast x m.tree) (not (eqb (head m.tree).id x)) f in
        let root = not_is (eqb (head m.tree).id x) c.1 in
        either_falls (unused_erased m x) (rewrite_of CastBack m x) (unused_falls m n x root c.0) (rule_falls m n x root c.0) e)
    go false f e = absurd cc
