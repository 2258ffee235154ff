-- Queries of a module give the results that the tree of terms defines.
use Rattle.std.proofs.Common.{◌≡◌, refl, ap, sym, ◌∙◌, ℕ, ◌+◌, ◌<◌, Bool, true, false, true≢false, ◌||◌, not, eqb, eqb-true, List, [], ◌∷◌, length, map, drop, Option, Some, None, option_map, zero, suc, inl, inr, arith}
use Rattle.std.specs.Prelude.{is_some, slice_get, option_and_then}
use Rattle.std.specs.List.{list_any}
use Rattle.std.specs.Option.{option_eq}
use Rattle.std.specs.Str.{bytes_eq}
use Rattle.ir_event.specs.types.Things.{ContextModel}
use Rattle.ir_event.specs.types.Terms.{TypeTerm, name_term, type_term, attr_term}
use Rattle.ir_event.specs.types.SameTypes.{same_type}
use Rattle.ir_event.specs.trees.declared.value.Value.{Value}
use Rattle.ir_event.specs.trees.declared.place.Place.{Place}
use Rattle.ir_event.specs.trees.Tree.{Op, op, head}
use Rattle.ir_event.specs.trees.Ids.{HasDistinctIds, find, has_id}
use Rattle.ir_event.specs.trees.Places.{place_of}
use Rattle.ir_event.specs.trees.Meaning.{meaning}
use Rattle.ir_event.proofs.of_trees.Mapped.{map_find}
use Rattle.ir_event.specs.tree_laws.Stands.{OpWithPathOf, place_in}
use Rattle.ir_event.specs.tree_laws.Values.{type_of_value}
use Rattle.ir_event.proofs.of_tree_laws.Around.{present_stand, member_of_place}
use Rattle.ir_event.proofs.of_tree_laws.Contents.{map_has_id, map_type_of_value}
use Rattle.ir_event.proofs.of_tree_laws.Listed.{bool_cases}
use Rattle.ir_event.proofs.of_tree_laws.Members.{stand, itself, stand_found, same_stand}
use Rattle.ir_event.proofs.of_tree_laws.Shift.{inner_of, inner_place}
use Rattle.ir_event.specs.store.Nodes.{Node, node_of}
use Rattle.ir_event.specs.Modules.{node_meaning}
use Rattle.patterns_base.specs.Looks.{is_of_type}
use Rattle.conversion_base.specs.Targets.{Aim, cast_name, is_legal, is_legal_found}
use Rattle.conversion_base.specs.Reconciling.{is_cast, is_cast_found}
use Rattle.conversion_base.proofs.Falls.{cast_there, found_id, map_length}
use Rattle.conversion_base.proofs.Shown.{found, meant}

-- ---- the root

module _ (x : ℕ) (t : Op) (d : HasDistinctIds t) (known : has_id x t ≡ true) where
  there : (o : Op) × (find x t ≡ Some o)
  there = (let s = present_stand [] t x known in (s.0.here, ap (λ z. find z t) (sym s.2) ∙ stand_found t d s.0 s.1))

  unplaced : place_of x t ≡ None → eqb (head t).id x ≡ true
  unplaced e = elim (bool_cases (eqb (head t).id x)) [
    | inl k ↦ k
    | inr k ↦ absurd (
        let i = inner_of x t there.0 there.1 k in
        let place : Option Place = None in
        let n : is_some (place_in (i.step_in ∷ i.path)) ≡ is_some place = ap is_some (sym (inner_place x t there.0 d i) ∙ e) in
        let m : true ≡ false = n in
        true≢false m)
  ]

  placed : (p : Place) → place_of x t ≡ Some p → eqb (head t).id x ≡ false
  placed p e = elim (bool_cases (eqb (head t).id x)) [
    | inr k ↦ k
    | inl k ↦ absurd (
        let w = member_of_place x p t e in
        let same : w.0 ≡ stand t [] = same_stand t d w.0 (stand t []) w.1 (itself [] t) (w.2 ∙ sym (eqb-true (head t).id x k)) in
        let n : None ≡ Some p = ap (λ (s : OpWithPathOf ℕ ℕ ℕ). place_in s.path) (sym same) ∙ w.3 in
        cc)
  ]

  pub root_is : (c : ContextModel) (r : Option Place) → r ≡ place_of x t → (b : Bool) → is_some r ≡ not b → b ≡ eqb (head (meaning c t)).id x
  root_is c r e b f = go r e b f ∙ ap (λ y. eqb y x) (sym (root_id t))
    where
      root_id : (o : Op) → (head (meaning c o)).id ≡ (head o).id
      root_id (op h rs) = refl

      is_it : (b : Bool) → true ≡ not b → b ≡ false
      is_it true f = f
      is_it false f = refl

      isnt_it : (b : Bool) → false ≡ not b → b ≡ true
      isnt_it true f = refl
      isnt_it false f = f

      go : (r : Option Place) → r ≡ place_of x t → (b : Bool) → is_some r ≡ not b → b ≡ eqb (head t).id x
      go None e b f = isnt_it b f ∙ sym (unplaced (sym e))
      go (Some p) e b f = is_it b f ∙ sym (placed p (sym e))

-- ---- casts

pub cast_none : (c : ContextModel) (x : ℕ) (t : Op) → None ≡ option_map node_of (find x t) → false ≡ is_cast x (meaning c t)
cast_none c x t e = go (find x t) e ∙ sym (ap is_cast_found (map_find (name_term c) (type_term c) (attr_term c) x t))
  where
    go : (o : Option Op) → None ≡ option_map node_of o → false ≡ is_cast_found (option_map (meaning c) o)
    go None e = refl
    go (Some o) e = absurd cc

pub cast_some : (c : ContextModel) (x : ℕ) (t : Op) (n : Node) → Some n ≡ option_map node_of (find x t) → (name : ℕ) → name ≡ n.head.name → (b : Bool) → b ≡ bytes_eq (name_term c name) cast_name → b ≡ is_cast x (meaning c t)
cast_some c x t n e name f b g =
    let w = found x t n e in
    g ∙ ap (λ k. bytes_eq (name_term c k) cast_name) (f ∙ ap (λ (k : Node). k.head.name) w.same) ∙ go w.here
    ∙ sym (ap is_cast_found (map_find (name_term c) (type_term c) (attr_term c) x t ∙ ap (option_map (meaning c)) w.is))
  where
    go : (o : Op) → bytes_eq (name_term c (node_of o).head.name) cast_name ≡ is_cast_found (Some (meaning c o))
    go (op h rs) = refl

pub cast_is_there : (c : ContextModel) (x : ℕ) (t : Op) (b : Bool) → b ≡ is_cast x (meaning c t) → b ≡ true → has_id x t ≡ true
cast_is_there c x t b e f =
    let o = cast_there x (meaning c t) (sym e ∙ f) in
    sym (map_has_id (name_term c) (type_term c) (attr_term c) x t) ∙ (found_id x (meaning c t) o.0 o.1).0

-- ---- types

pub of_type_some : (c : ContextModel) (t : Op) (v : Value) (ty : ℕ) (u : TypeTerm) → Some ty ≡ type_of_value v t → (b : Bool) → b ≡ same_type (type_term c ty) u → b ≡ is_of_type (meaning c t) u v
of_type_some c t v ty u e b f = f ∙ sym (ap (λ f. option_eq same_type f (Some u)) (map_type_of_value (name_term c) (type_term c) (attr_term c) v t ∙ ap (option_map (type_term c)) (sym e)))

pub of_type_none : (c : ContextModel) (t : Op) (v : Value) (u : TypeTerm) → None ≡ type_of_value v t → false ≡ is_of_type (meaning c t) u v
of_type_none c t v u e = sym (ap (λ f. option_eq same_type f (Some u)) (map_type_of_value (name_term c) (type_term c) (attr_term c) v t ∙ ap (option_map (type_term c)) (sym e)))

-- ---- arguments, region by region

drop_step : {X : Type 0} (p : Option X → Bool) (xs : List (Option X)) (k : ℕ) → k < length xs → list_any p (drop k xs) ≡ (p (option_and_then (λ a. a) (slice_get xs k)) || list_any p (drop (suc k) xs))
drop_step p [] k l = absurd (omega (arith, l))
drop_step p (None ∷ xs) zero l = refl
drop_step p (Some y ∷ xs) zero l = refl
drop_step p (x ∷ xs) (suc k) l = drop_step p xs k (omega (arith, l))

module _ {X Y : Type 0} (p : Option Y → Bool) (f : Option X → Option Y) (xs : List (Option X)) (k count : ℕ) (l : k < count) (is : count ≡ length xs) (so : list_any p (drop k (map f xs)) ≡ list_any p (map f xs)) (b : Bool)
    (e : b ≡ p (option_and_then (λ a. a) (slice_get (map f xs) k))) where
  step : list_any p (drop k (map f xs)) ≡ (b || list_any p (drop (suc k) (map f xs)))
  step = let n = map_length f xs in drop_step p (map f xs) k (omega (arith, l, is, n)) ∙ ap (λ d. d || list_any p (drop (suc k) (map f xs))) (sym e)

  pub any_here : b ≡ true → true ≡ list_any p (map f xs)
  any_here t = sym (ap (λ d. d || list_any p (drop (suc k) (map f xs))) t) ∙ sym step ∙ so

  pub any_next : b ≡ false → list_any p (drop (k + 1) (map f xs)) ≡ list_any p (map f xs)
  any_next t =
      let n : k + 1 ≡ suc k = omega arith in
      ap (λ j. list_any p (drop j (map f xs))) n ∙ sym (ap (λ d. d || list_any p (drop (suc k) (map f xs))) t) ∙ sym step ∙ so

-- ---- legal operations

pub legal_none : (g : Aim) (c : ContextModel) (x : ℕ) (t : Op) → None ≡ option_map node_of (find x t) → false ≡ is_legal g x (meaning c t)
legal_none g c x t e = sym (ap (is_legal_found g (meaning c t)) (meant c x t ∙ ap (option_map _) (sym e)))

pub legal_some : (g : Aim) (c : ContextModel) (x : ℕ) (t : Op) (n : Node) → Some n ≡ option_map node_of (find x t) → is_legal_found g (meaning c t) (option_map (node_meaning c) (Some n)) ≡ is_legal g x (meaning c t)
legal_some g c x t n e = sym (ap (is_legal_found g (meaning c t)) (meant c x t ∙ ap (option_map (node_meaning c)) (sym e)))
