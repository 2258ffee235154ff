-- The results of an operation are replaced, one after another, by values that dominate it, and the operation is
-- erased.
use Rattle.std.proofs.Common.{◌≡◌, refl, ap, sym, ◌∙◌, ℕ, ◌+◌, ◌<◌, Bool, true, false, ◌&&◌, List, [], ◌∷◌, ◌++◌, length, Option, Some, None, option_map, arith, eqb, eqb-true, append_assoc, append-nil, length-append}
use Rattle.std.specs.Prelude.{is_some, nat_lt, option_and_then, slice_get}
use Rattle.std.specs.Option.{option_eq}
use Rattle.std.proofs.lemmas.Bool.{ltb-true, ltb-false}
use Rattle.ir_event.specs.types.Words.{is_isolated}
use Rattle.ir_event.specs.types.Terms.{TypeTerm, AttrTerm}
use Rattle.ir_event.specs.types.SameTypes.{same_type}
use Rattle.ir_event.specs.trees.declared.value.Value.{Value}
use Rattle.ir_event.specs.trees.declared.value.Value.TheVariants.{Result}
use Rattle.ir_event.specs.trees.declared.place.Place.{Place}
use Rattle.ir_event.specs.trees.Tree.{op, RegionsOf, no_regions, region, empty, block, head}
use Rattle.ir_event.specs.trees.Ids.{find}
use Rattle.ir_event.specs.trees.Frames.{owner_of}
use Rattle.ir_event.specs.trees.Edits.{each_head, put_values, regions_each_head, with_value_replaced}
use Rattle.ir_event.specs.trees.Uses.{same_value, uses_of}
use Rattle.ir_event.specs.trees.Meaning.{Operation}
use Rattle.ir_event.proofs.of_trees.Heads.{head_find}
use Rattle.ir_event.proofs.of_trees.Replaced.{old_unused, others_stay}
use Rattle.ir_event.specs.store.Nodes.{regions_arguments}
use Rattle.ir_event.specs.tree_laws.Values.{type_of_value}
use Rattle.ir_event.specs.Modules.{Module}
use Rattle.ir_event.proofs.Typed.{typed, typed_value, types_of}
use Rattle.rewriter_machine.specs.Contents.{Edit, edited}
use Rattle.rewriter_machine.specs.Edits.{Erase, Replace}
use Rattle.patterns_base.specs.Lists.{Free}
use Rattle.patterns_base.proofs.Given.{users_see_it}
use Rattle.patterns_base.proofs.Headed as headed
use Rattle.patterns_base.proofs.Plans as plans
use Rattle.patterns_base.proofs.Plans.{StandsAt, dominated_by}
use Rattle.patterns_soundness.specs.base.Makes.{replacing, results_from}
use Rattle.ir_event.proofs.of_tree_laws.Reverted.{passed}

-- types stay the same if a value is replaced
module _ (old new : Value) where
  same_arguments : (rs : RegionsOf (List ℕ) TypeTerm AttrTerm) → regions_arguments (regions_each_head (put_values old new) rs) ≡ regions_arguments rs
  same_arguments no_regions = refl
  same_arguments (region empty rs) = ap (λ l. None ∷ l) (same_arguments rs)
  same_arguments (region (block args os) rs) = ap (λ l. Some args ∷ l) (same_arguments rs)

  pub type_kept : (t : Operation) (v : Value) → type_of_value v (with_value_replaced old new t) ≡ type_of_value v t
  type_kept t v =
      typed_value v (with_value_replaced old new t)
      ∙ ap (λ o. option_and_then (typed v) (option_map types_of o)) (head_find (put_values old new) (λ h. record { id = refl; name = refl; results = refl }) (owner_of v).0 t)
      ∙ ap (option_and_then (typed v)) (go (find (owner_of v).0 t))
      ∙ sym (typed_value v t)
    where
      go : (f : Option Operation) → option_map types_of (option_map (each_head (put_values old new)) f) ≡ option_map types_of f
      go None = refl
      go (Some (op h rs)) = ap (λ l. Some (h.results, l)) (same_arguments rs)

-- lists
slice_at : {X : Type 0} (done : List X) (x : X) (xs : List X) → slice_get (done ++ x ∷ xs) (length done) ≡ Some x
slice_at [] x xs = refl
slice_at (y ∷ done) x xs = slice_at done x xs

no_both : (a b : Bool) → b ≡ false → a && b ≡ false
no_both true b e = e
no_both false b e = refl

other_number : (x j n : ℕ) → eqb j n ≡ false → same_value (Result x j) (Result x n) ≡ false
other_number x j n e = no_both (eqb x x) (eqb j n) e

module _ (x : ℕ) (insertion : Place) where
  -- values that dominate x, one of each of some types
  abbrev pub AreGiven : List Value → List TypeTerm → Module → Type 0
  AreGiven [] [] m = Unit {0}
  AreGiven (v ∷ vs) (ty ∷ tys) m = ((dominated_by x v m ≡ true) × ((u : TypeTerm) × (type_of_value v m.tree ≡ Some u) × (same_type ty u ≡ true))) × AreGiven vs tys m
  AreGiven _ _ m = ⊥

  module _ (m : Module) (s : StandsAt x insertion m) (v : Value) (seen : dominated_by x v m ≡ true) (n : ℕ) where
    given_still : (vs : List Value) (tys : List TypeTerm) → AreGiven vs tys m → AreGiven vs tys (edited (Replace (Result x n) v) m)
    given_still [] [] g = tt
    given_still (w ∷ vs) (ty ∷ tys) g =
        ((headed.replaced_dominated_by is_isolated x insertion m s v seen n w ∙ g.0.0, (g.0.1.0, type_kept (Result x n) v m.tree w ∙ g.0.1.1, g.0.1.2)), given_still vs tys g.1)
    given_still [] (ty ∷ tys) g = absurd g
    given_still (w ∷ vs) [] g = absurd g

    after : StandsAt x insertion (edited (Replace (Result x n) v) m)
    after = headed.replaced_located is_isolated x insertion m s v seen n

    same_results : (o : Operation) → (head (each_head (put_values (Result x n) v) o)).results ≡ (head o).results
    same_results (op h rs) = refl

    results_still : (head after.at.here).results ≡ (head s.at.here).results
    unfolding after
    results_still = same_results s.at.here

    unused_still : ((j : ℕ) → j < n → uses_of (Result x j) m.tree ≡ []) → (j : ℕ) → j < n + 1 → uses_of (Result x j) (with_value_replaced (Result x n) v m.tree) ≡ []
    unused_still unused j l = go (eqb j n) refl (nat_lt j n) refl
      where
        go : (b : Bool) → eqb j n ≡ b → (c : Bool) → nat_lt j n ≡ c → uses_of (Result x j) (with_value_replaced (Result x n) v m.tree) ≡ []
        go b e true f =
            let less = ltb-true j n f in
            others_stay (Result x n) v (Result x j) (other_number x j n (not_same less)) (headed.differs is_isolated x insertion m s v seen j) m.tree ∙ unused j less
          where
            not_same : j < n → eqb j n ≡ false
            not_same less = elim (eqb j n) as (λ z. eqb j n ≡ z → eqb j n ≡ false) [ false ↦ λ i. i | true ↦ λ i. (let same = eqb-true j n i in absurd (omega (arith, same, less))) ] refl
        go b e false f =
            let more = ltb-false j n f in
            let same : j ≡ n = omega (arith, l, more) in
            ap (λ z. uses_of (Result x z) (with_value_replaced (Result x n) v m.tree)) same ∙ old_unused (Result x n) v (headed.differs is_isolated x insertion m s v seen n) m.tree

    module _ (done : List TypeTerm) (ty : TypeTerm) (tys : List TypeTerm) (is : (head s.at.here).results ≡ done ++ ty ∷ tys) (at : n ≡ length done) (u : TypeTerm) (of : type_of_value v m.tree ≡ Some u) (same : same_type ty u ≡ true) where
      result_type : type_of_value (Result x n) m.tree ≡ Some ty
      result_type = ap (option_and_then (λ o. slice_get (head o).results n)) (headed.found_there is_isolated x insertion m s) ∙ (λ i. slice_get (is i) (at i)) ∙ slice_at done ty tys

      replace_free : (es : List Edit) → Free es (edited (Replace (Result x n) v) m) → Free (Replace (Result x n) v ∷ es) m
      replace_free es rest = (
        passed _ _ _ (ap is_some result_type)
            (passed _ _ _ (ap is_some of)
            (passed _ _ _ ((λ i. option_eq same_type (result_type i) (of i)) ∙ same)
            (passed _ _ _ (users_see_it is_isolated m.tree s.wellformed.distinct s.wellformed.wellformed.visible x n v seen) refl))),
        rest,
      )

  -- the results from a number on are replaced, if the earlier ones aren't used
  pub results_free : (vs : List Value) (tys done : List TypeTerm) (m : Module) (s : StandsAt x insertion m) → (head s.at.here).results ≡ done ++ tys → AreGiven vs tys m → (n : ℕ) → n ≡ length done → ((j : ℕ) → j < n → uses_of (Result x j) m.tree ≡ [])
      → Free (replacing (results_from x n vs) vs ++ Erase x ∷ []) m
  results_free [] [] done m s is g n at unused =
      (plans.erase_free x insertion m s (λ j l. unused j (let e = ap length (is ∙ append-nil done) in omega (arith, e, l, at))), tt)
  results_free (v ∷ vs) (ty ∷ tys) done m s is g n at unused =
      replace_free m s v g.0.0 n done ty tys is at g.0.1.0 g.0.1.1 g.0.1.2 (replacing (results_from x (n + 1) vs) vs ++ Erase x ∷ [])
      (results_free vs tys (done ++ ty ∷ []) (edited (Replace (Result x n) v) m) (after m s v g.0.0 n) (results_still m s v g.0.0 n ∙ is ∙ sym (append_assoc done (ty ∷ []) tys)) (given_still m s v g.0.0 n vs tys g.1) (n + 1)
      (let e = length-append done (ty ∷ []) in omega (arith, e, at)) (unused_still m s v g.0.0 n unused))
  results_free [] (ty ∷ tys) done m s is g n at unused = absurd g
  results_free (v ∷ vs) [] done m s is g n at unused = absurd g
