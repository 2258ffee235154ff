-- Moving operations that say nothing of blocks keeps scopes and lexical labels; trees in this form have a flat tree.
use Rattle.std.proofs.Common.{◌≡◌, refl, ap, sym, ◌∙◌, ℕ, Bool, true, false, true≢false, cond, not, ◌&&◌, ◌||◌, eqb, List, [], ◌∷◌, Option, Some, None, inl, inr, ◌⊎◌}
use Rattle.std.specs.List.{list_any, list_all}
use Rattle.std.proofs.lemmas.Bool.{cases_Bool}
use Rattle.ir_tree.specs.declared.place.Place.{Place}
use Rattle.ir_tree.specs.Tree.{op, no_regions, region, empty, block, no_ops, next, head, regions}
use Rattle.ir_tree.specs.Ids.{first_of, find, regions_find, region_find, ops_find}
use Rattle.ir_tree.specs.Limits.{every, regions_every, region_every, ops_every}
use Rattle.ir_tree.specs.Meaning.{Operation}
use Rattle.ir_tree.specs.Places.{put, without, put_found, shifted}
use Rattle.ir_tree_laws.proofs.Listed.{both, both_hold, all_each, each_all, any_one, one_any}
use Rattle.ir_tree_blocks.specs.Scopes.{is_scope}
use Rattle.ir_tree_blocks.specs.Nesting.{Regions, Region, Ops}
use Rattle.ir_tree_blocks.specs.Form.{PlacedBlock, placed_blocks, all_regions, is_shaped, labels_differ, HasScopes, can_name, names_in_sight, is_lexical, HasLexicalLabels, names_blocks, has_flat}
use Rattle.ir_tree_blocks.specs.Simple.{is_plain, is_other_or_plain, is_plain_op}
use Rattle.ir_tree_blocks.proofs.Lists.{plain_scope, without_scopes, without_lexical, put_scopes, put_lexical}

first_cases : (a b : Option Operation) (o : Operation) → first_of a b ≡ Some o → (a ≡ Some o) ⊎ (b ≡ Some o)
first_cases None b o e = inr e
first_cases (Some a) b o e = inl e

-- an operation that is found passes what each operation passes
module _ (x : ℕ) (k : Operation → Bool) (o : Operation) where
  abbrev Passes : Type 0
  Passes = (eqb (head o).id x ≡ true) × (every k o ≡ true)

  here_passes : (t : Operation) → eqb (head t).id x ≡ true → every k t ≡ true → Some t ≡ Some o → Passes
  here_passes t e a s = let same : t ≡ o = cc in (ap (λ z. eqb (head z).id x) (sym same) ∙ e, ap (every k) (sym same) ∙ a)

  mutual
    found_passes : (t : Operation) → every k t ≡ true → find x t ≡ Some o → Passes
    found_passes (op h rs) a e =
        let b = both (k (op h rs)) (regions_every k rs) a in
        (elim (eqb h.id x) as (λ c. eqb h.id x ≡ c → cond c (Some (op h rs)) (regions_find x rs) ≡ Some o → Passes) [
          | true ↦ λ s e. here_passes (op h rs) s a e
          | false ↦ λ s e. regions_found rs b.1 e
        ]) refl e

    regions_found : (rs : Regions) → regions_every k rs ≡ true → regions_find x rs ≡ Some o → Passes
    regions_found no_regions a e = absurd cc
    regions_found (region g rs) a e =
        let b = both (region_every k g) (regions_every k rs) a in
        elim (first_cases (region_find x g) (regions_find x rs) o e) [ inl c ↦ region_found g b.0 c | inr c ↦ regions_found rs b.1 c ]

    region_found : (g : Region) → region_every k g ≡ true → region_find x g ≡ Some o → Passes
    region_found empty a e = absurd cc
    region_found (block args os) a e = ops_found os a e

    ops_found : (os : Ops) → ops_every k os ≡ true → ops_find x os ≡ Some o → Passes
    ops_found no_ops a e = absurd cc
    ops_found (next p os) a e =
        let b = both (every k p) (ops_every k os) a in
        elim (first_cases (find x p) (ops_find x os) o e) [ inl c ↦ found_passes p b.0 c | inr c ↦ ops_found os b.1 c ]

first_test : (k : Operation → Bool) (o : Operation) → every k o ≡ true → k o ≡ true
first_test k (op h rs) e = (both (k (op h rs)) (regions_every k rs) e).0

found_plain : (x : ℕ) (t o : Operation) → is_plain_op x t ≡ true → find x t ≡ Some o → is_plain (head o) ≡ true
found_plain x t o p e =
    let f = found_passes x (λ o. is_other_or_plain x (head o)) o t p e in
    sym (ap (λ b. not b || is_plain (head o)) f.0) ∙ first_test (λ o. is_other_or_plain x (head o)) o f.1

found_scopes : (x : ℕ) (t o : Operation) → is_plain_op x t ≡ true → HasScopes t → find x t ≡ Some o → HasScopes o
found_scopes x t o p s e = record {
  root = plain_scope (head o) (found_plain x t o p e);
  shaped = (found_passes x is_shaped o t s.shaped e).1;
  labels = (found_passes x (λ o. is_scope (head o) || all_regions labels_differ (regions o)) o t s.labels e).1;
}

pub shifted_scopes : (x : ℕ) (place : Place) (t : Operation) → is_plain_op x t ≡ true → HasScopes t → HasScopes (shifted x place t)
shifted_scopes x place t p s = go (find x t) refl
  where
    go : (f : Option Operation) → find x t ≡ f → HasScopes (put_found place f (without x t))
    go None e = without_scopes x t p s
    go (Some o) e = put_scopes place o (without x t) (found_plain x t o p e) (found_scopes x t o p s e) (without_scopes x t p s)

pub shifted_lexical : (x : ℕ) (place : Place) (t : Operation) → is_plain_op x t ≡ true → HasLexicalLabels t → HasLexicalLabels (shifted x place t)
shifted_lexical x place t p l = go (find x t) refl
  where
    go : (f : Option Operation) → find x t ≡ f → HasLexicalLabels (put_found place f (without x t))
    go None e = without_lexical x t p l
    go (Some o) e =
        put_lexical place o (without x t) (found_plain x t o p e) (found_passes x (λ o. is_scope (head o) || all_regions is_lexical (regions o)) o t l e).1 (without_lexical x t p l)

-- a test that follows from two others
module _ (p q k : Operation → Bool) (f : (o : Operation) → p o ≡ true → q o ≡ true → k o ≡ true) where
  mutual
    every_two : (t : Operation) → every p t ≡ true → every q t ≡ true → every k t ≡ true
    every_two (op h rs) a b =
        let c = both (p (op h rs)) (regions_every p rs) a in
        let d = both (q (op h rs)) (regions_every q rs) b in
        both_hold (k (op h rs)) (regions_every k rs) (f (op h rs) c.0 d.0) (regions_two rs c.1 d.1)

    regions_two : (rs : Regions) → regions_every p rs ≡ true → regions_every q rs ≡ true → regions_every k rs ≡ true
    regions_two no_regions a b = refl
    regions_two (region g rs) a b =
        let c = both (region_every p g) (regions_every p rs) a in
        let d = both (region_every q g) (regions_every q rs) b in
        both_hold (region_every k g) (regions_every k rs) (region_two g c.0 d.0) (regions_two rs c.1 d.1)

    region_two : (g : Region) → region_every p g ≡ true → region_every q g ≡ true → region_every k g ≡ true
    region_two empty a b = refl
    region_two (block args os) a b = ops_two os a b

    ops_two : (os : Ops) → ops_every p os ≡ true → ops_every q os ≡ true → ops_every k os ≡ true
    ops_two no_ops a b = refl
    ops_two (next o os) a b =
        let c = both (every p o) (ops_every p os) a in
        let d = both (every q o) (ops_every q os) b in
        both_hold (every k o) (ops_every k os) (every_two o c.0 d.0) (ops_two os c.1 d.1)

-- a label that is seen is a label of the region
names_all : (all : List PlacedBlock) (b : PlacedBlock) → names_in_sight all b ≡ true → names_blocks all b ≡ true
names_all all b e = each_all (λ l. list_any (λ (c : PlacedBlock). eqb c.label l) all) b.names (λ l h.
    let m = one_any (λ (c : PlacedBlock). eqb c.label l && can_name b c) all (all_each (λ l. list_any (λ (c : PlacedBlock). eqb c.label l && can_name b c) all) b.names e l h) in
    any_one (λ (c : PlacedBlock). eqb c.label l) all m.0 m.1 (both (eqb m.0.label l) (can_name b m.0) m.2).0)

abbrev flat_region_test : Region → Bool
flat_region_test g = labels_differ g && list_all (names_blocks (placed_blocks g)) (placed_blocks g)

region_flat : (g : Region) → labels_differ g ≡ true → is_lexical g ≡ true → flat_region_test g ≡ true
region_flat g d l =
    both_hold (labels_differ g) (list_all (names_blocks (placed_blocks g)) (placed_blocks g)) d
    (each_all (names_blocks (placed_blocks g)) (placed_blocks g) (λ b h. names_all (placed_blocks g) b (all_each (names_in_sight (placed_blocks g)) (placed_blocks g) l b h)))

regions_flat : (rs : Regions) → all_regions labels_differ rs ≡ true → all_regions is_lexical rs ≡ true → all_regions flat_region_test rs ≡ true
regions_flat no_regions d l = refl
regions_flat (region g rs) d l =
    let a = both (labels_differ g) (all_regions labels_differ rs) d in
    let b = both (is_lexical g) (all_regions is_lexical rs) l in
    both_hold (flat_region_test g) (all_regions flat_region_test rs) (region_flat g a.0 b.0) (regions_flat rs a.1 b.1)

op_flat : (c : Bool) (rs : Regions) → (c || all_regions labels_differ rs) ≡ true → (c || all_regions is_lexical rs) ≡ true → (c || all_regions flat_region_test rs) ≡ true
op_flat true rs d l = refl
op_flat false rs d l = regions_flat rs d l

pub form_has_flat : (t : Operation) → HasScopes t → HasLexicalLabels t → has_flat t ≡ true
form_has_flat t s l =
    every_two (λ o. is_scope (head o) || all_regions labels_differ (regions o)) (λ o. is_scope (head o) || all_regions is_lexical (regions o)) (λ o. is_scope (head o) || all_regions flat_region_test (regions o))
    (λ o a b. op_flat (is_scope (head o)) (regions o) a b) t s.labels l
