-- A property of each operation of a tree.
use Rattle.std.proofs.Common.{◌≡◌, ℕ, zero, suc, ◌+◌, ◌<◌, refl, ap, sym, ◌∙◌, subst, Bool, true, false, true≢false, eqb, eqb-true, Option, Some, None, List, slice_get, ◌⊎◌, inl, inr, arith}
use Rattle.std.specs.Prelude.{is_some, option_and_then, if◌then◌else◌}
use Rattle.std.proofs.lemmas.Option.{none-some, same_Some}
use Rattle.ir_types.specs.Terms.{TypeTerm, AttrTerm}
use Rattle.ir_tree.specs.declared.value.Value.{Value}
use Rattle.ir_tree.specs.declared.value.Value.TheVariants.{Result, Arg}
use Rattle.ir_tree.specs.Tree.{RegionsOf, RegionOf, OpsOf, op, no_regions, region, empty, block, no_ops, next, head}
use Rattle.ir_tree.specs.Ids.{find, regions_find, region_find, ops_find, first_of}
use Rattle.ir_tree.specs.Meaning.{Operation}
use Rattle.ir_tree_laws.specs.Values.{arguments_at, arguments_of, has_value, region_at, type_of_value}
use Rattle.user_patterns_data.specs.Matching.{Header}
use Rattle.patterns_refinement.specs.Meaning.{AreOfTypes, Assignment, BlocksAmong, BlocksInRegion, BlocksInRegions, Each, EachAmong, EachBlock, EachInRegion, EachInRegions, FitsAll, FitsDone, IsOfType, is_arithmetic, owner, Obeys}
use Rattle.patterns_refinement.specs.Applied.{IsBelow}

first_cases : (a b : Option Operation) (o : Operation) → first_of a b ≡ Some o → (a ≡ Some o) ⊎ (b ≡ Some o)
first_cases None b o e = inr e
first_cases (Some p) b o e = inl e

here_cases : (c : Bool) (p : Operation) (r : Option Operation) (o : Operation) → (if c then Some p else r) ≡ Some o → ((c ≡ true) × (p ≡ o)) ⊎ (r ≡ Some o)
here_cases true p r o e = inl (refl, same_Some _ _ e)
here_cases false p r o e = inr e

module _ (P : Header → Type 0) (x : ℕ) where
  abbrev IsIt : Operation → Type 0
  IsIt o = P (head o) × ((head o).id ≡ x)

  mutual
    -- the property of an operation that is found
    pub each_found : (t : Operation) → Each P t → (o : Operation) → find x t ≡ Some o → P (head o) × ((head o).id ≡ x)
    each_found (op h rs) s o e = elim (here_cases (eqb h.id x) (op h rs) (regions_find x rs) o e) [
      | inl i ↦ subst IsIt i.1 (s.0, eqb-true h.id x i.0)
      | inr i ↦ regions_found rs s.1 o i
    ]

    regions_found : (rs : RegionsOf (List ℕ) TypeTerm AttrTerm) → EachInRegions P rs → (o : Operation) → regions_find x rs ≡ Some o → P (head o) × ((head o).id ≡ x)
    regions_found no_regions s o e = absurd (none-some o e)
    regions_found (region g rs) s o e = elim (first_cases (region_find x g) (regions_find x rs) o e) [ inl i ↦ region_found g s.0 o i | inr i ↦ regions_found rs s.1 o i ]

    region_found : (g : RegionOf (List ℕ) TypeTerm AttrTerm) → EachInRegion P g → (o : Operation) → region_find x g ≡ Some o → P (head o) × ((head o).id ≡ x)
    region_found empty s o e = absurd (none-some o e)
    region_found (block args os) s o e = ops_found os s o e

    ops_found : (os : OpsOf (List ℕ) TypeTerm AttrTerm) → EachAmong P os → (o : Operation) → ops_find x os ≡ Some o → P (head o) × ((head o).id ≡ x)
    ops_found no_ops s o e = absurd (none-some o e)
    ops_found (next p os) s o e = elim (first_cases (find x p) (ops_find x os) o e) [ inl i ↦ each_found p s.0 o i | inr i ↦ ops_found os s.1 o i ]

-- operations that are found fit
abbrev pub FoundFit : Assignment → (ℕ → Bool) → Operation → Type 0
FoundFit a done t = (x : ℕ) (o : Operation) → find x t ≡ Some o → done x ≡ true → is_arithmetic (head o) ≡ true → Obeys a x (head o)

pub found_fit : (a : Assignment) (done : ℕ → Bool) (t : Operation) → FitsAll a done t → FoundFit a done t
found_fit a done t fits x o e c h =
    let f = each_found (FitsDone a done) x t fits o e in
    subst (λ y. Obeys a y (head o)) f.1 (f.0 (ap done f.1 ∙ c) h)

-- a value of a tree is one of an operation below its bound
pub value_below : (n : ℕ) (t : Operation) → IsBelow n t → (v : Value) → has_value v t ≡ true → owner v < n
value_below n t below (Result x k) h = go (find x t) refl h
  where
    go : (o : Option Operation) → find x t ≡ o → is_some (option_and_then (λ (o : Operation). slice_get (head o).results k) o) ≡ true → x < n
    go None e h = absurd (true≢false (sym h))
    go (Some o) e h = let f = each_found (λ h. h.id < n) x t below o e in subst (λ y. y < n) f.1 f.0
value_below n t below (Arg x r k) h = go (find x t) refl h
  where
    go : (o : Option Operation) → find x t ≡ o → is_some (option_and_then (λ (o : Operation). option_and_then (λ args. slice_get args k) (arguments_at r o)) o) ≡ true → x < n
    go None e h = absurd (true≢false (sym h))
    go (Some o) e h = let f = each_found (λ h. h.id < n) x t below o e in subst (λ y. y < n) f.1 f.0

-- ---- blocks
module _ (Q : ℕ → ℕ → List TypeTerm → Type 0) (x : ℕ) where
  mutual
    -- a property of all blocks is a property of the blocks of an operation that is found
    blocks_found : (t : Operation) → EachBlock Q t → (o : Operation) → find x t ≡ Some o → EachBlock Q o
    blocks_found (op h rs) s o e = elim (here_cases (eqb h.id x) (op h rs) (regions_find x rs) o e) [
      | inl i ↦ subst (EachBlock Q) i.1 s
      | inr i ↦ regions_blocks h.id 0 rs s o i
    ]

    regions_blocks : (y r : ℕ) (rs : RegionsOf (List ℕ) TypeTerm AttrTerm) → BlocksInRegions Q y r rs → (o : Operation) → regions_find x rs ≡ Some o → EachBlock Q o
    regions_blocks y r no_regions s o e = absurd (none-some o e)
    regions_blocks y r (region g rs) s o e = elim (first_cases (region_find x g) (regions_find x rs) o e) [ inl i ↦ region_blocks y r g s.0 o i | inr i ↦ regions_blocks y (r + 1) rs s.1 o i ]

    region_blocks : (y r : ℕ) (g : RegionOf (List ℕ) TypeTerm AttrTerm) → BlocksInRegion Q y r g → (o : Operation) → region_find x g ≡ Some o → EachBlock Q o
    region_blocks y r empty s o e = absurd (none-some o e)
    region_blocks y r (block args os) s o e = ops_blocks os s.1 o e

    ops_blocks : (os : OpsOf (List ℕ) TypeTerm AttrTerm) → BlocksAmong Q os → (o : Operation) → ops_find x os ≡ Some o → EachBlock Q o
    ops_blocks no_ops s o e = absurd (none-some o e)
    ops_blocks (next p os) s o e = elim (first_cases (find x p) (ops_find x os) o e) [ inl i ↦ blocks_found p s.0 o i | inr i ↦ ops_blocks os s.1 o i ]

  own_block : (y r : ℕ) (rs : RegionsOf (List ℕ) TypeTerm AttrTerm) → BlocksInRegions Q y r rs → (k : ℕ) (args : List TypeTerm) (os : OpsOf (List ℕ) TypeTerm AttrTerm) → region_at k rs ≡ Some (block args os) → Q y (r + k) args
  own_block y r no_regions s zero args os e = absurd (none_region e)
    where
      none_region : None ≡ Some (block args os) → ⊥
      none_region e = none-some (block args os) e
  own_block y r no_regions s (suc k) args os e = absurd (none_region e)
    where
      none_region : None ≡ Some (block args os) → ⊥
      none_region e = none-some (block args os) e
  own_block y r (region g rs) s zero args os e = let q = subst (λ g. BlocksInRegion Q y r g) (region_is g e) s.0 in subst (λ j. Q y j args) (same r) q.0
    where
      region_is : (g : RegionOf (List ℕ) TypeTerm AttrTerm) → Some g ≡ Some (block args os) → g ≡ block args os
      region_is g e = cc

      same : (r : ℕ) → r ≡ r + 0
      same r = omega arith
  own_block y r (region g rs) s (suc k) args os e = subst (λ j. Q y j args) (same r k) (own_block y (r + 1) rs s.1 k args os e)
    where
      same : (r k : ℕ) → r + 1 + k ≡ r + suc k
      same r k = omega arith

-- ---- types
-- a property of each result and each argument, with its type, is a property of each value
module _ (P : Value → TypeTerm → Type 0) where
  abbrev pub ResultsAre : Header → Type 0
  ResultsAre h = (k : ℕ) (ty : TypeTerm) → slice_get h.results k ≡ Some ty → P (Result h.id k) ty

  abbrev pub ArgumentsAre : ℕ → ℕ → List TypeTerm → Type 0
  ArgumentsAre y r args = (k : ℕ) (ty : TypeTerm) → slice_get args k ≡ Some ty → P (Arg y r k) ty

  pub typed_found : (t : Operation) → Each ResultsAre t → EachBlock ArgumentsAre t → (v : Value) (ty : TypeTerm) → type_of_value v t ≡ Some ty → P v ty
  typed_found t s b (Result x k) ty e = go (find x t) refl e
    where
      go : (o : Option Operation) → find x t ≡ o → option_and_then (λ (o : Operation). slice_get (head o).results k) o ≡ Some ty → P (Result x k) ty
      go None i e = absurd (none-some ty e)
      go (Some o) i e = let f = each_found ResultsAre x t s o i in subst (λ y. P (Result y k) ty) f.1 (f.0 k ty e)
  typed_found t s b (Arg x r k) ty e = go (find x t) refl e
    where
      at_region : (y : ℕ) (rs : RegionsOf (List ℕ) TypeTerm AttrTerm) → BlocksInRegions ArgumentsAre y 0 rs → (g : Option (RegionOf (List ℕ) TypeTerm AttrTerm)) → region_at r rs ≡ g
          → option_and_then (λ args. slice_get args k) (option_and_then arguments_of g) ≡ Some ty → P (Arg y r k) ty
      at_region y rs q None i e = absurd (none-some ty e)
      at_region y rs q (Some empty) i e = absurd (none-some ty e)
      at_region y rs q (Some (block args os)) i e = subst (λ j. P (Arg y j k) ty) (same r) (own_block ArgumentsAre x y 0 rs q r args os i k ty e)
        where
          same : (r : ℕ) → 0 + r ≡ r
          same r = omega arith

      at_op : (o : Operation) → EachBlock ArgumentsAre o → option_and_then (λ args. slice_get args k) (arguments_at r o) ≡ Some ty → P (Arg (head o).id r k) ty
      at_op (op h rs) q e = at_region h.id rs q (region_at r rs) refl e

      go : (o : Option Operation) → find x t ≡ o → option_and_then (λ (o : Operation). option_and_then (λ args. slice_get args k) (arguments_at r o)) o ≡ Some ty → P (Arg x r k) ty
      go None i e = absurd (none-some ty e)
      go (Some o) i e =
          let f = each_found ResultsAre x t s o i in
          subst (λ y. P (Arg y r k) ty) f.1 (at_op o (blocks_found ArgumentsAre x t b o i) e)

-- the outcomes of values that are found are of their types
abbrev pub TypesFound : Assignment → Operation → Type 0
TypesFound a t = (v : Value) (ty : TypeTerm) → type_of_value v t ≡ Some ty → IsOfType ty (a v)

pub types_found : (a : Assignment) (t : Operation) → AreOfTypes a t → TypesFound a t
types_found a t s = typed_found (λ v ty. IsOfType ty (a v)) t s.0 s.1
