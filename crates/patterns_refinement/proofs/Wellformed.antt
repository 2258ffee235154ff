-- The properties of each operation of a well-formed module.
use Rattle.std.proofs.Common.{◌≡◌, ℕ, ◌+◌, ◌<◌, refl, sym, ◌∙◌, subst, Bool, true, true≢false, eqb, eqb-true, List, [], ◌∷◌, ◌++◌, inl, inr}
use Rattle.std.specs.List.{All, list_all, list_any}
use Rattle.std.proofs.lemmas.Bool.{or_cases}
use Rattle.std.proofs.lemmas.List.Elements.{All-head, All-tail}
use Rattle.ir_types.specs.Terms.{TypeTerm, AttrTerm}
use Rattle.ir_tree.specs.Tree.{RegionsOf, RegionOf, OpsOf, op, no_regions, region, empty, block, no_ops, next, head}
use Rattle.ir_tree.specs.Ids.{HasDistinctIds, ids}
use Rattle.ir_tree.specs.Sites.{operands_visible}
use Rattle.ir_tree.specs.Meaning.{Operation}
use Rattle.ir_tree_laws.specs.Members.{In}
use Rattle.ir_tree_laws.specs.Stands.{OpWithPathOf, StepOf, ops_stands, region_stands, regions_stands, dominated_by, op_with_path_id, stands}
use Rattle.ir_tree_laws.specs.Values.{has_value}
use Rattle.ir_tree_laws.proofs.Listed.{all_each, each_all, in_left, in_right}
use Rattle.ir_tree_laws.proofs.Around.{stand_present}
use Rattle.ir_tree_laws.proofs.DominatedBy.{stands_operands}
use Rattle.ir_tree_laws.proofs.Values.{seen_by}
use Rattle.user_patterns_data.specs.Matching.{Header}
use Rattle.patterns_refinement.specs.Meaning.{Each, EachAmong, EachInRegion, EachInRegions}
use Rattle.patterns_refinement.specs.Applied.{IsBelow}
use Rattle.patterns_refinement.specs.After.{OperandsStand}

abbrev OpWithPath : Type 0
OpWithPath = OpWithPathOf (List ℕ) TypeTerm AttrTerm

abbrev Step : Type 0
Step = StepOf (List ℕ) TypeTerm AttrTerm

-- ---- a property of all operations of the tree
module _ (P : Header → Type 0) where
  abbrev OfAll : List OpWithPath → Type 0
  OfAll ss = (s : OpWithPath) → In s ss → P (head s.here)

  mutual
    pub each_stands : (path : List Step) (t : Operation) → OfAll (stands path t) → Each P t
    each_stands path (op h rs) f = (f (record { here = op h rs; path = path }) (inl refl), regions_stand (op h rs) path 0 rs (λ s i. f s (inr i)))

    regions_stand : (p : Operation) (path : List Step) (r : ℕ) (rs : RegionsOf (List ℕ) TypeTerm AttrTerm) → OfAll (regions_stands p path r rs) → EachInRegions P rs
    regions_stand p path r no_regions f = tt
    regions_stand p path r (region g rs) f = (
      region_stand p path r g (λ s i. f s (in_left s (region_stands p path r g) (regions_stands p path (r + 1) rs) i)),
      regions_stand p path (r + 1) rs (λ s i. f s (in_right s (region_stands p path r g) (regions_stands p path (r + 1) rs) i)),
    )

    region_stand : (p : Operation) (path : List Step) (r : ℕ) (g : RegionOf (List ℕ) TypeTerm AttrTerm) → OfAll (region_stands p path r g) → EachInRegion P g
    region_stand p path r empty f = tt
    region_stand p path r (block args os) f = ops_stand p path r args [] os f

    ops_stand : (p : Operation) (path : List Step) (r : ℕ) (args : List TypeTerm) (preceding : List Operation) (os : OpsOf (List ℕ) TypeTerm AttrTerm) → OfAll (ops_stands p path r args preceding os) → EachAmong P os
    ops_stand p path r args preceding no_ops f = tt
    ops_stand p path r args preceding (next o os) f =
        let here = stands (record { parent = p; region = r; args = args; preceding = preceding; rest = os } ∷ path) o in
        let more = ops_stands p path r args (preceding ++ (o ∷ [])) os in (
          each_stands (record { parent = p; region = r; args = args; preceding = preceding; rest = os } ∷ path) o (λ s i. f s (in_left s here more i)),
          ops_stand p path r args (preceding ++ (o ∷ [])) os (λ s i. f s (in_right s here more i)),
        )

-- ---- ids
all_any : (P : ℕ → Type 0) (xs : List ℕ) → All P xs → (y : ℕ) → list_any (λ x. eqb x y) xs ≡ true → P y
all_any P [] a y e = absurd (true≢false (sym e))
all_any P (x ∷ xs) a y e = elim (or_cases (eqb x y) (list_any (λ x. eqb x y) xs) e) [
  | inl i ↦ subst P (eqb-true x y i) (All-head P x xs a)
  | inr i ↦ all_any P xs (All-tail P x xs a) y i
]

pub is_below : (n : ℕ) (t : Operation) → All (λ x. x < n) (ids t) → IsBelow n t
is_below n t a = each_stands (λ h. h.id < n) [] t (λ s i. all_any (λ x. x < n) (ids t) a (op_with_path_id s) (stand_present [] t s i))

-- ---- operands
pub operands_stand : (isolated : List ℕ → Bool) (t : Operation) → HasDistinctIds t → operands_visible isolated t ≡ true → OperandsStand t
operands_stand isolated t d e =
    each_stands (λ h. list_all (λ v. has_value v t) h.operands ≡ true) [] t
    (λ s i. each_all (λ v. has_value v t) (head s.here).operands (λ v j.
    let dominated_by_all = all_each (λ (z : OpWithPath). list_all (dominated_by isolated z.path) (head z.here).operands) (stands [] t) (sym (stands_operands isolated t) ∙ e) s i in
    (seen_by isolated t d s i v (all_each (dominated_by isolated s.path) (head s.here).operands dominated_by_all v j)).is))
