-- An operation comes after the operations whose results dominate it.
use Rattle.std.proofs.Common.{◌≡◌, refl, ap, sym, ◌∙◌, subst, ℕ, zero, suc, ◌+◌, Bool, true, false, true≢false, cond, not, ◌||◌, eqb, eqb-true, eq-eqb, List, [], ◌∷◌, ◌++◌, length, Some, inl, inr}
use Rattle.std.specs.Prelude.{nat_lt}
use Rattle.std.specs.List.{list_any, IsDistinct}
use Rattle.std.proofs.lemmas.Map.Keys.{IsDistinct-tail}
use Rattle.ir_event.specs.trees.declared.value.Value.TheVariants.{Result}
use Rattle.ir_event.specs.trees.Tree.{OpOf, op, RegionsOf, no_regions, region, RegionOf, OpsOf, next, block, head, regions}
use Rattle.ir_event.specs.trees.Ids.{ids, ops_ids, region_ids, regions_ids, HasDistinctIds}
use Rattle.ir_event.specs.trees.Sites.{shows, results_of}
use Rattle.ir_event.specs.tree_laws.Reads.{comes_after, precedes}
use Rattle.ir_event.specs.tree_laws.Stands.{StepOf, stands, dominated_by}
use Rattle.ir_event.specs.tree_laws.Members.{In}
use Rattle.ir_event.specs.tree_laws.Values.{region_at}
use Rattle.ir_event.proofs.of_tree_laws.Listed.{bool_cases, both, either, one_any}
use Rattle.ir_event.proofs.of_tree_laws.Readings.{step}
use Rattle.ir_event.proofs.of_tree_laws.Members.{stand, joined_ops, within, ops_child}
use Rattle.ir_event.proofs.of_tree_laws.Put.{child}
use Rattle.ir_event.proofs.of_tree_laws.Around.{around_there}
use Rattle.ir_event.proofs.of_tree_laws.Values.{shaped_as}
use Rattle.conversion.proofs.Following.{trailing, comes_later, first_once, regions_from, there, there_left, there_right}
use Rattle.patterns_base.proofs.Preceding.{joined_cut}
use Rattle.std.proofs.lemmas.Bool.{or_right}

-- ---- lists

-- the order of the entries of a list
after_there : (a b : ℕ) (xs : List ℕ) → comes_after a b xs ≡ true → there b xs ≡ true
after_there a b [] h = absurd (true≢false (sym h))
after_there a b (x ∷ xs) h = or_right (eqb x b) (there b xs) (go (eqb x a) h (after_there a b xs))
  where
    go : (c : Bool) → cond c (there b xs) (comes_after a b xs) ≡ true → (comes_after a b xs ≡ true → there b xs ≡ true) → there b xs ≡ true
    go true k f = k
    go false k f = f k

after_through : (a b c : ℕ) (xs : List ℕ) → IsDistinct eqb xs → comes_after a b xs ≡ true → comes_after b c xs ≡ true → comes_after a c xs ≡ true
after_through a b c [] d h k = absurd (true≢false (sym h))
after_through a b c (x ∷ xs) d h k = go (eqb x a) refl h (after_through a b c xs (IsDistinct-tail eqb x xs d))
  where
    later : (e : Bool) → cond e (there c xs) (comes_after b c xs) ≡ true → there c xs ≡ true
    later true l = l
    later false l = after_there b c xs l

    past : there b xs ≡ true → comes_after b c xs ≡ true
    past i = elim (bool_cases (eqb x b)) [
      | inl e ↦ absurd (first_once x b xs d i e)
      | inr e ↦ sym (ap (λ f. cond f (there c xs) (comes_after b c xs)) e) ∙ k
    ]

    go : (e : Bool) → eqb x a ≡ e → cond e (there b xs) (comes_after a b xs) ≡ true → (comes_after a b xs ≡ true → comes_after b c xs ≡ true → comes_after a c xs ≡ true) → cond (eqb x a) (there c xs) (comes_after a c xs) ≡ true
    go true f i rest = ap (λ e. cond e (there c xs) (comes_after a c xs)) f ∙ later (eqb x b) k
    go false f i rest = ap (λ e. cond e (there c xs) (comes_after a c xs)) f ∙ rest i (past (after_there a b xs i))

never_itself : (a : ℕ) (xs : List ℕ) → IsDistinct eqb xs → comes_after a a xs ≡ true → ⊥
never_itself a [] d h = true≢false (sym h)
never_itself a (x ∷ xs) d h = elim (bool_cases (eqb x a)) [
  | inl e ↦ first_once x a xs d (sym (ap (λ f. cond f (there a xs) (comes_after a a xs)) e) ∙ h) e
  | inr e ↦ never_itself a xs (IsDistinct-tail eqb x xs d) (sym (ap (λ f. cond f (there a xs) (comes_after a a xs)) e) ∙ h)
]

-- ---- trees

module _ {N T A : Type 0} where
  split : (f : OpOf N T A) (preceding : List (OpOf N T A)) → In f preceding → (pre : List (OpOf N T A)) × (post : List (OpOf N T A)) × (preceding ≡ pre ++ f ∷ post)
  split f [] h = absurd h
  split f (g ∷ preceding) (inl e) = ([], preceding, ap (λ z. z ∷ preceding) (sym e))
  split f (g ∷ preceding) (inr h) = let r = split f preceding h in (g ∷ r.0, r.1, ap (λ l. g ∷ l) r.2)

  own_there : (o : OpOf N T A) → there (head o).id (ids o) ≡ true
  own_there (op h rs) = ap (λ b. b || there h.id (regions_ids rs)) (eq-eqb h.id h.id refl)

  joined_there : (o : OpOf N T A) (post : List (OpOf N T A)) (rest : OpsOf N T A) → there (head o).id (ops_ids (joined_ops post (next o rest))) ≡ true
  joined_there o [] rest = there_left (head o).id (ids o) (ops_ids rest) (own_there o)
  joined_there o (g ∷ post) rest = there_right (head o).id (ids g) (ops_ids (joined_ops post (next o rest))) (joined_there o post rest)

  module _ (t : OpOf N T A) (d : HasDistinctIds t) where
    pub precedes_through : (a b c : ℕ) → precedes a b t ≡ true → precedes b c t ≡ true → precedes a c t ≡ true
    precedes_through a b c h k = after_through a b c (ids t) d h k

    pub never_both : (a b : ℕ) → precedes a b t ≡ true → precedes b a t ≡ true → ⊥
    never_both a b h k = never_itself a (ids t) d (precedes_through a b a h k)

    pub not_before_itself : (a : ℕ) → precedes a a t ≡ true → ⊥
    not_before_itself a h = never_itself a (ids t) d h

    -- the earlier operations of its block
    preceding_precedes : (o : OpOf N T A) (a : StepOf N T A) (q : List (StepOf N T A)) → In (stand o (a ∷ q)) (stands [] t) → (f : OpOf N T A) → In f a.preceding → precedes (head f).id (head o).id t ≡ true
    preceding_precedes o a q h f k =
        let s = split f a.preceding k in
        let rest = joined_ops s.1 (next o a.rest) in
        let u = stand f (step a.parent a.region a.args s.0 rest ∷ q) in
        let shaped = shaped_as t o a q h ∙ ap (λ l. Some (block a.args l)) (ap (λ l. joined_ops l (next o a.rest)) s.2 ∙ joined_cut s.0 s.1 f (next o a.rest)) in
        let there_it : In u (stands [] t) = within a.parent q u (child a.parent q a.region a.args (joined_ops s.0 (next f rest)) u shaped (ops_child a.parent q a.region a.args [] s.0 f rest)) [] t (around_there t o a q h).1 in
        comes_later t d u (head o).id there_it
        (there_right (head o).id (regions_ids (regions f)) (trailing u.path) (there_left (head o).id (ops_ids rest) (regions_ids (regions_from (a.region + 1) (regions a.parent)) ++ trailing q) (joined_there o s.1 a.rest)))

    -- the parent
    inside_regions : (x r : ℕ) (rs : RegionsOf N T A) (g : RegionOf N T A) → region_at r rs ≡ Some g → there x (region_ids g) ≡ true → there x (regions_ids rs) ≡ true
    inside_regions x r no_regions g e h = absurd cc
    inside_regions x zero (region g rs) k e h = (let same : g ≡ k = cc in there_left x (region_ids g) (regions_ids rs) (subst (λ v. there x (region_ids v) ≡ true) (sym same) h))
    inside_regions x (suc r) (region g rs) k e h = there_right x (region_ids g) (regions_ids rs) (inside_regions x r rs k e h)

    around_precedes : (o : OpOf N T A) (a : StepOf N T A) (q : List (StepOf N T A)) → In (stand o (a ∷ q)) (stands [] t) → precedes (head a.parent).id (head o).id t ≡ true
    around_precedes o a q h =
        let inside = inside_regions (head o).id a.region (regions a.parent) (block a.args (joined_ops a.preceding (next o a.rest))) (shaped_as t o a q h) (joined_there o a.preceding a.rest) in
        comes_later t d (stand a.parent q) (head o).id (around_there t o a q h).1 (there_left (head o).id (regions_ids (regions a.parent)) (trailing q) inside)

    -- the operations whose results are visible to it
    pub seen_precedes : (isolated : N → Bool) (path : List (StepOf N T A)) (o : OpOf N T A) → In (stand o path) (stands [] t) → (y k : ℕ) → dominated_by isolated path (Result y k) ≡ true → precedes y (head o).id t ≡ true
    seen_precedes isolated [] o h y k e = absurd (true≢false (sym e))
    seen_precedes isolated (a ∷ q) o h y k e = elim (either (list_any (λ f. shows (Result y k) (results_of f)) a.preceding) _ e) [
      | inl l ↦
          let w = one_any (λ f. shows (Result y k) (results_of f)) a.preceding l in
          let b = both (eqb y (head w.0).id) (nat_lt k (length (head w.0).results)) w.2 in
          subst (λ z. precedes z (head o).id t ≡ true) (sym (eqb-true y (head w.0).id b.0)) (preceding_precedes o a q h w.0 w.1)
      | inr l ↦
          let b = both (not (isolated (head a.parent).name)) (dominated_by isolated q (Result y k)) l in
          precedes_through y (head a.parent).id (head o).id (seen_precedes isolated q a.parent (around_there t o a q h).1 y k b.1) (around_precedes o a q h)
    ]
