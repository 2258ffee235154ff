-- Outcomes that fit a module are determined by the outcomes of the values that it doesn't compute.
use Rattle.std.proofs.Common.{◌≡◌, ℕ, ◌+◌, refl, ap, sym, ◌∙◌, subst, List, [], ◌∷◌, ◌++◌, length, map, Bool, true, false, true≢false, ◌&&◌, ◌||◌, eqb, eqb-true, Option, Some, None, ◌⊎◌, inl, inr}
use Rattle.std.specs.Prelude.{◌==◌, if◌then◌else◌, nat_lt}
use Rattle.std.specs.List.{list_all, list_any}
use Rattle.std.proofs.lemmas.Bool.{and_parts, or_cases}
use Rattle.std.proofs.lemmas.Option.{same_Some}
use Rattle.ir_types.proofs.Truths.{all_parts}
use Rattle.ir_types.specs.Terms.{TypeTerm, AttrTerm}
use Rattle.ir_types.specs.Words.{is_isolated}
use Rattle.ir_tree.specs.declared.value.Value.{Value}
use Rattle.ir_tree.specs.declared.value.Value.TheVariants.{Arg, Result}
use Rattle.ir_tree.specs.Tree.{RegionsOf, RegionOf, OpsOf, op, no_regions, region, empty, block, no_ops, next, head}
use Rattle.ir_tree.specs.Ids.{find}
use Rattle.ir_tree.specs.Sites.{Frame, arguments, in_scope, inside, ops_sites, region_sites, regions_sites, results_of, dominated_by_operands, shows, sites}
use Rattle.ir_tree.specs.Meaning.{Operation}
use Rattle.user_patterns_data.specs.Matching.{Header}
use Rattle.patterns_refinement.specs.Meaning.{Assignment, Each, EachAmong, EachInRegion, EachInRegions, FitsDone, Obeys, breaks_flags, is_arithmetic, makes}
use Rattle.patterns_refinement.specs.Better.{is_arithmetic_there}
use Rattle.patterns_refinement.specs.Unique.{OutcomesAreUnique}
use Rattle.patterns_refinement.proofs.Edited.{each_both}
use Rattle.patterns_refinement.proofs.Settling.{each_by_found}
use Rattle.patterns_refinement.proofs.Showing.{at_root}
use Rattle.patterns_refinement.proofs.Trees.{each_found}

-- ---- lists
last_or : {A : Type 0} → (f : A → Bool) (xs : List A) (y : A) → list_any f (xs ++ (y ∷ [])) ≡ true → (list_any f xs ≡ true) ⊎ (f y ≡ true)
last_or f [] y e = elim (or_cases (f y) false e) [ inl i ↦ inr i | inr i ↦ absurd (true≢false (sym i)) ]
last_or f (x ∷ xs) y e = elim (or_cases (f x) (list_any f (xs ++ (y ∷ []))) e) [
  | inl i ↦ inl (ap (λ b. b || list_any f xs) i)
  | inr i ↦ more (last_or f xs y i)
]
  where
    or_true : (b : Bool) → (b || true) ≡ true
    or_true true = refl
    or_true false = refl

    more : (list_any f xs ≡ true) ⊎ (f y ≡ true) → (list_any f (x ∷ xs) ≡ true) ⊎ (f y ≡ true)
    more (inl j) = inl (ap (λ b. f x || b) j ∙ or_true (f x))
    more (inr j) = inr j

module _ (a b : Assignment) (done : ℕ → Bool) (isolated : List ℕ → Bool) (args : (x r k : ℕ) → a (Arg x r k) ≡ b (Arg x r k)) where
  -- values that aren't computed have the same outcomes
  abbrev Free : Header → Type 0
  Free h = (k : ℕ) → ((k == 0) && (done h.id && is_arithmetic h)) ≡ false → a (Result h.id k) ≡ b (Result h.id k)

  abbrev Both : Header → Type 0
  Both h = FitsDone a done h × FitsDone b done h

  abbrev Known : Header → Type 0
  Known h = Both h × Free h

  -- all results have the same outcomes
  abbrev Same : Header → Type 0
  Same h = (k : ℕ) → a (Result h.id k) ≡ b (Result h.id k)

  abbrev SameIn : List Frame → Type 0
  SameIn scope = (v : Value) → in_scope scope v ≡ true → a v ≡ b v

  operands_same : (scope : List Frame) → SameIn scope → (vs : List Value) → list_all (in_scope scope) vs ≡ true → map a vs ≡ map b vs
  operands_same scope same [] e = refl
  operands_same scope same (v ∷ vs) e =
      let p = and_parts (in_scope scope v) (list_all (in_scope scope) vs) e in
      λ i. same v p.0 i ∷ operands_same scope same vs p.1 i

  obey_alike : (x : ℕ) (h : Header) → map a h.operands ≡ map b h.operands → Obeys a x h → Obeys b x h → a (Result x 0) ≡ b (Result x 0)
  obey_alike x h same (inl f) (inl g) = same_Some (a (Result x 0)) (b (Result x 0)) (sym f.0 ∙ ap (makes h) same ∙ g.0)
  obey_alike x h same (inl f) (inr g) = absurd (true≢false (sym g.0 ∙ sym (ap (breaks_flags h) same) ∙ f.1))
  obey_alike x h same (inr f) (inl g) = absurd (true≢false (sym f.0 ∙ ap (breaks_flags h) same ∙ g.1))
  obey_alike x h same (inr f) (inr g) = f.2 ∙ sym g.2

  head_same : (scope : List Frame) (h : Header) → SameIn scope → list_all (in_scope scope) h.operands ≡ true → Known h → Same h
  head_same scope h same e p k = go ((k == 0) && (done h.id && is_arithmetic h)) refl
    where
      go : (c : Bool) → ((k == 0) && (done h.id && is_arithmetic h)) ≡ c → a (Result h.id k) ≡ b (Result h.id k)
      go false i = p.1 k i
      go true i =
          let q = and_parts (k == 0) (done h.id && is_arithmetic h) i in
          let r = and_parts (done h.id) (is_arithmetic h) q.1 in
          subst (λ k. a (Result h.id k) ≡ b (Result h.id k)) (sym (eqb-true k 0 q.0))
          (obey_alike h.id h (operands_same scope same h.operands e) (p.0.0 r.0 r.1) (p.0.1 r.0 r.1))

  -- ---- values that become visible
  inside_same : (scope : List Frame) (h : Header) → SameIn scope → SameIn (inside isolated h scope)
  inside_same scope h same = go (isolated h.name)
    where
      go : (c : Bool) → SameIn (if c then [] else scope)
      go true v e = absurd (true≢false (sym e))
      go false v e = same v e

  with_frame : (scope : List Frame) (f : Frame) → SameIn scope → ((v : Value) → shows v f ≡ true → a v ≡ b v) → SameIn (scope ++ (f ∷ []))
  with_frame scope f same more v e = elim (last_or (shows v) scope f e) [ inl i ↦ same v i | inr i ↦ more v i ]

  arguments_same : (x r n : ℕ) (v : Value) → shows v (arguments x r n) ≡ true → a v ≡ b v
  arguments_same x r n (Arg y s k) e = args y s k
  arguments_same x r n (Result y k) e = absurd (true≢false (sym e))

  results_same : (o : Operation) → Same (head o) → (v : Value) → shows v (results_of o) ≡ true → a v ≡ b v
  results_same o same (Arg y s k) e = absurd (true≢false (sym e))
  results_same o same (Result y k) e =
      let p = and_parts (eqb y (head o).id) (nat_lt k (length (head o).results)) e in
      subst (λ y. a (Result y k) ≡ b (Result y k)) (sym (eqb-true y (head o).id p.0)) (same k)

  -- ---- each operation of a tree
  mutual
    op_same : (scope : List Frame) (t : Operation) → SameIn scope → list_all dominated_by_operands (sites isolated scope t) ≡ true → Each Known t → Each Same t
    op_same scope (op h rs) same e s =
        let p = and_parts (list_all (in_scope scope) h.operands) (list_all dominated_by_operands (regions_sites isolated (inside isolated h scope) h.id 0 rs)) e in
        (head_same scope h same p.0 s.0, regions_same (inside isolated h scope) h.id 0 rs (inside_same scope h same) p.1 s.1)

    regions_same : (scope : List Frame) (x r : ℕ) (rs : RegionsOf (List ℕ) TypeTerm AttrTerm) → SameIn scope → list_all dominated_by_operands (regions_sites isolated scope x r rs) ≡ true → EachInRegions Known rs → EachInRegions Same rs
    regions_same scope x r no_regions same e s = tt
    regions_same scope x r (region g rs) same e s =
        let p = all_parts dominated_by_operands (region_sites isolated scope x r g) (regions_sites isolated scope x (r + 1) rs) e in
        (region_same scope x r g same p.0 s.0, regions_same scope x (r + 1) rs same p.1 s.1)

    region_same : (scope : List Frame) (x r : ℕ) (g : RegionOf (List ℕ) TypeTerm AttrTerm) → SameIn scope → list_all dominated_by_operands (region_sites isolated scope x r g) ≡ true → EachInRegion Known g → EachInRegion Same g
    region_same scope x r empty same e s = tt
    region_same scope x r (block args os) same e s =
        ops_same (scope ++ (arguments x r (length args) ∷ [])) os (with_frame scope (arguments x r (length args)) same (arguments_same x r (length args))) e s

    ops_same : (scope : List Frame) (os : OpsOf (List ℕ) TypeTerm AttrTerm) → SameIn scope → list_all dominated_by_operands (ops_sites isolated scope os) ≡ true → EachAmong Known os → EachAmong Same os
    ops_same scope no_ops same e s = tt
    ops_same scope (next o os) same e s =
        let p = all_parts dominated_by_operands (sites isolated scope o) (ops_sites isolated (scope ++ (results_of o ∷ [])) os) e in
        let here = op_same scope o same p.0 s.0 in
        (here, ops_same (scope ++ (results_of o ∷ [])) os (with_frame scope (results_of o) same (results_same o (at_root Same o here))) p.1 s.1)

pub outcomes_are_unique : OutcomesAreUnique
outcomes_are_unique m a b done wellformed of_a of_b inputs = all
  where
    free : Each (Free a b done is_isolated (λ x r k. inputs (Arg x r k) refl)) m.tree
    free =
        each_by_found (Free a b done is_isolated (λ x r k. inputs (Arg x r k) refl)) m.tree wellformed.distinct
        (λ o i k e. inputs (Result (head o).id k) (ap (λ q. (k == 0) && (done (head o).id && is_arithmetic_there q)) i ∙ e))

    each : Each (Same a b done is_isolated (λ x r k. inputs (Arg x r k) refl)) m.tree
    each =
        op_same a b done is_isolated (λ x r k. inputs (Arg x r k) refl) [] m.tree (λ v e. absurd (true≢false (sym e))) wellformed.wellformed.visible
        (each_both (Both a b done is_isolated (λ x r k. inputs (Arg x r k) refl)) (Free a b done is_isolated (λ x r k. inputs (Arg x r k) refl)) (Known a b done is_isolated (λ x r k. inputs (Arg x r k) refl)) (λ h p q. (p, q)) m.tree
        (each_both (FitsDone a done) (FitsDone b done) (Both a b done is_isolated (λ x r k. inputs (Arg x r k) refl)) (λ h p q. (p, q)) m.tree of_a of_b) free)

    all : (v : Value) → a v ≡ b v
    all (Arg x r k) = inputs (Arg x r k) refl
    all (Result x k) = go (find x m.tree) refl
      where
        go : (q : Option Operation) → find x m.tree ≡ q → a (Result x k) ≡ b (Result x k)
        go None i = inputs (Result x k) (ap (λ q. (k == 0) && (done x && is_arithmetic_there q)) i ∙ nothing (k == 0) (done x))
          where
            nothing : (c d : Bool) → (c && (d && false)) ≡ false
            nothing true true = refl
            nothing true false = refl
            nothing false d = refl
        go (Some o) i =
            let f = each_found (Same a b done is_isolated (λ x r k. inputs (Arg x r k) refl)) x m.tree each o i in
            subst (λ y. a (Result y k) ≡ b (Result y k)) f.1 (f.0 k)
