-- What the laws keep is refined, as an observer sees it.
use Rattle.std.proofs.Common.{◌≡◌, ℕ, ◌<◌, refl, ap, sym, ◌∙◌, subst, List, [], ◌∷◌, ◌++◌, map, Bool, true, false, true≢false, not, ◌⊎◌, inl, inr}
use Rattle.std.specs.Prelude.{if◌then◌else◌}
use Rattle.std.specs.List.{filter}
use Rattle.std.proofs.lemmas.Bool.{and_from, and_parts}
use Rattle.ir_types.proofs.Truths.{same_bool}
use Rattle.ir_types.specs.Terms.{TypeTerm, AttrTerm}
use Rattle.ir_tree.specs.declared.value.Value.{Value}
use Rattle.ir_tree.specs.Tree.{RegionsOf, RegionOf, OpsOf, op, no_regions, region, empty, block, no_ops, next, regions}
use Rattle.ir_tree.specs.Meaning.{Operation}
use Rattle.ir_tree_laws.proofs.Listed.{bool_cases}
use Rattle.ir_event.specs.Modules.{Module}
use Rattle.op_registry.specs.Registry.{own_of}
use Rattle.effects.specs.Dead.{is_kept, may_go}
use Rattle.effects.specs.Effects.{effects, effects_by, ops_effects, region_effects, regions_effects}
use Rattle.user_patterns_data.specs.Matching.{Header}
use Rattle.patterns_refinement.specs.Meaning.{Assignment, Each, EachAmong, EachInRegion, EachInRegions}
use Rattle.patterns_refinement.specs.Better.{AllBetter}
use Rattle.patterns_refinement.specs.Choices.{AllStill, AreOrigins, Origins, is_choice}
use Rattle.patterns_refinement.specs.Observing.{Follows, OpsFollow, RegionFollows, RegionsFollow, Shows, Stays, is_unmissed, shown_regions}
use Rattle.patterns_refinement.specs.Refining.{KeptIsRefined, ObservationsRefine, OperandsRefine, lasting, lasting_op, lasting_ops, lasting_region, observation, operand}
use Rattle.patterns_refinement.proofs.Follows.{by_goes, op_unmissed, union_goes, union_parts}
use Rattle.patterns_refinement.proofs.Origins.{origins_grown, origins_later}
use Rattle.patterns_refinement.proofs.Unmissed.{choice_unmissed}
use Rattle.patterns_refinement.proofs.Wellformed.{is_below}
use Rattle.patterns_refinement.proofs.Shown.{each_shown}
use Rattle.patterns_refinement.proofs.Showing.{inside}

abbrev Regions : Type 0
Regions = RegionsOf (List ℕ) TypeTerm AttrTerm

abbrev Region : Type 0
Region = RegionOf (List ℕ) TypeTerm AttrTerm

abbrev Ops : Type 0
Ops = OpsOf (List ℕ) TypeTerm AttrTerm

-- ---- heads, pair by pair
module _ (Q : Header → Header → Type 0) where
  abbrev Paired : List Header → List Header → Type 0
  Paired [] [] = Unit {0}
  Paired [] (k ∷ ks) = ⊥
  Paired (h ∷ hs) [] = ⊥
  Paired (h ∷ hs) (k ∷ ks) = Q h k × Paired hs ks

  paired_both : (hs ks gs ls : List Header) → Paired hs ks → Paired gs ls → Paired (hs ++ gs) (ks ++ ls)
  paired_both [] [] gs ls p q = q
  paired_both [] (k ∷ ks) gs ls p q = absurd p
  paired_both (h ∷ hs) [] gs ls p q = absurd p
  paired_both (h ∷ hs) (k ∷ ks) gs ls p q = (p.0, paired_both hs ks gs ls p.1 q)

  paired_if : (u v : Bool) (hs ks : List Header) → u ≡ v → Paired hs ks → Paired (if u then [] else hs) (if v then [] else ks)
  paired_if true true hs ks e p = tt
  paired_if true false hs ks e p = absurd (true≢false e)
  paired_if false true hs ks e p = absurd (true≢false (sym e))
  paired_if false false hs ks e p = p

-- ---- the second tree has the same observable operations
module _ (Q : Header → Header → Type 0) (named : (h k : Header) → Q h k → h.name ≡ k.name) where
  mutual
    regions_left : (rs qs : Regions) → RegionsFollow Q rs qs → may_go (regions_effects own_of rs) ≡ true → may_go (regions_effects own_of qs) ≡ true
    regions_left no_regions no_regions f e = e
    regions_left no_regions (region k qs) f e = absurd f
    regions_left (region g rs) no_regions f e = absurd f
    regions_left (region g rs) (region k qs) f e =
        let p = union_parts (region_effects own_of g) (regions_effects own_of rs) e in
        union_goes (region_effects own_of k) (regions_effects own_of qs) (region_left g k f.0 p.0) (regions_left rs qs f.1 p.1)

    region_left : (g k : Region) → RegionFollows Q g k → may_go (region_effects own_of g) ≡ true → may_go (region_effects own_of k) ≡ true
    region_left empty empty f e = e
    region_left empty (block args ps) f e = absurd f
    region_left (block args os) empty f e = absurd f
    region_left (block args os) (block now ps) f e = ops_left os ps f.1 e

    ops_left : (os ps : Ops) → OpsFollow Q os ps → may_go (ops_effects own_of os) ≡ true → may_go (ops_effects own_of ps) ≡ true
    ops_left no_ops no_ops f e = e
    ops_left no_ops (next p ps) f e = absurd f
    ops_left (next o os) no_ops f e = refl
    ops_left (next o os) (next p ps) (inl f) e =
        let q = union_parts (effects own_of o) (ops_effects own_of os) e in
        union_goes (effects own_of p) (ops_effects own_of ps) (op_left o p f.0 q.0) (ops_left os ps f.1 q.1)
    ops_left (next o os) (next p ps) (inr f) e = ops_left os (next p ps) f.1 (union_parts (effects own_of o) (ops_effects own_of os) e).1

    op_left : (o p : Operation) → Follows Q o p → may_go (effects own_of o) ≡ true → may_go (effects own_of p) ≡ true
    op_left (op h rs) (op k qs) f e =
        by_goes (own_of k.name) (regions_effects own_of rs) (regions_effects own_of qs) (regions_left rs qs f.1)
        (subst (λ name. may_go (effects_by (own_of name) (regions_effects own_of rs)) ≡ true) (named h k f.0) e)

  unmissed_still : (o p : Operation) → Follows Q o p → is_unmissed o ≡ true → is_unmissed p ≡ true
  unmissed_still (op h rs) (op k qs) f e =
      let q = and_parts (not (is_kept h.name)) (may_go (effects own_of (op h rs))) e in
      and_from (not (is_kept k.name)) (may_go (effects own_of (op k qs))) (subst (λ name. not (is_kept name) ≡ true) (named h k f.0) q.0) (op_left (op h rs) (op k qs) f q.1)

  skipped : (o : Operation) → is_unmissed o ≡ true → lasting_op o ≡ []
  skipped (op h rs) e = ap (λ b. if b then [] else h ∷ lasting rs) e

  mutual
    pub regions_last : (rs qs : Regions) → RegionsFollow Q rs qs → Paired Q (lasting rs) (lasting qs)
    regions_last no_regions no_regions f = tt
    regions_last no_regions (region k qs) f = absurd f
    regions_last (region g rs) no_regions f = absurd f
    regions_last (region g rs) (region k qs) f = paired_both Q (lasting_region g) (lasting_region k) (lasting rs) (lasting qs) (region_lasts g k f.0) (regions_last rs qs f.1)

    region_lasts : (g k : Region) → RegionFollows Q g k → Paired Q (lasting_region g) (lasting_region k)
    region_lasts empty empty f = tt
    region_lasts empty (block args ps) f = absurd f
    region_lasts (block args os) empty f = absurd f
    region_lasts (block args os) (block now ps) f = ops_last os ps f.1

    ops_last : (os ps : Ops) → OpsFollow Q os ps → Paired Q (lasting_ops os) (lasting_ops ps)
    ops_last no_ops no_ops f = tt
    ops_last no_ops (next p ps) f = absurd f
    ops_last (next o os) no_ops f = subst (λ l. Paired Q (l ++ lasting_ops os) []) (sym (skipped o f.0)) (ops_last os no_ops f.1)
    ops_last (next o os) (next p ps) (inl f) = paired_both Q (lasting_op o) (lasting_op p) (lasting_ops os) (lasting_ops ps) (op_lasts o p f.0) (ops_last os ps f.1)
    ops_last (next o os) (next p ps) (inr f) = subst (λ l. Paired Q (l ++ lasting_ops os) (lasting_ops (next p ps))) (sym (skipped o f.0)) (ops_last os (next p ps) f.1)

    op_lasts : (o p : Operation) → Follows Q o p → Paired Q (lasting_op o) (lasting_op p)
    op_lasts (op h rs) (op k qs) f =
        paired_if Q (is_unmissed (op h rs)) (is_unmissed (op k qs)) (h ∷ lasting rs) (k ∷ lasting qs)
        (same_bool (is_unmissed (op h rs)) (is_unmissed (op k qs)) (unmissed_still (op h rs) (op k qs) f) (op_unmissed Q named (op h rs) (op k qs) f))
        (f.0, regions_last rs qs f.1)

-- ---- a property of each operation is a property of the observable ones
module _ (P : Header → Type 0) where
  abbrev AllOf : List Header → Type 0
  AllOf [] = Unit {0}
  AllOf (h ∷ hs) = P h × AllOf hs

  all_both : (hs ks : List Header) → AllOf hs → AllOf ks → AllOf (hs ++ ks)
  all_both [] ks p q = q
  all_both (h ∷ hs) ks p q = (p.0, all_both hs ks p.1 q)

  all_if : (b : Bool) (hs : List Header) → AllOf hs → AllOf (if b then [] else hs)
  all_if true hs p = tt
  all_if false hs p = p

  mutual
    all_last : (rs : Regions) → EachInRegions P rs → AllOf (lasting rs)
    all_last no_regions s = tt
    all_last (region g rs) s = all_both (lasting_region g) (lasting rs) (region_all g s.0) (all_last rs s.1)

    region_all : (g : Region) → EachInRegion P g → AllOf (lasting_region g)
    region_all empty s = tt
    region_all (block args os) s = ops_all os s

    ops_all : (os : Ops) → EachAmong P os → AllOf (lasting_ops os)
    ops_all no_ops s = tt
    ops_all (next o os) s = all_both (lasting_op o) (lasting_ops os) (op_all o s.0) (ops_all os s.1)

    op_all : (o : Operation) → Each P o → AllOf (lasting_op o)
    op_all (op h rs) s = all_if (is_unmissed (op h rs)) (h ∷ lasting rs) (s.0, all_last rs s.1)

-- ---- an operation that can't be erased is no choice
module _ (t : Operation) where
  abbrev IsNoChoice : Header → Type 0
  IsNoChoice h = is_choice t h ≡ false

  mutual
    none_chooses : (rs : Regions) → AllOf IsNoChoice (lasting rs)
    none_chooses no_regions = tt
    none_chooses (region g rs) = all_both IsNoChoice (lasting_region g) (lasting rs) (region_none g) (none_chooses rs)

    region_none : (g : Region) → AllOf IsNoChoice (lasting_region g)
    region_none empty = tt
    region_none (block args os) = ops_none os

    ops_none : (os : Ops) → AllOf IsNoChoice (lasting_ops os)
    ops_none no_ops = tt
    ops_none (next o os) = all_both IsNoChoice (lasting_op o) (lasting_ops os) (op_none o) (ops_none os)

    op_none : (o : Operation) → AllOf IsNoChoice (lasting_op o)
    op_none (op h rs) = go (is_unmissed (op h rs)) refl (bool_cases (is_choice t h)) (none_chooses rs)
      where
        go : (b : Bool) → is_unmissed (op h rs) ≡ b → (is_choice t h ≡ true) ⊎ (is_choice t h ≡ false) → AllOf IsNoChoice (lasting rs) → AllOf IsNoChoice (if b then [] else h ∷ lasting rs)
        go true e c rest = tt
        go false e (inl c) rest = absurd (true≢false (sym (choice_unmissed t (op h rs) c) ∙ e))
        go false e (inr c) rest = (c, rest)

-- ---- observations
module _ (a now : Assignment) (o : Origins) (done later : ℕ → Bool) (m : Module) (t : Operation) (same : (y : ℕ) → y < m.next → later y ≡ done y) (shows : Shows a now m later t) (are : AreOrigins m.next a o later m.tree) where
  -- an operation that can't be erased is no choice
  abbrev IsBelow : Header → Type 0
  IsBelow h = h.id < m.next

  operands_refine : (vs ws : List Value) → AllStill o vs ws → AllBetter (map a vs) (map now ws) → OperandsRefine (map (operand a o) vs) (map (operand now o) ws)
  operands_refine [] [] s b = tt
  operands_refine [] (w ∷ ws) s b = absurd s
  operands_refine (v ∷ vs) [] s b = absurd s
  operands_refine (v ∷ vs) (w ∷ ws) s b = (s.0, b.0, operands_refine vs ws s.1 b.1)

  observations_refine : (hs ks : List Header) → AllOf IsBelow hs → AllOf (λ h. is_choice m.tree h ≡ false) hs → Paired (Stays m.next m.tree t a now later) hs ks
      → ObservationsRefine (map (observation a o) (filter (λ (h : Header). done h.id) hs)) (map (observation now o) (filter (λ (h : Header). later h.id) ks))
  observations_refine [] [] s c p = tt
  observations_refine [] (k ∷ ks) s c p = absurd p
  observations_refine (h ∷ hs) [] s c p = absurd p
  observations_refine (h ∷ hs) (k ∷ ks) s c p =
      go (done h.id) (later k.id) (ap later (sym (ap (λ (h : Header). h.id) p.0.same)) ∙ same h.id s.0) refl (observations_refine hs ks s.1 c.1 p.1)
    where
      go : (b c : Bool) → c ≡ b → later k.id ≡ c → ObservationsRefine (map (observation a o) (filter (λ (h : Header). done h.id) hs)) (map (observation now o) (filter (λ (h : Header). later h.id) ks))
          → ObservationsRefine (map (observation a o) (if b then h ∷ (filter (λ (h : Header). done h.id) hs) else (filter (λ (h : Header). done h.id) hs))) (map (observation now o) (if c then k ∷ (filter (λ (h : Header). later h.id) ks) else (filter (λ (h : Header). later h.id) ks)))
      go true true i e rest = (p.0.same, operands_refine h.operands k.operands (p.0.still c.0 o are) (p.0.better c.0 e), rest)
      go true false i e rest = absurd (true≢false (sym i))
      go false true i e rest = absurd (true≢false i)
      go false false i e rest = rest

  pub observed_refine : Each IsBelow m.tree → ObservationsRefine (map (observation a o) (filter (λ (h : Header). done h.id) (lasting (shown_regions (regions m.tree))))) (map (observation now o) (filter (λ (h : Header). later h.id) (lasting (shown_regions (regions t)))))
  observed_refine each =
      observations_refine (lasting (shown_regions (regions m.tree))) (lasting (shown_regions (regions t)))
      (all_last IsBelow (shown_regions (regions m.tree)) (each_shown IsBelow (regions m.tree) (inside IsBelow m.tree each)))
      (none_chooses m.tree (shown_regions (regions m.tree)))
      (regions_last (Stays m.next m.tree t a now later) (λ h k s. ap (λ (h : Header). h.name) s.same) (shown_regions (regions m.tree)) (shown_regions (regions t)) shows.follows)

pub kept_is_refined : KeptIsRefined
kept_is_refined m n ready kept a o done computing are =
    let c = kept.2 a done computing in
    let i = c.improves in
    let now_are = origins_later m.next a o done c.later m.tree c.same are in
    record {
      now = i.now;
      later = c.later;
      same = c.same;
      inputs = i.stays;
      computing = i.computing;
      origins = origins_grown m.next n.next i.now o c.later n.tree kept.1 (i.shows.origins o now_are);
      refined = observed_refine a i.now o done c.later m n.tree c.same i.shows now_are (is_below m.next m.tree ready.wellformed.below);
    }
