-- Trees whose operations follow those of another tree: the tree itself, with other heads, without a dead operation,
-- and composed in sequence.
use Rattle.std.proofs.Common.{◌≡◌, ℕ, ◌+◌, refl, sym, ◌∙◌, subst, Bool, true, false, ◌&&◌, ◌||◌, not, eqb, List, inl, inr}
use Rattle.std.specs.Prelude.{if◌then◌else◌}
use Rattle.std.proofs.lemmas.Bool.{and_from, and_parts}
use Rattle.ir_types.specs.Terms.{TypeTerm, AttrTerm}
use Rattle.ir_tree.specs.Tree.{RegionsOf, RegionOf, OpsOf, op, no_regions, region, empty, block, no_ops, next, head}
use Rattle.ir_tree.specs.declared.value.Value.{Value}
use Rattle.ir_tree.specs.declared.value.Value.TheVariants.{Result}
use Rattle.ir_tree.specs.Edits.{ops_each_head, put_values, region_each_head, regions_each_head}
use Rattle.ir_tree.specs.Places.{drop_op, ops_each_list, region_each_list, regions_each_list}
use Rattle.ir_tree.specs.Meaning.{Operation}
use Rattle.op_registry.specs.declared.own.Own.{Own}
use Rattle.op_registry.specs.Registry.{own_of}
use Rattle.effects.specs.declared.effect_kinds.EffectKinds.{EffectKinds}
use Rattle.effects.specs.Dead.{is_kept, may_go}
use Rattle.effects.specs.Effects.{effects, effects_by, is_recursive, ops_effects, own_kinds, region_effects, regions_effects, union}
use Rattle.user_patterns_data.specs.Matching.{Header}
use Rattle.patterns_refinement.specs.Meaning.{Each, EachAmong, EachInRegion, EachInRegions, is_arithmetic}
use Rattle.patterns_refinement.specs.Observing.{Any, AnyAmong, AnyInRegion, AnyInRegions, Follows, OpsFollow, RegionFollows, RegionsFollow, is_unmissed, shown, shown_ops, shown_region, shown_regions}

abbrev Regions : Type 0
Regions = RegionsOf (List ℕ) TypeTerm AttrTerm

abbrev Region : Type 0
Region = RegionOf (List ℕ) TypeTerm AttrTerm

abbrev Ops : Type 0
Ops = OpsOf (List ℕ) TypeTerm AttrTerm

-- ---- removable effects
both_go : (a b : EffectKinds) → may_go (union a b) ≡ (may_go a && may_go b)
both_go a b = go a.unknown a.free a.write b.unknown b.free b.write
  where
    go : (u f w v g x : Bool) → not ((u || v) || ((f || g) || (w || x))) ≡ (not (u || (f || w)) && not (v || (g || x)))
    go true f w v g x = refl
    go false true w true g x = refl
    go false true w false g x = refl
    go false false true true g x = refl
    go false false true false true x = refl
    go false false true false false x = refl
    go false false false v g x = refl

-- two sets of effects are removable exactly if their union is
pub union_goes : (a b : EffectKinds) → may_go a ≡ true → may_go b ≡ true → may_go (union a b) ≡ true
union_goes a b p q = both_go a b ∙ and_from (may_go a) (may_go b) p q

pub union_parts : (a b : EffectKinds) → may_go (union a b) ≡ true → (may_go a ≡ true) × (may_go b ≡ true)
union_parts a b e = and_parts (may_go a) (may_go b) (sym (both_go a b) ∙ e)

-- if a change of the children's effects keeps them removable, the operation's effects stay removable
pub by_goes : (o : Own) (a b : EffectKinds) → (may_go a ≡ true → may_go b ≡ true) → may_go (effects_by o a) ≡ true → may_go (effects_by o b) ≡ true
by_goes o a b f = go (is_recursive o)
  where
    go : (c : Bool) → may_go (if c then a else own_kinds o) ≡ true → may_go (if c then b else own_kinds o) ≡ true
    go true e = f e
    go false e = e

-- fewer observable operations are left
mutual
  regions_still : (rs : Regions) → may_go (regions_effects own_of rs) ≡ true → may_go (regions_effects own_of (shown_regions rs)) ≡ true
  regions_still no_regions e = e
  regions_still (region g rs) e =
      let p = union_parts (region_effects own_of g) (regions_effects own_of rs) e in
      union_goes (region_effects own_of (shown_region g)) (regions_effects own_of (shown_regions rs)) (region_still g p.0) (regions_still rs p.1)

  region_still : (g : Region) → may_go (region_effects own_of g) ≡ true → may_go (region_effects own_of (shown_region g)) ≡ true
  region_still empty e = e
  region_still (block args os) e = ops_still os e

  ops_still : (os : Ops) → may_go (ops_effects own_of os) ≡ true → may_go (ops_effects own_of (shown_ops os)) ≡ true
  ops_still no_ops e = e
  ops_still (next (op h rs) os) e =
      let p = union_parts (effects own_of (op h rs)) (ops_effects own_of os) e in
      go (is_arithmetic h) (by_goes (own_of h.name) (regions_effects own_of rs) (regions_effects own_of (shown_regions rs)) (regions_still rs) p.0) (ops_still os p.1)
    where
      go : (b : Bool) → may_go (effects own_of (op h (shown_regions rs))) ≡ true → may_go (ops_effects own_of (shown_ops os)) ≡ true → may_go (ops_effects own_of (if b then shown_ops os else next (op h (shown_regions rs)) (shown_ops os))) ≡ true
      go true r o = o
      go false r o = union_goes (effects own_of (op h (shown_regions rs))) (ops_effects own_of (shown_ops os)) r o

pub unmissed_shown : (o : Operation) → is_unmissed o ≡ true → is_unmissed (shown o) ≡ true
unmissed_shown (op h rs) e =
    let p = and_parts (not (is_kept h.name)) (may_go (effects own_of (op h rs))) e in
    and_from (not (is_kept h.name)) (may_go (effects own_of (op h (shown_regions rs)))) p.0
    (by_goes (own_of h.name) (regions_effects own_of rs) (regions_effects own_of (shown_regions rs)) (regions_still rs) p.1)

-- ---- a tree itself, and with other heads
module _ (R : Header → Header → Type 0) where
  mutual
    pub follows_itself : (rs : Regions) → EachInRegions (λ h. R h h) rs → RegionsFollow R rs rs
    follows_itself no_regions s = tt
    follows_itself (region g rs) s = (region_itself g s.0, follows_itself rs s.1)

    region_itself : (g : Region) → EachInRegion (λ h. R h h) g → RegionFollows R g g
    region_itself empty s = tt
    region_itself (block args os) s = (refl, ops_itself os s)

    ops_itself : (os : Ops) → EachAmong (λ h. R h h) os → OpsFollow R os os
    ops_itself no_ops s = tt
    ops_itself (next (op h rs) os) s = inl ((s.0.0, follows_itself rs s.0.1), ops_itself os s.1)

  module _ (f : Header → Header) where
    mutual
      pub follows_changed : (rs : Regions) → EachInRegions (λ h. R h (f h)) rs → RegionsFollow R rs (regions_each_head f rs)
      follows_changed no_regions s = tt
      follows_changed (region g rs) s = (region_changed g s.0, follows_changed rs s.1)

      region_changed : (g : Region) → EachInRegion (λ h. R h (f h)) g → RegionFollows R g (region_each_head f g)
      region_changed empty s = tt
      region_changed (block args os) s = (refl, ops_changed os s)

      ops_changed : (os : Ops) → EachAmong (λ h. R h (f h)) os → OpsFollow R os (ops_each_head f os)
      ops_changed no_ops s = tt
      ops_changed (next (op h rs) os) s = inl ((s.0.0, follows_changed rs s.0.1), ops_changed os s.1)

-- ---- each operation, with its subtree
abbrev mutual
  pub EachWhole : (Operation → Type 0) → Operation → Type 0
  EachWhole P (op h rs) = P (op h rs) × WholeInRegions P rs

  pub WholeInRegions : (Operation → Type 0) → Regions → Type 0
  WholeInRegions P no_regions = Unit {0}
  WholeInRegions P (region g rs) = WholeInRegion P g × WholeInRegions P rs

  pub WholeInRegion : (Operation → Type 0) → Region → Type 0
  WholeInRegion P empty = Unit {0}
  WholeInRegion P (block args os) = WholeAmong P os

  pub WholeAmong : (Operation → Type 0) → Ops → Type 0
  WholeAmong P no_ops = Unit {0}
  WholeAmong P (next o os) = EachWhole P o × WholeAmong P os

-- the operation is removable if it has id x
abbrev pub IsUnmissedAt : ℕ → Operation → Type 0
IsUnmissedAt x o = eqb (head o).id x ≡ true → is_unmissed o ≡ true

module _ (x : ℕ) where
  mutual
    pub unmissed_among_shown : (rs : Regions) → WholeInRegions (IsUnmissedAt x) rs → WholeInRegions (IsUnmissedAt x) (shown_regions rs)
    unmissed_among_shown no_regions s = tt
    unmissed_among_shown (region g rs) s = (region_among g s.0, unmissed_among_shown rs s.1)

    region_among : (g : Region) → WholeInRegion (IsUnmissedAt x) g → WholeInRegion (IsUnmissedAt x) (shown_region g)
    region_among empty s = tt
    region_among (block args os) s = ops_among os s

    ops_among : (os : Ops) → WholeAmong (IsUnmissedAt x) os → WholeAmong (IsUnmissedAt x) (shown_ops os)
    ops_among no_ops s = tt
    ops_among (next (op h rs) os) s = go (is_arithmetic h) (unmissed_among_shown rs s.0.1) (ops_among os s.1)
      where
        go : (b : Bool) → WholeInRegions (IsUnmissedAt x) (shown_regions rs) → WholeAmong (IsUnmissedAt x) (shown_ops os) → WholeAmong (IsUnmissedAt x) (if b then shown_ops os else next (op h (shown_regions rs)) (shown_ops os))
        go true r o = o
        go false r o = (((λ e. unmissed_shown (op h rs) (s.0.0 e)), r), o)

-- ---- a tree without a dead operation
module _ (R : Header → Header → Type 0) (x : ℕ) where
  skip : (o : Operation) (os ps : Ops) → is_unmissed o ≡ true → OpsFollow R os ps → OpsFollow R (next o os) ps
  skip o os no_ops u s = (u, s)
  skip o os (next p ps) u s = inr (u, s)

  mutual
    pub follows_without : (p r : ℕ) (rs : Regions) → EachInRegions (λ h. R h h) rs → WholeInRegions (IsUnmissedAt x) rs → RegionsFollow R rs (regions_each_list (λ p r os. drop_op x os) p r rs)
    follows_without p r no_regions s g = tt
    follows_without p r (region k rs) s g = (region_without p r k s.0 g.0, follows_without p (r + 1) rs s.1 g.1)

    region_without : (p r : ℕ) (k : Region) → EachInRegion (λ h. R h h) k → WholeInRegion (IsUnmissedAt x) k → RegionFollows R k (region_each_list (λ p r os. drop_op x os) p r k)
    region_without p r empty s g = tt
    region_without p r (block args os) s g = (refl, ops_without os s g)

    ops_without : (os : Ops) → EachAmong (λ h. R h h) os → WholeAmong (IsUnmissedAt x) os → OpsFollow R os (drop_op x (ops_each_list (λ p r os. drop_op x os) os))
    ops_without no_ops s g = tt
    ops_without (next (op h rs) os) s g = go (eqb h.id x) refl (follows_without h.id 0 rs s.0.1 g.0.1) (ops_without os s.1 g.1)
      where
        go : (b : Bool) → eqb h.id x ≡ b → RegionsFollow R rs (regions_each_list (λ p r os. drop_op x os) h.id 0 rs) → OpsFollow R os (drop_op x (ops_each_list (λ p r os. drop_op x os) os))
            → OpsFollow R (next (op h rs) os) (if b then (drop_op x (ops_each_list (λ p r os. drop_op x os) os)) else next (op h (regions_each_list (λ p r os. drop_op x os) h.id 0 rs)) (drop_op x (ops_each_list (λ p r os. drop_op x os) os)))
        go true i r o = skip (op h rs) os (drop_op x (ops_each_list (λ p r os. drop_op x os) os)) (g.0.0 i) o
        go false i r o = inl ((s.0.0, r), o)

-- ---- a tree with a value in place of the result of a dead operation, and without that operation
module _ (R : Header → Header → Type 0) (x : ℕ) (v : Value) where
  abbrev f : Header → Header
  f = put_values (Result x 0) v

  mutual
    pub follows_replaced : (p r : ℕ) (rs : Regions) → EachInRegions (λ h. R h (put_values (Result x 0) v h)) rs → WholeInRegions (IsUnmissedAt x) rs
        → RegionsFollow R rs (regions_each_list (λ p r os. drop_op x os) p r (regions_each_head (put_values (Result x 0) v) rs))
    follows_replaced p r no_regions s g = tt
    follows_replaced p r (region k rs) s g = (region_replaced p r k s.0 g.0, follows_replaced p (r + 1) rs s.1 g.1)

    region_replaced : (p r : ℕ) (k : Region) → EachInRegion (λ h. R h (put_values (Result x 0) v h)) k → WholeInRegion (IsUnmissedAt x) k
        → RegionFollows R k (region_each_list (λ p r os. drop_op x os) p r (region_each_head (put_values (Result x 0) v) k))
    region_replaced p r empty s g = tt
    region_replaced p r (block args os) s g = (refl, ops_replaced os s g)

    ops_replaced : (os : Ops) → EachAmong (λ h. R h (put_values (Result x 0) v h)) os → WholeAmong (IsUnmissedAt x) os
        → OpsFollow R os (drop_op x (ops_each_list (λ p r os. drop_op x os) (ops_each_head (put_values (Result x 0) v) os)))
    ops_replaced no_ops s g = tt
    ops_replaced (next (op h rs) os) s g = go (eqb h.id x) refl (follows_replaced h.id 0 rs s.0.1 g.0.1) (ops_replaced os s.1 g.1)
      where
        rest : Ops
        rest = drop_op x (ops_each_list (λ p r os. drop_op x os) (ops_each_head (put_values (Result x 0) v) os))

        inner : Regions
        inner = regions_each_list (λ p r os. drop_op x os) h.id 0 (regions_each_head (put_values (Result x 0) v) rs)

        go : (b : Bool) → eqb h.id x ≡ b → RegionsFollow R rs inner → OpsFollow R os rest → OpsFollow R (next (op h rs) os) (if b then rest else next (op (put_values (Result x 0) v h) inner) rest)
        go true i r o = skip R x (op h rs) os rest (g.0.0 i) o
        go false i r o = inl ((s.0.0, r), o)

-- ---- three changes of heads
module _ (R : Header → Header → Type 0) (f g k : Header → Header) where
  mutual
    pub follows_turned : (rs : Regions) → EachInRegions (λ h. R h (k (g (f h)))) rs → RegionsFollow R rs (regions_each_head k (regions_each_head g (regions_each_head f rs)))
    follows_turned no_regions s = tt
    follows_turned (region j rs) s = (region_turned j s.0, follows_turned rs s.1)

    region_turned : (j : Region) → EachInRegion (λ h. R h (k (g (f h)))) j → RegionFollows R j (region_each_head k (region_each_head g (region_each_head f j)))
    region_turned empty s = tt
    region_turned (block args os) s = (refl, ops_turned os s)

    ops_turned : (os : Ops) → EachAmong (λ h. R h (k (g (f h)))) os → OpsFollow R os (ops_each_head k (ops_each_head g (ops_each_head f os)))
    ops_turned no_ops s = tt
    ops_turned (next (op h rs) os) s = inl ((s.0.0, follows_turned rs s.0.1), ops_turned os s.1)

-- ---- composed in sequence
module _ (P : Header → Type 0) (Q R S : Header → Header → Type 0) (named : (h k : Header) → Q h k → h.name ≡ k.name) (through : (h k l : Header) → P h → Q h k → R k l → S h l) where
  -- if what is left of an operation is removable, the operation was
  mutual
    regions_go : (rs qs : Regions) → RegionsFollow Q rs qs → may_go (regions_effects own_of qs) ≡ true → may_go (regions_effects own_of rs) ≡ true
    regions_go no_regions no_regions f e = e
    regions_go no_regions (region k qs) f e = absurd f
    regions_go (region g rs) no_regions f e = absurd f
    regions_go (region g rs) (region k qs) f e =
        let p = union_parts (region_effects own_of k) (regions_effects own_of qs) e in
        union_goes (region_effects own_of g) (regions_effects own_of rs) (region_goes g k f.0 p.0) (regions_go rs qs f.1 p.1)

    region_goes : (g k : Region) → RegionFollows Q g k → may_go (region_effects own_of k) ≡ true → may_go (region_effects own_of g) ≡ true
    region_goes empty empty f e = e
    region_goes empty (block args ps) f e = absurd f
    region_goes (block args os) empty f e = absurd f
    region_goes (block args os) (block now ps) f e = ops_go os ps f.1 e

    ops_go : (os ps : Ops) → OpsFollow Q os ps → may_go (ops_effects own_of ps) ≡ true → may_go (ops_effects own_of os) ≡ true
    ops_go no_ops no_ops f e = e
    ops_go no_ops (next p ps) f e = absurd f
    ops_go (next o os) no_ops f e = union_goes (effects own_of o) (ops_effects own_of os) (and_parts (not (is_kept (head o).name)) (may_go (effects own_of o)) f.0).1 (ops_go os no_ops f.1 e)
    ops_go (next o os) (next p ps) (inl f) e =
        let q = union_parts (effects own_of p) (ops_effects own_of ps) e in
        union_goes (effects own_of o) (ops_effects own_of os) (op_goes o p f.0 q.0) (ops_go os ps f.1 q.1)
    ops_go (next o os) (next p ps) (inr f) e =
        union_goes (effects own_of o) (ops_effects own_of os) (and_parts (not (is_kept (head o).name)) (may_go (effects own_of o)) f.0).1 (ops_go os (next p ps) f.1 e)

    op_goes : (o p : Operation) → Follows Q o p → may_go (effects own_of p) ≡ true → may_go (effects own_of o) ≡ true
    op_goes (op h rs) (op k qs) f e =
        by_goes (own_of h.name) (regions_effects own_of qs) (regions_effects own_of rs) (regions_go rs qs f.1)
        (subst (λ name. may_go (effects_by (own_of name) (regions_effects own_of qs)) ≡ true) (sym (named h k f.0)) e)

  still_unmissed : (o p : Operation) → Follows Q o p → is_unmissed p ≡ true → is_unmissed o ≡ true
  still_unmissed (op h rs) (op k qs) f e =
      let q = and_parts (not (is_kept k.name)) (may_go (effects own_of (op k qs))) e in
      and_from (not (is_kept h.name)) (may_go (effects own_of (op h rs))) (subst (λ name. not (is_kept name) ≡ true) (sym (named h k f.0)) q.0) (op_goes (op h rs) (op k qs) f q.1)

  mutual
    pub follows_through : (rs qs ss : Regions) → EachInRegions P rs → RegionsFollow Q rs qs → RegionsFollow R qs ss → RegionsFollow S rs ss
    follows_through no_regions no_regions no_regions s f g = tt
    follows_through no_regions no_regions (region l ss) s f g = absurd g
    follows_through no_regions (region k qs) ss s f g = absurd f
    follows_through (region j rs) no_regions ss s f g = absurd f
    follows_through (region j rs) (region k qs) no_regions s f g = absurd g
    follows_through (region j rs) (region k qs) (region l ss) s f g = (region_through j k l s.0 f.0 g.0, follows_through rs qs ss s.1 f.1 g.1)

    region_through : (j k l : Region) → EachInRegion P j → RegionFollows Q j k → RegionFollows R k l → RegionFollows S j l
    region_through empty empty empty s f g = tt
    region_through empty empty (block args us) s f g = absurd g
    region_through empty (block args ps) l s f g = absurd f
    region_through (block args os) empty l s f g = absurd f
    region_through (block args os) (block now ps) empty s f g = absurd g
    region_through (block args os) (block now ps) (block last us) s f g = (f.0 ∙ g.0, ops_through os ps us s f.1 g.1)

    ops_through : (os ps us : Ops) → EachAmong P os → OpsFollow Q os ps → OpsFollow R ps us → OpsFollow S os us
    ops_through no_ops no_ops no_ops s f g = tt
    ops_through no_ops no_ops (next u us) s f g = absurd g
    ops_through no_ops (next p ps) us s f g = absurd f
    ops_through (next o os) no_ops no_ops s f g = (f.0, ops_through os no_ops no_ops s.1 f.1 g)
    ops_through (next o os) no_ops (next u us) s f g = absurd g
    ops_through (next o os) (next p ps) no_ops s (inl f) g = (still_unmissed o p f.0 g.0, ops_through os ps no_ops s.1 f.1 g.1)
    ops_through (next o os) (next p ps) no_ops s (inr f) g = (f.0, ops_through os (next p ps) no_ops s.1 f.1 g)
    ops_through (next o os) (next p ps) (next u us) s (inl f) (inl g) = inl (op_through o p u s.0 f.0 g.0, ops_through os ps us s.1 f.1 g.1)
    ops_through (next o os) (next p ps) (next u us) s (inl f) (inr g) = inr (still_unmissed o p f.0 g.0, ops_through os ps (next u us) s.1 f.1 g.1)
    ops_through (next o os) (next p ps) (next u us) s (inr f) g = inr (f.0, ops_through os (next p ps) (next u us) s.1 f.1 g)

    op_through : (o p u : Operation) → Each P o → Follows Q o p → Follows R p u → Follows S o u
    op_through (op h rs) (op k qs) (op l ss) s f g = (through h k l s.0 f.0 g.0, follows_through rs qs ss s.1 f.1 g.1)

-- if what is left of an operation is removable, the operation was
pub op_unmissed : (Q : Header → Header → Type 0) → ((h k : Header) → Q h k → h.name ≡ k.name) → (o p : Operation) → Follows Q o p → is_unmissed p ≡ true → is_unmissed o ≡ true
op_unmissed Q named o p f e = still_unmissed (λ h. Unit {0}) Q Q (λ h k. Unit {0}) named (λ h k l p q r. tt) o p f e

-- ---- the operations of the second tree are in the first
module _ (P Q : Header → Type 0) (f : (h : Header) → P h → Q h) where
  mutual
    regions_more : (rs : Regions) → EachInRegions P rs → EachInRegions Q rs
    regions_more no_regions s = tt
    regions_more (region g rs) s = (region_more g s.0, regions_more rs s.1)

    region_more : (g : Region) → EachInRegion P g → EachInRegion Q g
    region_more empty s = tt
    region_more (block args os) s = ops_more os s

    ops_more : (os : Ops) → EachAmong P os → EachAmong Q os
    ops_more no_ops s = tt
    ops_more (next o os) s = (op_more o s.0, ops_more os s.1)

    op_more : (o : Operation) → Each P o → Each Q o
    op_more (op h rs) s = (f h s.0, regions_more rs s.1)

module _ (R : Header → Header → Type 0) where
  mutual
    pub were_there : (rs qs : Regions) → RegionsFollow R rs qs → EachInRegions (λ k. AnyInRegions (λ h. R h k) rs) qs
    were_there no_regions no_regions f = tt
    were_there no_regions (region k qs) f = absurd f
    were_there (region g rs) no_regions f = absurd f
    were_there (region g rs) (region k qs) f = (
      region_more (λ l. AnyInRegion (λ h. R h l) g) (λ l. AnyInRegions (λ h. R h l) (region g rs)) (λ l s. inl s) k (region_there g k f.0),
      regions_more (λ l. AnyInRegions (λ h. R h l) rs) (λ l. AnyInRegions (λ h. R h l) (region g rs)) (λ l s. inr s) qs (were_there rs qs f.1),
    )

    region_there : (g k : Region) → RegionFollows R g k → EachInRegion (λ l. AnyInRegion (λ h. R h l) g) k
    region_there empty empty f = tt
    region_there empty (block args ps) f = absurd f
    region_there (block args os) empty f = absurd f
    region_there (block args os) (block now ps) f = ops_there os ps f.1

    ops_there : (os ps : Ops) → OpsFollow R os ps → EachAmong (λ l. AnyAmong (λ h. R h l) os) ps
    ops_there no_ops no_ops f = tt
    ops_there no_ops (next p ps) f = absurd f
    ops_there (next o os) no_ops f = tt
    ops_there (next o os) (next p ps) (inl f) = (
      op_more (λ l. Any (λ h. R h l) o) (λ l. AnyAmong (λ h. R h l) (next o os)) (λ l s. inl s) p (op_there o p f.0),
      ops_more (λ l. AnyAmong (λ h. R h l) os) (λ l. AnyAmong (λ h. R h l) (next o os)) (λ l s. inr s) ps (ops_there os ps f.1),
    )
    ops_there (next o os) (next p ps) (inr f) = ops_more (λ l. AnyAmong (λ h. R h l) os) (λ l. AnyAmong (λ h. R h l) (next o os)) (λ l s. inr s) (next p ps) (ops_there os (next p ps) f.1)

    op_there : (o p : Operation) → Follows R o p → Each (λ l. Any (λ h. R h l) o) p
    op_there (op h rs) (op k qs) f = (
      inl f.0,
      regions_more (λ l. AnyInRegions (λ j. R j l) rs) (λ l. Any (λ j. R j l) (op h rs)) (λ l s. inr s) qs (were_there rs qs f.1),
    )
