-- The tree that slots represent.
use Rattle.std.specs.Prelude.{◌≡◌, ℕ, List, [], ◌∷◌, true, Some, None}
use Rattle.std.proofs.Common.{sym, ◌∙◌, refl}
use Rattle.std.specs.Coded.{Coded-set, coded_ℕ, coded_bool, coded_list, ×_prop, Unit-prop}
use mathlib.Core.HLevel.{Σ_prop_path, ⊥_prop}
use Rattle.ir_store_arena.specs.trees.Tree.{Op, op, Regions, no_regions, region, Region, empty, block, Ops, no_ops, next}
use Rattle.ir_store_arena.specs.trees.Code.{head_code}
use Rattle.ir_store_lists.specs.Lists.{list_at}
use Rattle.ir_store_slots.specs.Rows.{Row, RegionShape, row_at}

module _ (slots : List Row) (lists : List (List ℕ)) where
  abbrev mutual
    -- slot k represents an operation
    pub SpellsOp : ℕ → Op → Type 0
    SpellsOp k (op h rs) = ((row_at slots k).live ≡ true) × (((row_at slots k).head ≡ h) × SpellsRegions (row_at slots k).shapes rs)

    pub SpellsRegions : List RegionShape → Regions → Type 0
    SpellsRegions [] no_regions = Unit {0}
    SpellsRegions [] (region g rs) = ⊥
    SpellsRegions (a ∷ xs) no_regions = ⊥
    SpellsRegions (a ∷ xs) (region g rs) = SpellsRegion a g × SpellsRegions xs rs

    pub SpellsRegion : RegionShape → Region → Type 0
    SpellsRegion None empty = Unit {0}
    SpellsRegion None (block args os) = ⊥
    SpellsRegion (Some a) empty = ⊥
    SpellsRegion (Some a) (block args os) = (a.0 ≡ args) × SpellsOps (list_at lists a.1) os

    pub SpellsOps : List ℕ → Ops → Type 0
    SpellsOps [] no_ops = Unit {0}
    SpellsOps [] (next o os) = ⊥
    SpellsOps (k ∷ ks) no_ops = ⊥
    SpellsOps (k ∷ ks) (next o os) = SpellsOp k o × SpellsOps ks os

  mutual
    pub SpellsOp-prop : (k : ℕ) (t : Op) → IsProp (SpellsOp k t)
    SpellsOp-prop k (op h rs) =
        ×_prop (Coded-set coded_bool _ _) (×_prop (Coded-set head_code _ _) (SpellsRegions-prop (row_at slots k).shapes rs))

    pub SpellsRegions-prop : (xs : List RegionShape) (rs : Regions) → IsProp (SpellsRegions xs rs)
    SpellsRegions-prop [] no_regions = Unit-prop
    SpellsRegions-prop [] (region g rs) = ⊥_prop
    SpellsRegions-prop (a ∷ xs) no_regions = ⊥_prop
    SpellsRegions-prop (a ∷ xs) (region g rs) = ×_prop (SpellsRegion-prop a g) (SpellsRegions-prop xs rs)

    pub SpellsRegion-prop : (a : RegionShape) (g : Region) → IsProp (SpellsRegion a g)
    SpellsRegion-prop None empty = Unit-prop
    SpellsRegion-prop None (block args os) = ⊥_prop
    SpellsRegion-prop (Some a) empty = ⊥_prop
    SpellsRegion-prop (Some a) (block args os) = ×_prop (Coded-set (coded_list coded_ℕ) _ _) (SpellsOps-prop (list_at lists a.1) os)

    pub SpellsOps-prop : (ks : List ℕ) (os : Ops) → IsProp (SpellsOps ks os)
    SpellsOps-prop [] no_ops = Unit-prop
    SpellsOps-prop [] (next o os) = ⊥_prop
    SpellsOps-prop (k ∷ ks) no_ops = ⊥_prop
    SpellsOps-prop (k ∷ ks) (next o os) = ×_prop (SpellsOp-prop k o) (SpellsOps-prop ks os)

  mutual
    pub SpellsOp-one : (k : ℕ) (t u : Op) → SpellsOp k t → SpellsOp k u → t ≡ u
    SpellsOp-one k (op g rs) (op h ss) s r =
        let e : g ≡ h = sym s.1.0 ∙ r.1.0 in
        λ i. op (e i) (SpellsRegions-one (row_at slots k).shapes rs ss s.1.1 r.1.1 i)

    pub SpellsRegions-one : (xs : List RegionShape) (rs ss : Regions) → SpellsRegions xs rs → SpellsRegions xs ss → rs ≡ ss
    SpellsRegions-one [] no_regions no_regions s r = refl
    SpellsRegions-one [] no_regions (region h ss) s r = absurd r
    SpellsRegions-one [] (region g rs) ss s r = absurd s
    SpellsRegions-one (a ∷ xs) no_regions ss s r = absurd s
    SpellsRegions-one (a ∷ xs) (region g rs) no_regions s r = absurd r
    SpellsRegions-one (a ∷ xs) (region g rs) (region h ss) s r = λ i. region (SpellsRegion-one a g h s.0 r.0 i) (SpellsRegions-one xs rs ss s.1 r.1 i)

    pub SpellsRegion-one : (a : RegionShape) (g h : Region) → SpellsRegion a g → SpellsRegion a h → g ≡ h
    SpellsRegion-one None empty empty s r = refl
    SpellsRegion-one None empty (block args os) s r = absurd r
    SpellsRegion-one None (block args os) h s r = absurd s
    SpellsRegion-one (Some a) empty h s r = absurd s
    SpellsRegion-one (Some a) (block args os) empty s r = absurd r
    SpellsRegion-one (Some a) (block args os) (block brgs ps) s r =
        let e : args ≡ brgs = sym s.0 ∙ r.0 in
        λ i. block (e i) (SpellsOps-one (list_at lists a.1) os ps s.1 r.1 i)

    pub SpellsOps-one : (ks : List ℕ) (os ps : Ops) → SpellsOps ks os → SpellsOps ks ps → os ≡ ps
    SpellsOps-one [] no_ops no_ops s r = refl
    SpellsOps-one [] no_ops (next q qs) s r = absurd r
    SpellsOps-one [] (next o os) ps s r = absurd s
    SpellsOps-one (k ∷ ks) no_ops ps s r = absurd s
    SpellsOps-one (k ∷ ks) (next o os) no_ops s r = absurd r
    SpellsOps-one (k ∷ ks) (next o os) (next q qs) s r = λ i. next (SpellsOp-one k o q s.0 r.0 i) (SpellsOps-one ks os qs s.1 r.1 i)

  -- the tree that a slot represents: it is unique, so this type is a proposition
  abbrev pub Represented : ℕ → Type 0
  Represented root = (t : Op) × SpellsOp root t

  pub Represented-prop : (root : ℕ) → IsProp (Represented root)
  Represented-prop root x y = Σ_prop_path (SpellsOp-prop root) {u = x} {v = y} (SpellsOp-one root x.0 y.0 x.1 y.1)

  pub rendered_is : (root : ℕ) (x : Represented root) (t : Op) → SpellsOp root t → x.0 ≡ t
  rendered_is root x t s = SpellsOp-one root x.0 t x.1 s
