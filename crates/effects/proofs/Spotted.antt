-- The operations of a tree in a list.
use Rattle.std.proofs.Common.{◌≡◌, ℕ, ◌+◌, List, [], ◌∷◌, ◌++◌, Bool, false, true≢false, Option, Some, inl, inr, refl, sym, ap, ◌∙◌, arith, eqb, ◌||◌, map}
use Rattle.std.proofs.lemmas.Bool.{eq-eqb, cases_Bool, or_parts}
use Rattle.std.proofs.lemmas.List.{map-append}
use Rattle.std.proofs.lemmas.Map.Keys.{IsDistinct-head, IsDistinct-tail}
use Rattle.std.specs.List.{IsDistinct, AllByRecursion, list_any}
use Rattle.ir_event.specs.trees.Tree.{OpOf, op, RegionsOf, no_regions, region, RegionOf, empty, block, OpsOf, no_ops, next}
use Rattle.ir_event.specs.trees.Ids.{ids, regions_ids, region_ids, ops_ids}
use Rattle.ir_event.specs.trees.Maps.{map_tree, map_regions, map_region, map_ops}
use Rattle.ir_event.proofs.of_trees.Moves.{Absent, absent_parts}
use Rattle.ir_event.proofs.of_trees.Returns.{Present, Halves}
use Rattle.ir_event.proofs.of_tree_laws.Listed.{or_right}
use Rattle.std.proofs.lemmas.List.Folds.{list_any-append}
use Rattle.op_registry.specs.declared.own.Own.{Own}
use Rattle.effects.specs.Points.{Point, points, regions_points, region_points, ops_points, is_in, weight, Lacks, Childless, Apart}

-- ---- joined lists

pub weight_joined : (f : ℕ → Bool) (x : ℕ) (ms ns : List Point) → weight f x (ms ++ ns) ≡ weight f x ms + weight f x ns
weight_joined f x [] ns = omega arith
weight_joined f x (m ∷ ms) ns = let more = weight_joined f x ms ns in omega (arith, more)

pub lacks_joined : (x : ℕ) (ms ns : List Point) → Lacks x ms → Lacks x ns → Lacks x (ms ++ ns)
lacks_joined x [] ns l k = k
lacks_joined x (m ∷ ms) ns l k = (l.0, lacks_joined x ms ns l.1 k)

pub lacks_parts : (x : ℕ) (ms ns : List Point) → Lacks x (ms ++ ns) → Lacks x ms × Lacks x ns
lacks_parts x [] ns l = (tt, l)
lacks_parts x (m ∷ ms) ns l = let b = lacks_parts x ms ns l.1 in ((l.0, b.0), b.1)

pub childless_joined : (x : ℕ) (ms ns : List Point) → Childless x ms → Childless x ns → Childless x (ms ++ ns)
childless_joined x [] ns c d = d
childless_joined x (m ∷ ms) ns c d = (c.0, childless_joined x ms ns c.1 d)

-- ---- ids

pub present_left : (x : ℕ) (xs ys : List ℕ) → Present x xs → Present x (xs ++ ys)
present_left x xs ys h = list_any-append (λ y. eqb y x) xs ys ∙ ap (λ b. b || list_any (λ y. eqb y x) ys) h

pub present_right : (x : ℕ) (xs ys : List ℕ) → Present x ys → Present x (xs ++ ys)
present_right x xs ys h = list_any-append (λ y. eqb y x) xs ys ∙ or_right _ _ h

pub flipped : (xs ys : List ℕ) → Halves xs ys → (y : ℕ) → Present y ys → Absent y xs
flipped xs ys h y p = elim (cases_Bool (list_any (λ z. eqb z y) xs)) [ inl q ↦ absurd (true≢false (sym p ∙ h.disjoint y q)) | inr q ↦ q ]

abbrev pub point_ids : List Point → List ℕ
point_ids ns = map (λ (n : Point). n.id) ns

pub lacks_absent : (x : ℕ) (ns : List Point) → Absent x (point_ids ns) → Lacks x ns
lacks_absent x [] a = tt
lacks_absent x (n ∷ ns) a = let b = or_parts _ _ a in ((λ e. true≢false (sym (eq-eqb n.id x e) ∙ b.0)), lacks_absent x ns b.1)

lacks_all : (x : ℕ) (ns : List Point) → AllByRecursion (λ y. eqb x y ≡ false) (point_ids ns) → Lacks x ns
lacks_all x [] a = tt
lacks_all x (n ∷ ns) a = ((λ e. true≢false (sym (eq-eqb x n.id (sym e)) ∙ a.0)), lacks_all x ns a.1)

pub apart_distinct : (ns : List Point) → IsDistinct eqb (point_ids ns) → Apart ns
apart_distinct [] d = tt
apart_distinct (n ∷ ns) d = (lacks_all n.id ns (IsDistinct-head eqb n.id _ d), apart_distinct ns (IsDistinct-tail eqb n.id _ d))

module _ {N T A : Type 0} (own : N → Own) where
  mutual
    pub points_ids : (p : Option ℕ) (t : OpOf N T A) → point_ids (points own p t) ≡ ids t
    points_ids p (op h rs) = ap (λ l. h.id ∷ l) (regions_points_ids h.id rs)

    pub regions_points_ids : (p : ℕ) (rs : RegionsOf N T A) → point_ids (regions_points own p rs) ≡ regions_ids rs
    regions_points_ids p no_regions = refl
    regions_points_ids p (region r rs) = map-append (λ (n : Point). n.id) (region_points own p r) (regions_points own p rs) ∙ λ i. region_points_ids p r i ++ regions_points_ids p rs i

    pub region_points_ids : (p : ℕ) (r : RegionOf N T A) → point_ids (region_points own p r) ≡ region_ids r
    region_points_ids p empty = refl
    region_points_ids p (block args os) = ops_points_ids p os

    pub ops_points_ids : (p : ℕ) (os : OpsOf N T A) → point_ids (ops_points own p os) ≡ ops_ids os
    ops_points_ids p no_ops = refl
    ops_points_ids p (next o os) = map-append (λ (n : Point). n.id) (points own (Some p) o) (ops_points own p os) ∙ λ i. points_ids (Some p) o i ++ ops_points_ids p os i

  -- an operation that isn't in the tree has no children
  mutual
    pub childless_op : (x : ℕ) (p : Option ℕ) (t : OpOf N T A) → is_in x p ≡ false → Absent x (ids t) → Childless x (points own p t)
    childless_op x p (op h rs) i a = let b = or_parts _ _ a in (i, childless_regions x h.id rs b.0 b.1)

    pub childless_regions : (x p : ℕ) (rs : RegionsOf N T A) → eqb p x ≡ false → Absent x (regions_ids rs) → Childless x (regions_points own p rs)
    childless_regions x p no_regions i a = tt
    childless_regions x p (region r rs) i a =
        let b = absent_parts x (region_ids r) (regions_ids rs) a in childless_joined x (region_points own p r) (regions_points own p rs) (childless_region x p r i b.0) (childless_regions x p rs i b.1)

    pub childless_region : (x p : ℕ) (r : RegionOf N T A) → eqb p x ≡ false → Absent x (region_ids r) → Childless x (region_points own p r)
    childless_region x p empty i a = tt
    childless_region x p (block args os) i a = childless_ops x p os i a

    pub childless_ops : (x p : ℕ) (os : OpsOf N T A) → eqb p x ≡ false → Absent x (ops_ids os) → Childless x (ops_points own p os)
    childless_ops x p no_ops i a = tt
    childless_ops x p (next o os) i a =
        let b = absent_parts x (ids o) (ops_ids os) a in childless_joined x (points own (Some p) o) (ops_points own p os) (childless_op x (Some p) o i b.0) (childless_ops x p os i b.1)

-- the operations of a tree with other names
module _ {N T A M U B : Type 0} (f : N → M) (g : T → U) (h : A → B) (own : M → Own) where
  mutual
    pub mapped_points : (p : Option ℕ) (t : OpOf N T A) → points own p (map_tree f g h t) ≡ points (λ n. own (f n)) p t
    mapped_points p (op x rs) = ap (λ l. record { id = x.id; parent = p; own = own (f x.name) } ∷ l) (mapped_regions x.id rs)

    pub mapped_regions : (p : ℕ) (rs : RegionsOf N T A) → regions_points own p (map_regions f g h rs) ≡ regions_points (λ n. own (f n)) p rs
    mapped_regions p no_regions = refl
    mapped_regions p (region r rs) = λ i. mapped_region p r i ++ mapped_regions p rs i

    pub mapped_region : (p : ℕ) (r : RegionOf N T A) → region_points own p (map_region f g h r) ≡ region_points (λ n. own (f n)) p r
    mapped_region p empty = refl
    mapped_region p (block args os) = mapped_ops p os

    pub mapped_ops : (p : ℕ) (os : OpsOf N T A) → ops_points own p (map_ops f g h os) ≡ ops_points (λ n. own (f n)) p os
    mapped_ops p no_ops = refl
    mapped_ops p (next o os) = λ i. mapped_points (Some p) o i ++ mapped_ops p os i
