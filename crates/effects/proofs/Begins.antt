-- A table built by inserting each operation of a tree.
use Rattle.std.proofs.Common.{◌≡◌, ℕ, List, [], ◌∷◌, ◌++◌, false, true≢false, Option, Some, None, refl, sym, ap, ◌∙◌, subst, eqb, ◌||◌}
use Rattle.std.proofs.lemmas.Bool.{eq-eqb}
use Rattle.std.proofs.lemmas.Map.Keys.{IsDistinct-tail}
use Rattle.std.specs.List.{IsDistinct, list_any}
use Rattle.ir_event.specs.trees.Tree.{HeadOf, OpOf, op, RegionsOf, no_regions, region, RegionOf, empty, block, OpsOf, no_ops, next}
use Rattle.ir_event.specs.trees.Ids.{ids, regions_ids, region_ids, ops_ids, HasDistinctIds}
use Rattle.ir_event.proofs.of_trees.Moves.{Absent, absent_parts}
use Rattle.ir_event.proofs.of_trees.Returns.{Present, halves, differ, absent_first}
use Rattle.op_registry.specs.declared.own.Own.{Own}
use Rattle.effects.specs.Effects.{none}
use Rattle.effects.specs.Points.{Point, points, regions_points, region_points, ops_points, is_in, Lacks, Childless, Apart, Rows}
use Rattle.effects.specs.Following.{Whole, PutAll}
use Rattle.ir_event.proofs.of_tree_laws.Listed.{or_right}
use Rattle.effects.proofs.Spotted.{present_left, present_right, flipped, lacks_absent, points_ids, region_points_ids, childless_op, childless_region}
use Rattle.effects.proofs.Events.{Alike, holds_alike, alike_join, alike_moved}

pub put_joined : (xs ys : List Point) (a b c : Rows) → PutAll xs a b → PutAll ys b c → PutAll (xs ++ ys) a c
put_joined [] ys a b c p q = subst (λ (z : Rows). PutAll ys z c) p q
put_joined (x ∷ xs) ys a b c p q = (p.0, p.1, put_joined xs ys p.0 b c p.2 q)

-- the list in reverse, before ns
abbrev onto : List Point → List Point → List Point
onto [] ns = ns
onto (e ∷ es) ns = onto es (e ∷ ns)

-- each operation may be inserted after those before it
abbrev Growing : List Point → List Point → Type 0
Growing ns [] = Unit {0}
Growing ns (e ∷ es) = Apart (e ∷ ns) × (Childless e.id ns × Growing (e ∷ ns) es)

all_put : (es ns : List Point) (a b : Rows) → PutAll es a b → Growing ns es → Whole a ns → Whole b (onto es ns)
all_put [] ns a b p g h = subst (λ (z : Rows). Whole z ns) (sym p) h
all_put (e ∷ es) ns a b p g h = all_put es (e ∷ ns) p.0 b p.2 g.1.1 (p.1 e ns refl refl refl g.0 g.1.0 h)

alike_self : (ns : List Point) → Alike ns ns
alike_self ns = record { there = λ n a. a; back = λ n a. a; weights = λ f x. refl }

alike_onto : (es ns : List Point) → Alike (onto es ns) (es ++ ns)
alike_onto [] ns = alike_self ns
alike_onto (e ∷ es) ns = alike_join _ _ _ (alike_onto es (e ∷ ns)) (alike_moved es (e ∷ []) ns)

growing_apart : (ns es : List Point) → Growing ns es → Apart ns → Apart (onto es ns)
growing_apart ns [] g a = a
growing_apart ns (e ∷ es) g a = growing_apart (e ∷ ns) es g.1.1 g.0

growing_joined : (ns es fs : List Point) → Growing ns es → Growing (onto es ns) fs → Growing ns (es ++ fs)
growing_joined ns [] fs g k = k
growing_joined ns (e ∷ es) fs g k = (g.0, (g.1.0, growing_joined (e ∷ ns) es fs g.1.1 k))

lacks_onto : (x : ℕ) (es ns : List Point) → Lacks x es → Lacks x ns → Lacks x (onto es ns)
lacks_onto x [] ns l k = k
lacks_onto x (e ∷ es) ns l k = lacks_onto x es (e ∷ ns) l.1 (l.0, k)

childless_onto : (x : ℕ) (es ns : List Point) → Childless x es → Childless x ns → Childless x (onto es ns)
childless_onto x [] ns l k = k
childless_onto x (e ∷ es) ns l k = childless_onto x es (e ∷ ns) l.1 (l.0, k)

append_nothing : (ns : List Point) → ns ++ [] ≡ ns
append_nothing [] = refl
append_nothing (n ∷ ns) = ap (λ l. n ∷ l) (append_nothing ns)

-- no operation of the list has one of these ids or a parent with one
abbrev Clear : List ℕ → List Point → Type 0
Clear xs ns = (x : ℕ) → Present x xs → Lacks x ns × Childless x ns

clear_onto : (xs ys : List ℕ) (es ns : List Point) → ((x : ℕ) → Present x ys → Lacks x es × Childless x es) → Clear (xs ++ ys) ns → Clear ys (onto es ns)
clear_onto xs ys es ns h k x p = let a = h x p in let b = k x (present_right x xs ys p) in (lacks_onto x es ns a.0 b.0, childless_onto x es ns a.1 b.1)

module _ {N T A : Type 0} (own : N → Own) where
  grow_around : (p : Option ℕ) (h : HeadOf N T A) (rs : RegionsOf N T A) (ns : List Point) → IsDistinct eqb (ids (op h rs)) → Apart ns → Clear (ids (op h rs)) ns → ((x : ℕ) → Present x (ids (op h rs)) → is_in x p ≡ false)
      → Clear (regions_ids rs) (record { id = h.id; parent = p; own = own h.name } ∷ ns)
  grow_around p h rs ns d a c outside x q =
      let r : Present x (ids (op h rs)) = or_right (eqb h.id x) _ q in
      let b = c x r in
      let ne = differ h.id x (regions_ids rs) (absent_first h.id (regions_ids rs) d) q in
      (((λ e. true≢false (sym (eq-eqb h.id x e) ∙ ne)), b.0), (outside x r, b.1))

  here_clear : (p : Option ℕ) (h : HeadOf N T A) (rs : RegionsOf N T A) (ns : List Point) → Clear (ids (op h rs)) ns → Lacks h.id ns × Childless h.id ns
  here_clear p h rs ns c = c h.id (ap (λ b. b || list_any (λ y. eqb y h.id) (regions_ids rs)) (eq-eqb h.id h.id refl))

  mutual
    grow_regions : (p : ℕ) (rs : RegionsOf N T A) (ns : List Point) → IsDistinct eqb (regions_ids rs) → Absent p (regions_ids rs) → Apart ns → Clear (regions_ids rs) ns → Growing ns (regions_points own p rs)
    grow_regions p no_regions ns d q a c = tt
    grow_regions p (region r rs) ns d q a c =
        let half = halves (region_ids r) (regions_ids rs) d in
        let b = absent_parts p (region_ids r) (regions_ids rs) q in
        let ms = region_points own p r in
        let first = grow_region p r ns half.left b.0 a (λ x k. c x (present_left x (region_ids r) (regions_ids rs) k)) in
        growing_joined ns ms (regions_points own p rs) first
        (grow_regions p rs (onto ms ns) half.right b.1 (growing_apart ns ms first a)
        (clear_onto (region_ids r) (regions_ids rs) ms ns
        (λ x k. let away = flipped (region_ids r) (regions_ids rs) half x k in
        (lacks_absent x ms (subst (Absent x) (sym (region_points_ids own p r)) away), childless_region own x p r (differ p x (regions_ids rs) b.1 k) away)) c))

    grow_region : (p : ℕ) (r : RegionOf N T A) (ns : List Point) → IsDistinct eqb (region_ids r) → Absent p (region_ids r) → Apart ns → Clear (region_ids r) ns → Growing ns (region_points own p r)
    grow_region p empty ns d q a c = tt
    grow_region p (block args os) ns d q a c = grow_ops p os ns d q a c

    grow_ops : (p : ℕ) (os : OpsOf N T A) (ns : List Point) → IsDistinct eqb (ops_ids os) → Absent p (ops_ids os) → Apart ns → Clear (ops_ids os) ns → Growing ns (ops_points own p os)
    grow_ops p no_ops ns d q a c = tt
    grow_ops p (next (op h rs) os) ns d q a c =
        let xs = ids (op h rs) in
        let half = halves xs (ops_ids os) d in
        let b = absent_parts p xs (ops_ids os) q in
        let ms = points own (Some p) (op h rs) in
        let mine : Clear xs ns = λ x k. c x (present_left x xs (ops_ids os) k) in
        let outside : (x : ℕ) → Present x xs → is_in x (Some p) ≡ false = λ x k. differ p x xs b.0 k in
        let clear = here_clear (Some p) h rs ns mine in
        let s : Point = record { id = h.id; parent = Some p; own = own h.name } in
        let first : Growing ns ms = ((clear.0, a), (clear.1, grow_regions h.id rs (s ∷ ns) (IsDistinct-tail eqb h.id (regions_ids rs) half.left) (absent_first h.id (regions_ids rs) half.left) (clear.0, a) (grow_around (Some p) h rs ns half.left a mine outside))) in
        growing_joined ns ms (ops_points own p os) first
        (grow_ops p os (onto ms ns) half.right b.1 (growing_apart ns ms first a)
        (clear_onto xs (ops_ids os) ms ns
        (λ x k. let away = flipped xs (ops_ids os) half x k in
        (lacks_absent x ms (subst (Absent x) (sym (points_ids own (Some p) (op h rs))) away), childless_op own x (Some p) (op h rs) (differ p x (ops_ids os) b.1 k) away)) c))

  grow : (t : OpOf N T A) → HasDistinctIds t → Growing [] (points own None t)
  grow (op h rs) d = ((tt, tt), (tt, grow_regions h.id rs _ (IsDistinct-tail eqb h.id (regions_ids rs) d) (absent_first h.id (regions_ids rs) d) (tt, tt) (grow_around None h rs [] d tt (λ x k. (tt, tt)) (λ x k. refl))))

  -- an empty table into which each operation of a tree was inserted keeps the tree
  pub begun : (t : OpOf N T A) (a b : Rows) → HasDistinctIds t → ((x : ℕ) → a x ≡ None) → PutAll (points own None t) a b → Whole b (points own None t)
  begun t a b d vacant p =
      let start : Whole a [] = record { known = λ n k. absurd k; only = λ x l. vacant x; counts = λ e n k. absurd k; each = λ e n k. absurd k } in
      subst (Whole b) (append_nothing (points own None t)) (holds_alike b _ _ None none none (alike_onto (points own None t) []) (all_put (points own None t) [] a b p (grow t d) start))
