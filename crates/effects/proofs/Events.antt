-- A table that is updated after an event keeps the tree after it.
use Rattle.std.proofs.Common.{◌≡◌, ℕ, ◌+◌, List, [], ◌∷◌, ◌++◌, Bool, Option, Some, None, inl, inr, refl, sym, ap, ◌∙◌, subst, arith, eqb, ◌&&◌, ◌||◌}
use Rattle.std.proofs.lemmas.Bool.{ne_eqb}
use Rattle.std.specs.List.{IsDistinct}
use Rattle.ir_event.specs.trees.declared.place.Place.{Place}
use Rattle.ir_event.specs.trees.Tree.{HeadOf, OpOf, op, RegionsOf, no_regions, region, RegionOf, empty, block, OpsOf, no_ops, next, head, regions}
use Rattle.ir_event.specs.trees.Ids.{ids, find, HasDistinctIds}
use Rattle.ir_event.specs.trees.Edits.{each_head, regions_each_head, region_each_head, ops_each_head}
use Rattle.ir_event.specs.trees.WellFormed.{ModuleOf}
use Rattle.ir_event.proofs.of_trees.Moves.{Absent}
use Rattle.ir_event.specs.tree_laws.Changes.{HoldNone, Takes, Shifts}
use Rattle.effects.specs.declared.effect_kinds.EffectKinds.{EffectKinds}
use Rattle.op_registry.specs.declared.own.Own.{Own}
use Rattle.ir_event.specs.tree_laws.Members.{In}
use Rattle.effects.specs.Points.{Point, points, regions_points, region_points, ops_points, one_if, is_in, weight, Lacks, Childless, Apart, Rows, has_at, Holds}
use Rattle.effects.specs.Following.{Whole, PutIn, TakenOut, ShiftedTo}
use Rattle.ir_event.proofs.of_tree_laws.Listed.{in_left, in_right, in_parts}
use Rattle.effects.proofs.Spotted.{weight_joined, lacks_joined, lacks_parts, point_ids, apart_distinct, points_ids, childless_op}
use Rattle.effects.proofs.Cuts.{cut}
use Rattle.std.proofs.lemmas.Option.{same_Some}

-- ---- the same operations in another order

pub record Alike (ns ms : List Point) : Type 0 where
  pub there : (n : Point) → In n ns → In n ms
  pub back : (n : Point) → In n ms → In n ns
  pub weights : (f : ℕ → Bool) (x : ℕ) → weight f x ns ≡ weight f x ms

lacks_if : (x : ℕ) (ns : List Point) → ((n : Point) → In n ns → n.id ≡ x → ⊥) → Lacks x ns
lacks_if x [] h = tt
lacks_if x (n ∷ ns) h = (h n (inl refl), lacks_if x ns (λ m a. h m (inr a)))

pub lacks_then : (x : ℕ) (ns : List Point) (n : Point) → Lacks x ns → In n ns → n.id ≡ x → ⊥
lacks_then x [] n l a e = absurd a
lacks_then x (m ∷ ms) n l a e = elim a [ inl eq ↦ l.0 (ap (λ (s : Point). s.id) (sym eq) ∙ e) | inr b ↦ lacks_then x ms n l.1 b e ]

pub holds_alike : (rows : Rows) (ns ms : List Point) (p : Option ℕ) (more less : EffectKinds) → Alike ns ms → Holds rows ns p more less → Holds rows ms p more less
holds_alike rows ns ms p more less s h = record {
  known = λ n a. h.known n (s.back n a);
  only = λ x l. h.only x (lacks_if x ns (λ n a. lacks_then x ms n l (s.there n a)));
  counts = λ e n a. let c = h.counts e n (s.back n a) in let w = s.weights (has_at e rows) n.id in omega (arith, c, w);
  each = λ e n a. h.each e n (s.back n a);
}

pub alike_sym : (ns ms : List Point) → Alike ns ms → Alike ms ns
alike_sym ns ms s = record { there = s.back; back = s.there; weights = λ f x. sym (s.weights f x) }

pub alike_join : (ls ms ns : List Point) → Alike ls ms → Alike ms ns → Alike ls ns
alike_join ls ms ns s t = record { there = λ n a. t.there n (s.there n a); back = λ n a. s.back n (t.back n a); weights = λ f x. s.weights f x ∙ t.weights f x }

pub alike_cons : (m : Point) (ls ns : List Point) → Alike ls ns → Alike (m ∷ ls) (m ∷ ns)
alike_cons m ls ns s = record {
  there = λ n a. elim a [ inl e ↦ inl e | inr b ↦ inr (s.there n b) ];
  back = λ n a. elim a [ inl e ↦ inl e | inr b ↦ inr (s.back n b) ];
  weights = λ f x. ap (λ w. one_if (is_in x m.parent && f m.id) + w) (s.weights f x);
}

pub alike_moved : (preceding mid back : List Point) → Alike (preceding ++ (mid ++ back)) (mid ++ (preceding ++ back))
alike_moved preceding mid back = record {
  there = λ n a. elim (in_parts n preceding (mid ++ back) a) [
    | inl b ↦ in_right n mid (preceding ++ back) (in_left n preceding back b)
    | inr b ↦ elim (in_parts n mid back b) [ inl d ↦ in_left n mid (preceding ++ back) d | inr d ↦ in_right n mid (preceding ++ back) (in_right n preceding back d) ]
  ];
  back = λ n a. elim (in_parts n mid (preceding ++ back) a) [
    | inl b ↦ in_right n preceding (mid ++ back) (in_left n mid back b)
    | inr b ↦ elim (in_parts n preceding back b) [ inl d ↦ in_left n preceding (mid ++ back) d | inr d ↦ in_right n preceding (mid ++ back) (in_right n mid back d) ]
  ];
  weights = λ f x. let a = weight_joined f x preceding (mid ++ back) in let b = weight_joined f x mid back in let d = weight_joined f x mid (preceding ++ back) in let e = weight_joined f x preceding back in omega (arith, a, b, d, e);
}

-- distinct ids
apart_less : (preceding : List Point) (n : Point) (back : List Point) → Apart (preceding ++ (n ∷ back)) → Apart (preceding ++ back)
apart_less [] n back d = d.1
apart_less (f ∷ fs) n back d = let l = lacks_parts f.id fs (n ∷ back) d.0 in (lacks_joined f.id fs back l.0 l.1.1, apart_less fs n back d.1)

lacks_middle : (preceding : List Point) (n : Point) (back : List Point) → Apart (preceding ++ (n ∷ back)) → Lacks n.id (preceding ++ back)
lacks_middle [] n back d = d.0
lacks_middle (f ∷ fs) n back d = let l = lacks_parts f.id fs (n ∷ back) d.0 in ((λ e. l.1.0 (sym e)), lacks_middle fs n back d.1)

pub apart_first : (preceding : List Point) (n : Point) (back : List Point) → Apart (preceding ++ (n ∷ back)) → Apart (n ∷ (preceding ++ back))
apart_first preceding n back d = (lacks_middle preceding n back d, apart_less preceding n back d)

pub absent_lacks : (x : ℕ) (ns : List Point) → Lacks x ns → Absent x (point_ids ns)
absent_lacks x [] l = refl
absent_lacks x (n ∷ ns) l = λ i. ne_eqb n.id x l.0 i || absent_lacks x ns l.1 i

-- ---- events

module _ {N T A : Type 0} (own : N → Own) where
  pub apart_points : (t : OpOf N T A) → HasDistinctIds t → Apart (points own None t)
  apart_points t d = apart_distinct (points own None t) (subst (IsDistinct eqb) (sym (points_ids own None t)) d)

  -- blocks without operations
  no_points : (p : ℕ) (rs : RegionsOf N T A) → HoldNone rs → regions_points own p rs ≡ []
  no_points p no_regions h = refl
  no_points p (region empty rs) h = no_points p rs h
  no_points p (region (block args no_ops) rs) h = no_points p rs h
  no_points p (region (block args (next o os)) rs) h = absurd h

  abbrev point_at : Option ℕ → OpOf N T A → Point
  point_at p o = record { id = (head o).id; parent = p; own = own (head o).name }

  one_point : (p : Option ℕ) (o : OpOf N T A) → HoldNone (regions o) → points own p o ≡ point_at p o ∷ []
  one_point p (op h rs) e = ap (λ l. record { id = h.id; parent = p; own = own h.name } ∷ l) (no_points h.id rs e)

  abbrev inside : OpOf N T A → List Point
  inside o = regions_points own (head o).id (regions o)

  points_are : (p : Option ℕ) (o : OpOf N T A) → points own p o ≡ point_at p o ∷ inside o
  points_are p (op h rs) = refl

  pub put_follows : (x : ℕ) (place : Place) (fresh : Bool) (m n : ModuleOf N T A) (a b : Rows) → HasDistinctIds n.tree → Takes x place fresh n m
      → ((o : OpOf N T A) → find x n.tree ≡ Some o → PutIn x (Some place.parent) (own (head o).name) a b) → Whole a (points own None m.tree) → Whole b (points own None n.tree)
  put_follows x place fresh m n a b d takes put h =
      let c = cut own x n.tree place d takes.there in
      let s = point_at (Some place.parent) c.here in
      let whole : points own None n.tree ≡ c.preceding ++ (s ∷ c.back) = c.was ∙ ap (λ l. c.preceding ++ (l ++ c.back)) (one_point (Some place.parent) c.here (takes.empty c.here c.is)) in
      let left : points own None m.tree ≡ c.preceding ++ c.back = ap (points own None) takes.left ∙ c.rest in
      let apart = apart_first c.preceding s c.back (subst Apart whole (apart_points n.tree d)) in
      let absent : Absent x (ids m.tree) = subst (Absent x) (ap point_ids (sym left) ∙ points_ids own None m.tree) (subst (λ y. Absent y (point_ids (c.preceding ++ c.back))) c.id (absent_lacks s.id (c.preceding ++ c.back) apart.0)) in
      let childless : Childless s.id (c.preceding ++ c.back) = subst (λ y. Childless y (c.preceding ++ c.back)) (sym c.id) (subst (Childless x) left (childless_op own x None m.tree refl absent)) in
      let now = put c.here c.is s (c.preceding ++ c.back) c.id refl refl apart childless (subst (Whole a) left h) in
      subst (Whole b) (sym whole) (holds_alike b _ _ None _ _ (alike_sym _ _ (alike_moved c.preceding (s ∷ []) c.back)) now)

  pub take_follows : (x : ℕ) (place : Place) (fresh : Bool) (m n : ModuleOf N T A) (a b : Rows) → HasDistinctIds m.tree → Takes x place fresh m n → TakenOut x a b → Whole a (points own None m.tree) → Whole b (points own None n.tree)
  take_follows x place fresh m n a b d takes taken h =
      let c = cut own x m.tree place d takes.there in
      let s = point_at (Some place.parent) c.here in
      let whole : points own None m.tree ≡ c.preceding ++ (s ∷ c.back) = c.was ∙ ap (λ l. c.preceding ++ (l ++ c.back)) (one_point (Some place.parent) c.here (takes.empty c.here c.is)) in
      let left : points own None n.tree ≡ c.preceding ++ c.back = ap (points own None) takes.left ∙ c.rest in
      let apart = apart_first c.preceding s c.back (subst Apart whole (apart_points m.tree d)) in
      let before = holds_alike a _ _ None _ _ (alike_moved c.preceding (s ∷ []) c.back) (subst (Whole a) whole h) in
      subst (Whole b) (sym left) (taken s (c.preceding ++ c.back) c.id apart before)

  pub shift_follows : (is_table : N → Bool) (x : ℕ) (old new : Place) (m n : ModuleOf N T A) (a b : Rows) → HasDistinctIds m.tree → HasDistinctIds n.tree → Shifts is_table x old new m n → ShiftedTo x (Some new.parent) a b
      → Whole a (points own None m.tree) → Whole b (points own None n.tree)
  shift_follows is_table x old new m n a b d e shifts shifted h =
      let c = cut own x m.tree old d shifts.was in
      let k = cut own x n.tree new e shifts.is in
      let same : k.here ≡ c.here = same_Some k.here c.here (sym k.is ∙ shifts.same ∙ c.is) in
      let rest = inside c.here in
      let s = point_at (Some old.parent) c.here in
      let t = point_at (Some new.parent) c.here in
      let was : points own None m.tree ≡ c.preceding ++ (s ∷ (rest ++ c.back)) = c.was ∙ ap (λ l. c.preceding ++ (l ++ c.back)) (points_are (Some old.parent) c.here) in
      let is : points own None n.tree ≡ k.preceding ++ (t ∷ (rest ++ k.back)) = k.was ∙ ap (λ o. k.preceding ++ (points own (Some new.parent) o ++ k.back)) same ∙ ap (λ l. k.preceding ++ (l ++ k.back)) (points_are (Some new.parent) c.here) in
      let left : c.preceding ++ c.back ≡ k.preceding ++ k.back = sym c.rest ∙ ap (points own None) (sym shifts.rest) ∙ k.rest in
      let apart = apart_first c.preceding s (rest ++ c.back) (subst Apart was (apart_points m.tree d)) in
      let before = holds_alike a _ _ None _ _ (alike_moved c.preceding (s ∷ []) (rest ++ c.back)) (subst (Whole a) was h) in
      let after = shifted s (c.preceding ++ (rest ++ c.back)) c.id apart before in
      let others : Alike (c.preceding ++ (rest ++ c.back)) (k.preceding ++ (rest ++ k.back)) =
      alike_join _ _ _ (subst (λ l. Alike (c.preceding ++ (rest ++ c.back)) (rest ++ l)) left (alike_moved c.preceding rest c.back)) (alike_sym _ _ (alike_moved k.preceding rest k.back)) in
      let there = holds_alike b _ _ None _ _ (alike_join _ _ _ (alike_cons t _ _ others) (alike_sym _ _ (alike_moved k.preceding (t ∷ []) (rest ++ k.back)))) after in
      subst (Whole b) (sym is) there

  -- an edit of heads that keeps ids and names
  module _ (f : HeadOf N T A → HeadOf N T A) (id : (h : HeadOf N T A) → (f h).id ≡ h.id) (name : (h : HeadOf N T A) → (f h).name ≡ h.name) where
    mutual
      pub head_points : (p : Option ℕ) (t : OpOf N T A) → points own p (each_head f t) ≡ points own p t
      head_points p (op h rs) = λ i. record { id = id h i; parent = p; own = own (name h i) } ∷ (ap (λ x. regions_points own x (regions_each_head f rs)) (id h) ∙ regions_head_points h.id rs) i

      regions_head_points : (p : ℕ) (rs : RegionsOf N T A) → regions_points own p (regions_each_head f rs) ≡ regions_points own p rs
      regions_head_points p no_regions = refl
      regions_head_points p (region r rs) = λ i. region_head_points p r i ++ regions_head_points p rs i

      region_head_points : (p : ℕ) (r : RegionOf N T A) → region_points own p (region_each_head f r) ≡ region_points own p r
      region_head_points p empty = refl
      region_head_points p (block args os) = ops_head_points p os

      ops_head_points : (p : ℕ) (os : OpsOf N T A) → ops_points own p (ops_each_head f os) ≡ ops_points own p os
      ops_head_points p no_ops = refl
      ops_head_points p (next o os) = λ i. head_points (Some p) o i ++ ops_head_points p os i
