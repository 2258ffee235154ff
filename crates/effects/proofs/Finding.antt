-- The operations of a store's module are found by their ids.
use Rattle.std.proofs.Common.{◌≡◌, ℕ, List, [], ◌∷◌, ◌++◌, Option, Some, None, refl, sym, ap, ◌∙◌, subst, map, inl, inr}
use Rattle.std.specs.Prelude.{option_map}
use Rattle.std.specs.FinMap as finmap
use Rattle.ir_event.specs.trees.declared.place.Place.{Place}
use Rattle.ir_event.specs.trees.Tree.{Head, Op, OpOf, op, head}
use Rattle.ir_event.specs.trees.Ids.{ids, find, first_of, HasDistinctIds}
use Rattle.ir_event.specs.trees.Places.{place_of}
use Rattle.ir_event.specs.tree_laws.Members.{In}
use Rattle.ir_event.specs.tree_laws.Reads.{parent_of}
use Rattle.ir_event.specs.tree_laws.Stands.{StepOf, OpWithPathOf, op_with_path_id, stands, place_in}
use Rattle.ir_event.proofs.of_tree_laws.Around.{member_of_place, place_of_member}
use Rattle.ir_event.proofs.of_tree_laws.Listed.{in_mapped}
use Rattle.ir_event.proofs.of_tree_laws.Members.{same_stand, stand, stand_found}
use Rattle.ir_event.specs.store.Nodes.{Node, node_of}
use Rattle.ir_event.specs.store.Stored.{Stored}
use Rattle.op_registry.specs.declared.own.Own.{Own}
use Rattle.effects.specs.Points.{Point, points}
use Rattle.ir_event.specs.Heads.{heads}
use Rattle.effects.specs.Found.{head_at, parent_at, with_head, heads_by, with_point, points_by}
use Rattle.effects.proofs.Cuts.{around, point_in, stand_points}
use Rattle.ir_event.proofs.Flat.{heads_ids}
use Rattle.effects.proofs.Headed.{head_in, stand_heads}
use Rattle.effects.proofs.Spotted.{points_ids}

-- ---- one more at the front

pub head_joined : (x : ℕ) (o : Option Head) (hs : List Head) → with_head x o hs ≡ with_head x o [] ++ hs
head_joined x None hs = refl
head_joined x (Some h) hs = refl

pub point_joined : (own : ℕ → Own) (x : ℕ) (p : Option ℕ) (o : Option Head) (ns : List Point) → with_point own x p o ns ≡ with_point own x p o [] ++ ns
point_joined own x p None ns = refl
point_joined own x p (Some h) ns = refl

-- ---- operations of a tree

-- the parent of an operation is the innermost operation on its path
module _ {N T A : Type 0} (own : N → Own) where
  pub around_is : (t : OpOf N T A) → HasDistinctIds t → (s : OpWithPathOf N T A) → In s (stands [] t) → parent_of (op_with_path_id s) t ≡ around own s.path
  around_is t d s m = go s.here s.path m
    where
      go : (o : OpOf N T A) (path : List (StepOf N T A)) → In (stand o path) (stands [] t) → parent_of (head o).id t ≡ around own path
      go o (a ∷ q) m = ap (option_map (λ (p : Place). p.parent)) (place_of_member t d o a q m)
      go o [] m = rest (place_of (head o).id t) refl
        where
          rest : (q : Option Place) → place_of (head o).id t ≡ q → option_map (λ (p : Place). p.parent) (place_of (head o).id t) ≡ None
          rest None e = ap (option_map (λ (p : Place). p.parent)) e
          rest (Some place) e =
              let u = member_of_place (head o).id place t e in
              let same : u.0 ≡ stand o [] = same_stand t d u.0 (stand o []) u.1 m u.2 in
              let bad : None ≡ Some place = sym (ap (λ (s : OpWithPathOf N T A). place_in s.path) same) ∙ u.3 in
              absurd cc

-- an operation of a store's module has its head
shown : (s : Stored) (x : ℕ) (o : Op) → find x s.module_of.tree ≡ Some o → head_at s x ≡ Some (head o)
shown s x o e = ap (λ q. option_map (λ (n : Node). n.head) (option_map node_of (first_of q (finmap.get s.held x)))) e ∙ own_head o
  where
    own_head : (o : Op) → Some (node_of o).head ≡ Some (head o)
    own_head (op h rs) = refl

-- ---- heads

along : (f : ℕ → Option Head) (hs : List Head) → ((h : Head) → In h hs → f h.id ≡ Some h) → heads_by f (map (λ (h : Head). h.id) hs) ≡ hs
along f [] k = refl
along f (h ∷ hs) k = λ i. with_head h.id (k h (inl refl) i) (along f hs (λ g m. k g (inr m)) i)

-- those of a store's module
pub heads_found : (s : Stored) (xs : List ℕ) → HasDistinctIds s.module_of.tree → xs ≡ ids s.module_of.tree → heads_by (head_at s) xs ≡ heads s.module_of.tree
heads_found s xs d e = ap (heads_by (head_at s)) (e ∙ sym (heads_ids s.module_of.tree)) ∙ along (head_at s) (heads s.module_of.tree) there
  where
    there : (h : Head) → In h (heads s.module_of.tree) → head_at s h.id ≡ Some h
    there h m =
        let t = s.module_of.tree in
        let w = in_mapped head_in h (stands [] t) (subst (In h) (sym (stand_heads [] t)) m) in
        subst (λ (g : Head). head_at s g.id ≡ Some g) (sym w.2) (shown s (op_with_path_id w.0) w.0.here (stand_found t d w.0 w.1))

-- ---- operations with their parents

record Found (own : ℕ → Own) (p : ℕ → Option ℕ) (f : ℕ → Option Head) (n : Point) : Type 0 where
  here : Head
  is : f n.id ≡ Some here
  owns : own here.name ≡ n.own
  parent : p n.id ≡ n.parent

along_points : (own : ℕ → Own) (p : ℕ → Option ℕ) (f : ℕ → Option Head) (ns : List Point) → ((n : Point) → In n ns → Found own p f n) → points_by own p f (map (λ (n : Point). n.id) ns) ≡ ns
along_points own p f [] k = refl
along_points own p f (n ∷ ns) k =
    let w = k n (inl refl) in
    (λ i. with_point own n.id (w.parent i) (w.is i) (along_points own p f ns (λ m h. k m (inr h)) i)) ∙ ap (λ o. record { id = n.id; parent = n.parent; own = o } ∷ ns) w.owns

-- those of a store's module
pub points_found : (own : ℕ → Own) (s : Stored) (xs : List ℕ) → HasDistinctIds s.module_of.tree → xs ≡ ids s.module_of.tree → points_by own (parent_at s) (head_at s) xs ≡ points own None s.module_of.tree
points_found own s xs d e =
    ap (points_by own (parent_at s) (head_at s)) (e ∙ sym (points_ids own None s.module_of.tree)) ∙ along_points own (parent_at s) (head_at s) (points own None s.module_of.tree) there
  where
    there : (n : Point) → In n (points own None s.module_of.tree) → Found own (parent_at s) (head_at s) n
    there n m =
        let t = s.module_of.tree in
        let w = in_mapped (point_in own) n (stands [] t) (subst (In n) (sym (stand_points own [] t)) m) in
        subst (Found own (parent_at s) (head_at s)) (sym w.2)
        record { here = head w.0.here; is = shown s (op_with_path_id w.0) w.0.here (stand_found t d w.0 w.1); owns = refl; parent = around_is own t d w.0 w.1 }
