-- The list of a tree's operations after one is removed or moved.
use Rattle.std.proofs.Common.{◌≡◌, ◌≢◌, ℕ, ◌+◌, List, [], ◌∷◌, ◌++◌, Bool, Option, Some, None, ◌⊎◌, inl, inr, refl, sym, ap, ◌∙◌, subst, cond, eqb, map}
use Rattle.std.specs.Option.{option_map}
use Rattle.std.proofs.lemmas.Bool.{cases_eq}
use Rattle.std.proofs.lemmas.List.{map-append}
use Rattle.ir_event.specs.types.Terms.{TypeTerm, AttrTerm}
use Rattle.ir_event.specs.trees.declared.place.Place.{Place}
use Rattle.ir_event.specs.trees.Tree.{op, RegionsOf, no_regions, region, RegionOf, empty, block, OpsOf, no_ops, next, head, regions}
use Rattle.ir_event.specs.trees.Ids.{find, first_of, HasDistinctIds}
use Rattle.ir_event.specs.trees.Meaning.{Operation}
use Rattle.ir_event.specs.trees.Places.{place_of, without}
use Rattle.ir_event.specs.trees.WellFormed.{ModuleOf}
use Rattle.ir_event.specs.tree_laws.Members.{In}
use Rattle.ir_event.specs.tree_laws.Changes.{HoldNone, Takes, Shifts}
use Rattle.ir_event.specs.tree_laws.Stands.{StepOf, OpWithPathOf, stands, regions_stands, region_stands, ops_stands, place_in, left_stand, dropping}
use Rattle.ir_event.proofs.of_tree_laws.Readings.{step}
use Rattle.ir_event.proofs.of_tree_laws.Members.{stand, stand_found}
use Rattle.ir_event.proofs.of_tree_laws.Around.{member_of_place}
use Rattle.ir_event.proofs.of_tree_laws.Without.{same_head}
use Rattle.ir_event.proofs.of_tree_laws.Stretches.{part}
use Rattle.ir_event.specs.Heads.{heads, regions_heads, region_heads, ops_heads}
use Rattle.constants.specs.Facts.{Header, look}
use Rattle.constants.specs.Walk.{look_among, AreOrdered}
use Rattle.constants.proofs.Walks.{node_there}
use Rattle.constants.proofs.Looked.{among_append, look_heads}

-- the operation is found; its head and the heads of its subtree are in the list between `front` and `back`, and these
-- two are the list without them
record HeadCut (x : ℕ) (found : Option Operation) (whole left : List Header) : Type 0 where
  here : Operation
  is : found ≡ Some here
  id : (head here).id ≡ x
  preceding : List Header
  back : List Header
  was : whole ≡ preceding ++ (heads here ++ back)
  rest : left ≡ preceding ++ back

abbrev OpWithPath : Type 0
OpWithPath = OpWithPathOf (List ℕ) TypeTerm AttrTerm

abbrev head_in : OpWithPath → Header
head_in s = head s.here

mutual
  stand_heads : (path : List (StepOf (List ℕ) TypeTerm AttrTerm)) (t : Operation) → map head_in (stands path t) ≡ heads t
  stand_heads path (op h rs) = ap (λ l. h ∷ l) (regions_stand_heads (op h rs) path 0 rs)

  regions_stand_heads : (p : Operation) (path : List (StepOf (List ℕ) TypeTerm AttrTerm)) (r : ℕ) (rs : RegionsOf (List ℕ) TypeTerm AttrTerm) → map head_in (regions_stands p path r rs) ≡ regions_heads rs
  regions_stand_heads p path r no_regions = refl
  regions_stand_heads p path r (region g rs) =
      map-append head_in (region_stands p path r g) (regions_stands p path (r + 1) rs) ∙ λ i. region_stand_heads p path r g i ++ regions_stand_heads p path (r + 1) rs i

  region_stand_heads : (p : Operation) (path : List (StepOf (List ℕ) TypeTerm AttrTerm)) (r : ℕ) (g : RegionOf (List ℕ) TypeTerm AttrTerm) → map head_in (region_stands p path r g) ≡ region_heads g
  region_stand_heads p path r empty = refl
  region_stand_heads p path r (block args os) = ops_stand_heads p path r args [] os

  ops_stand_heads : (p : Operation) (path : List (StepOf (List ℕ) TypeTerm AttrTerm)) (r : ℕ) (args : List TypeTerm) (preceding : List Operation) (os : OpsOf (List ℕ) TypeTerm AttrTerm) → map head_in (ops_stands p path r args preceding os) ≡ ops_heads os
  ops_stand_heads p path r args preceding no_ops = refl
  ops_stand_heads p path r args preceding (next o os) =
      map-append head_in (stands (step p r args preceding os ∷ path) o) (ops_stands p path r args (preceding ++ o ∷ []) os)
      ∙ λ i. stand_heads (step p r args preceding os ∷ path) o i ++ ops_stand_heads p path r args (preceding ++ o ∷ []) os i

left_heads : (x : ℕ) (ss : List OpWithPath) → map head_in (map (left_stand x) ss) ≡ map head_in ss
left_heads x [] = refl
left_heads x (s ∷ ss) = λ i. same_head x (dropping x) s.here i ∷ left_heads x ss i

cut_heads : (x : ℕ) (t : Operation) (place : Place) → HasDistinctIds t → place_of x t ≡ Some place → HeadCut x (find x t) (heads t) (heads (without x t))
cut_heads x t place d e = let u = member_of_place x place t e in go u.0.here u.0.path u.1 u.2 u.3
  where
    go : (o : Operation) (path : List (StepOf (List ℕ) TypeTerm AttrTerm)) → In (stand o path) (stands [] t) → (head o).id ≡ x → place_in path ≡ Some place → HeadCut x (find x t) (heads t) (heads (without x t))
    go o [] h id at = absurd cc
    go o (a ∷ q) h id at =
        let w = part t d o a q h in
        subst (λ y. HeadCut y (find y t) (heads t) (heads (without y t))) id
        record {
          here = o;
          is = stand_found t d (stand o (a ∷ q)) h;
          id = refl;
          preceding = map head_in w.preceding;
          back = map head_in w.back;
          was = sym (stand_heads [] t)
              ∙ ap (map head_in) w.is
              ∙ map-append head_in w.preceding (stands (a ∷ q) o ++ w.back)
              ∙ ap (λ l. map head_in w.preceding ++ l) (map-append head_in (stands (a ∷ q) o) w.back ∙ ap (λ l. l ++ map head_in w.back) (stand_heads (a ∷ q) o));
          rest = sym (stand_heads [] (without (head o).id t)) ∙ ap (map head_in) w.left ∙ left_heads (head o).id (w.preceding ++ w.back) ∙ map-append head_in w.preceding w.back;
        }

-- blocks without operations
no_heads : (rs : RegionsOf (List ℕ) TypeTerm AttrTerm) → HoldNone rs → regions_heads rs ≡ []
no_heads no_regions h = refl
no_heads (region empty rs) h = no_heads rs h
no_heads (region (block args no_ops) rs) h = no_heads rs h
no_heads (region (block args (next o os)) rs) h = absurd h

one_head : (o : Operation) → HoldNone (regions o) → heads o ≡ head o ∷ []
one_head (op h rs) e = ap (λ l. h ∷ l) (no_heads rs e)

-- a lookup of another id skips this operation
node_past : (xs : List Header) (n : Header) (ys : List Header) (y : ℕ) → y ≢ n.id → look_among (xs ++ n ∷ ys) y ≡ look_among (xs ++ ys) y
node_past [] n ys y ne = node_there n ys y ne
node_past (m ∷ xs) n ys y ne = ap (λ r. cond (eqb y m.id) (Some m) r) (node_past xs n ys y ne)

not_visited : (visited : List ℕ) (hs : List Header) (y : ℕ) → AreOrdered visited hs → In y visited → look_among hs y ≡ None
not_visited visited [] y o h = refl
not_visited visited (n ∷ hs) y o h = elim (cases_eq y n.id) [
  | inl e ↦ absurd (o.0 (subst (λ z. In z visited) e h))
  | inr ne ↦ node_there n hs y ne ∙ not_visited (n.id ∷ visited) hs y o.2 (inr h)
]

ordered_fresh : (visited : List ℕ) (xs : List Header) (n : Header) (ys : List Header) → AreOrdered visited (xs ++ n ∷ ys) → In n.id visited → ⊥
ordered_fresh visited [] n ys o h = o.0 h
ordered_fresh visited (m ∷ xs) n ys o h = ordered_fresh (m.id ∷ visited) xs n ys o.2 (inr h)

-- an operation that was left out isn't found
node_gone : (visited : List ℕ) (xs : List Header) (n : Header) (ys : List Header) → AreOrdered visited (xs ++ n ∷ ys) → look_among (xs ++ ys) n.id ≡ None
node_gone visited [] n ys o = not_visited (n.id ∷ visited) ys n.id o.2 (inl refl)
node_gone visited (m ∷ xs) n ys o = elim (cases_eq n.id m.id) [
  | inl e ↦ absurd (ordered_fresh (m.id ∷ visited) xs n ys o.2 (inl e))
  | inr ne ↦ node_there m (xs ++ ys) n.id ne ∙ node_gone (m.id ∷ visited) xs n ys o.2
]

none_left : (a b : Option Header) → first_of a b ≡ None → a ≡ None
none_left None b e = refl
none_left (Some m) b e = absurd (let f : Some m ≡ None = e in cc)

none_right : (a b : Option Header) → first_of a b ≡ None → b ≡ None
none_right None b e = e
none_right (Some m) b e = absurd (let f : Some m ≡ None = e in cc)

-- only one of two lists in order has the operation
apart : (visited : List ℕ) (xs ys : List Header) (y : ℕ) → AreOrdered visited (xs ++ ys) → (look_among xs y ≡ None) ⊎ (look_among ys y ≡ None)
apart visited [] ys y o = inl refl
apart visited (n ∷ xs) ys y o = elim (cases_eq y n.id) [
  | inl e ↦ inr (none_right (look_among xs y) (look_among ys y) (sym (among_append xs ys y) ∙ not_visited (n.id ∷ visited) (xs ++ ys) y o.2 (inl e)))
  | inr ne ↦ elim (apart (n.id ∷ visited) xs ys y o.2) [ inl h ↦ inl (node_there n xs y ne ∙ h) | inr h ↦ inr h ]
]

-- a part of a list moves to the front
moved : (f hs b : List Header) (y : ℕ) → AreOrdered [] (f ++ (hs ++ b)) → look_among (f ++ (hs ++ b)) y ≡ first_of (look_among hs y) (look_among (f ++ b) y)
moved f hs b y o =
    among_append f (hs ++ b) y
    ∙ ap (first_of (look_among f y)) (among_append hs b y)
    ∙ elim (apart [] f (hs ++ b) y o) [
      | inl e ↦ ap (λ z. first_of z (first_of (look_among hs y) (look_among b y))) e
          ∙ ap (first_of (look_among hs y)) (sym (among_append f b y ∙ ap (λ z. first_of z (look_among b y)) e))
      | inr e ↦ (let none : first_of (look_among hs y) (look_among b y) ≡ None = sym (among_append hs b y) ∙ e in
          let left : look_among hs y ≡ None = none_left (look_among hs y) (look_among b y) none in
          let right : look_among b y ≡ None = none_right (look_among hs y) (look_among b y) none in
          ap (first_of (look_among f y)) none
          ∙ sym (ap (λ z. first_of z (look_among (f ++ b) y)) left ∙ among_append f b y ∙ ap (first_of (look_among f y)) right))
    ]

-- ---- a tree without an operation, and one with an operation elsewhere

module _ (m n : ModuleOf (List ℕ) TypeTerm AttrTerm) (x : ℕ) (ordered : AreOrdered [] (heads m.tree)) (d : HasDistinctIds m.tree) where
  module _ (place : Place) (fresh : Bool) (takes : Takes x place fresh m n) where
    pub taken_other : (y : ℕ) → (y ≡ x → ⊥) → look n.tree y ≡ look m.tree y
    taken_other y ne =
        let c = cut_heads x m.tree place d takes.there in
        let one = one_head c.here (takes.empty c.here c.is) in
        sym (look_heads y n.tree)
        ∙ ap (λ t. look_among (heads t) y) takes.left
        ∙ ap (λ l. look_among l y) c.rest
        ∙ sym (node_past c.preceding (head c.here) c.back y (λ e. ne (e ∙ c.id)))
        ∙ ap (λ l. look_among (c.preceding ++ (l ++ c.back)) y) (sym one)
        ∙ ap (λ l. look_among l y) (sym c.was)
        ∙ look_heads y m.tree

    pub taken_gone : look n.tree x ≡ None
    taken_gone =
        let c = cut_heads x m.tree place d takes.there in
        let one = one_head c.here (takes.empty c.here c.is) in
        sym (look_heads x n.tree)
        ∙ ap (λ t. look_among (heads t) x) takes.left
        ∙ ap (λ l. look_among l x) c.rest
        ∙ ap (look_among (c.preceding ++ c.back)) (sym c.id)
        ∙ node_gone [] c.preceding (head c.here) c.back (subst (AreOrdered []) (c.was ∙ ap (λ l. c.preceding ++ (l ++ c.back)) one) ordered)

    pub taken_was : (h : Header) × (look m.tree x ≡ Some h)
    taken_was = let c = cut_heads x m.tree place d takes.there in (head c.here, ap (option_map head) c.is)

  pub shifted_same : (is_table : List ℕ → Bool) (old new : Place) → AreOrdered [] (heads n.tree) → HasDistinctIds n.tree → Shifts is_table x old new m n → (y : ℕ) → look n.tree y ≡ look m.tree y
  shifted_same is_table old new ordered2 e shifts y =
      let c = cut_heads x m.tree old d shifts.was in
      let k = cut_heads x n.tree new e shifts.is in
      let one : k.here ≡ c.here = some_same k.here c.here (sym k.is ∙ shifts.same ∙ c.is) in
      let left : k.preceding ++ k.back ≡ c.preceding ++ c.back = sym k.rest ∙ ap heads shifts.rest ∙ c.rest in
      sym (look_heads y n.tree)
      ∙ ap (λ l. look_among l y) k.was
      ∙ moved k.preceding (heads k.here) k.back y (subst (AreOrdered []) k.was ordered2)
      ∙ (λ i. first_of (look_among (heads (one i)) y) (look_among (left i) y))
      ∙ sym (moved c.preceding (heads c.here) c.back y (subst (AreOrdered []) c.was ordered))
      ∙ ap (λ l. look_among l y) (sym c.was)
      ∙ look_heads y m.tree
    where
      some_same : (p q : Operation) → Some p ≡ Some q → p ≡ q
      some_same p q e = cc
