-- The climb from an operation to its parents.
use Rattle.std.proofs.Common.{◌≡◌, refl, ap, sym, ◌∙◌, subst, ℕ, zero, suc, Bool, false, true≢false, ◌<◌, List, [], ◌∷◌, length, Option, Some, None, inl, inr, ◌⊎◌, arith}
use Rattle.std.specs.Prelude.{option_map}
use Rattle.ir_event.specs.types.Things.{ContextModel}
use Rattle.ir_event.specs.types.Terms.{name_term, type_term, attr_term}
use Rattle.ir_event.specs.trees.declared.place.Place.{Place}
use Rattle.ir_event.specs.trees.Tree.{OpOf, Op, op, head}
use Rattle.ir_event.specs.trees.Ids.{HasDistinctIds, find}
use Rattle.ir_event.specs.trees.Meaning.{meaning}
use Rattle.ir_event.specs.trees.Places.{place_of, first_id}
use Rattle.ir_event.proofs.of_trees.Mapped.{map_find, map_place}
use Rattle.ir_event.specs.store.Nodes.{Node, node_of}
use Rattle.ir_event.specs.tree_laws.Reads.{parent_of}
use Rattle.ir_event.specs.tree_laws.Stands.{StepOf, OpWithPathOf, op_with_path_id, stands, op_with_path, place_in}
use Rattle.ir_event.specs.tree_laws.Members.{In}
use Rattle.ir_event.proofs.of_tree_laws.Members.{stand, stand_of_member}
use Rattle.ir_event.proofs.of_tree_laws.Around.{around_there, member_of_place}
use Rattle.ir_event.specs.declared.world.World.{World}
use Rattle.op_registry.specs.declared.own.Own.{Own}
use Rattle.op_registry.specs.Registry.{own_of}
use Rattle.effects.specs.Effects.{is_recursive, own_by}
use Rattle.greedy.specs.Climbs.{recursive_at, Climbs}
use Rattle.greedy.specs.Adding.{Adding, Adds}
use Rattle.greedy.specs.Parts.{IsClimbed}
use Rattle.greedy.proofs.Adding.{adding_none, adding_more, adding_done}
use Rattle.greedy.proofs.Tracking.{recursive_found as recursive_there}
use Rattle.std.proofs.lemmas.Option.{same_Some}

module _ {N T A : Type 0} (own : N → Own) where
  pub recursive_absent : (t : OpOf N T A) (x : ℕ) → find x t ≡ None → recursive_at own x t ≡ false
  recursive_absent t x e = ap (λ z. elim z as (λ _. Bool) [ None ↦ false | Some o ↦ is_recursive (own (head o).name) ]) e

-- the climb as the store reads it
pub recursive_none : (own : ℕ → Own) (x : ℕ) (t : Op) → None ≡ option_map node_of (find x t) → false ≡ recursive_at own x t
recursive_none own x t e = go (find x t) refl
  where
    go : (f : Option Op) → find x t ≡ f → false ≡ recursive_at own x t
    go None i = sym (recursive_absent own t x i)
    go (Some o) i = let no : None ≡ Some (node_of o) = e ∙ ap (option_map node_of) i in absurd cc

pub recursive_found : (own : ℕ → Own) (x : ℕ) (t : Op) (n : Node) → Some n ≡ option_map node_of (find x t) → is_recursive (own n.head.name) ≡ recursive_at own x t
recursive_found own x t n e = go (find x t) refl
  where
    shown : (o : Op) → (node_of o).head.name ≡ (head o).name
    shown (op h rs) = refl

    go : (f : Option Op) → find x t ≡ f → is_recursive (own n.head.name) ≡ recursive_at own x t
    go None i = let no : Some n ≡ None = e ∙ ap (option_map node_of) i in absurd cc
    go (Some o) i =
        let some : Some n ≡ Some (node_of o) = e ∙ ap (option_map node_of) i in
        let same : n ≡ node_of o = cc in
        ap (λ z. is_recursive (own z)) (ap (λ (m : Node). m.head.name) same ∙ shown o) ∙ sym (recursive_there own t o x i)

-- a climb in the tree of terms is a climb in the tree of interned numbers
module _ (c : ContextModel) (t : Op) where
  same_recursive : (x : ℕ) → recursive_at own_of x (meaning c t) ≡ recursive_at (own_by c) x t
  same_recursive x = go (find x t) refl
    where
      found : find x (meaning c t) ≡ option_map (meaning c) (find x t)
      found = map_find (name_term c) (type_term c) (attr_term c) x t

      name : (o : Op) → (head (meaning c o)).name ≡ name_term c (head o).name
      name (op h rs) = refl

      go : (f : Option Op) → find x t ≡ f → recursive_at own_of x (meaning c t) ≡ recursive_at (own_by c) x t
      go None i = recursive_absent own_of (meaning c t) x (found ∙ ap (option_map (meaning c)) i) ∙ sym (recursive_absent (own_by c) t x i)
      go (Some o) i = recursive_there own_of (meaning c t) (meaning c o) x (found ∙ ap (option_map (meaning c)) i) ∙ ap (λ n. is_recursive (own_of n)) (name o) ∙ sym (recursive_there (own_by c) t o x i)

  same_parent : (x : ℕ) → parent_of x (meaning c t) ≡ parent_of x t
  same_parent x = ap (option_map (λ (p : Place). p.parent)) (map_place (name_term c) (type_term c) (attr_term c) x t)

  pub same_climbs : (k y x : ℕ) → Climbs own_of k y x (meaning c t) → Climbs (own_by c) k y x t
  same_climbs zero y x h = (sym (same_recursive x) ∙ h.0, h.1)
  same_climbs (suc k) y x h = (sym (same_recursive x) ∙ h.0, (h.1.0, sym (same_parent x) ∙ h.1.1, same_climbs k y h.1.0 h.1.2))

module _ (w : World) where
  pub climb_none : (y : ℕ) (xs : List ℕ) → Adding (IsClimbed w y) (IsClimbed w y) xs xs
  climb_none y xs = adding_none (IsClimbed w y) (IsClimbed w y) xs (λ x h. h)

  -- one step to the parent
  pub climb_more : (P : ℕ → Type 0) (y : ℕ) (place : Place) (xs ys zs : List ℕ) → place_of y w.store.module_of.tree ≡ Some place → Adding P (IsClimbed w y) xs ys → Adds (λ x. x ≡ y) ys zs → Adding P (IsClimbed w place.parent) xs zs
  climb_more P y place xs ys zs e a b = adding_more P (IsClimbed w y) (λ x. x ≡ y) (IsClimbed w place.parent) xs ys zs (λ x q. step x q.0 q.1) a b
    where
      step : (x k : ℕ) → Climbs (own_by w.ctx) k x y w.store.module_of.tree → (x ≡ y) ⊎ IsClimbed w place.parent x
      step x zero c = inl (sym c.1)
      step x (suc k) c =
          let same : c.1.0 ≡ place.parent = same_Some c.1.0 place.parent (sym c.1.1 ∙ ap (option_map (λ (p : Place). p.parent)) e) in
          inr (k, subst (λ p. Climbs (own_by w.ctx) k x p w.store.module_of.tree) same c.1.2)

  -- the root
  pub climb_top : (P : ℕ → Type 0) (y : ℕ) (xs ys zs : List ℕ) → place_of y w.store.module_of.tree ≡ None → Adding P (IsClimbed w y) xs ys → Adds (λ x. x ≡ y) ys zs → Adds P xs zs
  climb_top P y xs ys zs e a b = adding_done P (λ x. ⊥) xs zs (λ x q. q) (adding_more P (IsClimbed w y) (λ x. x ≡ y) (λ x. ⊥) xs ys zs (λ x q. step x q.0 q.1) a b)
    where
      step : (x k : ℕ) → Climbs (own_by w.ctx) k x y w.store.module_of.tree → (x ≡ y) ⊎ ⊥
      step x zero c = inl (sym c.1)
      step x (suc k) c = let no : None ≡ Some c.1.0 = sym (ap (option_map (λ (p : Place). p.parent)) e) ∙ c.1.1 in absurd cc

  -- an operation without recursive memory effects ends the climb
  pub climb_end : (P : ℕ → Type 0) (y : ℕ) (xs ys : List ℕ) → recursive_at (own_by w.ctx) y w.store.module_of.tree ≡ false → Adding P (IsClimbed w y) xs ys → Adds P xs ys
  climb_end P y xs ys e a = adding_done P (IsClimbed w y) xs ys (λ x q. not x q.0 q.1) a
    where
      not : (x k : ℕ) → Climbs (own_by w.ctx) k x y w.store.module_of.tree → ⊥
      not x zero c = true≢false (sym c.0 ∙ e)
      not x (suc k) c = true≢false (sym c.0 ∙ e)

-- ---- the climb ends
abbrev pub height_of : {N T A : Type 0} → Option (OpWithPathOf N T A) → ℕ
height_of None = 0
height_of (Some s) = length s.path

pub higher : {N T A : Type 0} (t : OpOf N T A) → HasDistinctIds t → (x : ℕ) (place : Place) → place_of x t ≡ Some place → height_of (op_with_path place.parent t) < height_of (op_with_path x t)
higher {N} {T} {A} t d x place e = let w = member_of_place x place t e in go w.0 w.0.path refl w.1 w.2 w.3
  where
    go : (s : OpWithPathOf N T A) (p : List (StepOf N T A)) → s.path ≡ p → In s (stands [] t) → op_with_path_id s ≡ x → place_in s.path ≡ Some place → height_of (op_with_path place.parent t) < height_of (op_with_path x t)
    go s [] q k i u = let no : None ≡ Some place = ap place_in (sym q) ∙ u in absurd cc
    go s (a ∷ p) q k i u =
        let two : Some (record { parent = (head a.parent).id; region = a.region; before = first_id a.rest }) ≡ Some place = ap place_in (sym q) ∙ u in
        let parent : (head a.parent).id ≡ place.parent = same_Some _ _ (ap (option_map (λ (z : Place). z.parent)) two) in
        let around = (around_there t s.here a p (subst (λ l. In (stand s.here l) (stands [] t)) q k)).1 in
        let outer : height_of (op_with_path place.parent t) ≡ length p = ap (λ z. height_of (op_with_path z t)) (sym parent) ∙ ap height_of (stand_of_member t d (stand a.parent p) around) in
        let here : height_of (op_with_path x t) ≡ length (a ∷ p) = ap (λ z. height_of (op_with_path z t)) (sym i) ∙ ap height_of (stand_of_member t d s k) ∙ ap length q in
        omega (arith, outer, here)
