-- The context gathered by reading calls is the context.
use Rattle.std.proofs.Common.{◌≡◌, refl, ap, sym, ◌∙◌, subst, ℕ, suc, ◌+◌, ◌*◌, ◌≤◌, Bool, true, false, ◌&&◌, List, [], ◌∷◌, length, map, Option, Some, None, inl, inr, leb-true, arith}
use Rattle.std.specs.Prelude.{option_map, option_and_then, nat_le}
use Rattle.std.specs.List.{All}
use Rattle.std.specs.FinMap as finmap
use Rattle.std.proofs.lemmas.List.Elements.{All-nil, All-cons}
use Rattle.ir_event.specs.trees.declared.value.Value.{Value}
use Rattle.ir_event.specs.trees.declared.place.Place.{Place}
use Rattle.ir_event.specs.trees.Tree.{HeadOf, OpOf, Op, op, RegionsOf, no_regions, region, RegionOf, empty, block, OpsOf, no_ops, next, head, regions, region_count}
use Rattle.ir_event.specs.trees.Ids.{HasDistinctIds, find, first_of, has_id}
use Rattle.ir_event.specs.trees.Places.{first_id, place_of}
use Rattle.ir_event.specs.trees.Limits.{most_regions, items_fit, head_fits, all_arguments_pass, op_fits}
use Rattle.ir_event.specs.trees.WellFormed.{IsValidTree}
use Rattle.ir_event.specs.store.Nodes.{Node, NodeOf, node_of, regions_arguments}
use Rattle.ir_event.specs.store.Stored.{Stored, known}
use Rattle.ir_event.specs.tree_laws.Values.{type_of_value, has_value, region_at}
use Rattle.ir_event.specs.tree_laws.Reads.{ops_in, last_id, last_at, parent_of, next_of}
use Rattle.ir_event.specs.tree_laws.Stands.{StepOf, OpWithPathOf, op_with_path_id, stands, op_with_path, place_in, dominated_by}
use Rattle.ir_event.specs.tree_laws.Members.{In}
use Rattle.ir_event.proofs.of_tree_laws.Readings.{stands_find}
use Rattle.ir_event.proofs.of_tree_laws.Members.{stand, joined_ops, member, stand_of_member, found_stands, stand_found}
use Rattle.ir_event.proofs.of_tree_laws.Around.{around_there, member_of_place, place_of_member, absent_find, present_stand}
use Rattle.ir_event.proofs.of_tree_laws.Wellformed.{from_wellformed}
use Rattle.ir_event.proofs.of_tree_laws.Values.{seen_by}
use Rattle.ir_event.proofs.of_tree_laws.Listed.{all_each, both, bool_cases}
use Rattle.listeners_support.specs.Surroundings.{OuterOf, last_name, last_names, ended_by, outer_of, surround, surroundings}
use Rattle.listeners_support.specs.Gathered.{last_name_at, from_on, outer_at, gather_looks, regions_found}
use Rattle.listeners_support.proofs.Points.{stands_in, last_joined}

module _ {N T A : Type 0} where
  -- a list that isn't empty, split before its last item
  split_last : (o : OpOf N T A) (os : OpsOf N T A) → (preceding : List (OpOf N T A)) × (z : OpOf N T A) × (next o os ≡ joined_ops preceding (next z no_ops))
  split_last o no_ops = ([], o, refl)
  split_last o (next p os) = let s = split_last p os in (o ∷ s.0, s.1, ap (next o) s.2)

  pub name_joined : (preceding : List (OpOf N T A)) (z : OpOf N T A) → last_name (joined_ops preceding (next z no_ops)) ≡ Some (head z).name
  name_joined [] z = refl
  name_joined (f ∷ fs) z = ap (λ l. first_of l (Some (head f).name)) (name_joined fs z)

  -- the last operation of a block is in the tree, and has the last name
  abbrev pub LastOf : OpOf N T A → Option ℕ → Option N → Type 0
  LastOf t None name = name ≡ None
  LastOf t (Some y) name = (o : OpOf N T A) × (find y t ≡ Some o) × (name ≡ Some (head o).name)

  in_block : (t p : OpOf N T A) (path : List (StepOf N T A)) (r : ℕ) (args : List T) (os : OpsOf N T A) → HasDistinctIds t → In (stand p path) (stands [] t) → region_at r (regions p) ≡ Some (block args os) → LastOf t (last_id os) (last_name os)
  in_block t p path r args no_ops d h e = refl
  in_block t p path r args (next o os) d h e =
      let s = split_last o os in
      let z = s.1 in
      let there = stands_in t p path r args s.0 z no_ops h (e ∙ ap (λ l. Some (block args l)) s.2) in
      subst (λ l. LastOf t (last_id l) (last_name l)) (sym s.2) (subst (λ (y : Option ℕ). LastOf t y (last_name (joined_ops s.0 (next z no_ops)))) (sym (last_joined s.0 z)) (z, stand_found t d _ there, name_joined s.0 z))

  of_region : (t p : OpOf N T A) (path : List (StepOf N T A)) (r : ℕ) (g : Option (RegionOf N T A)) → HasDistinctIds t → In (stand p path) (stands [] t) → region_at r (regions p) ≡ g
      → LastOf t (option_and_then last_id (option_and_then ops_in g)) (option_and_then last_name (option_and_then ops_in g))
  of_region t p path r None d h e = refl
  of_region t p path r (Some empty) d h e = refl
  of_region t p path r (Some (block args os)) d h e = in_block t p path r args os d h e

  pub last_named : (t : OpOf N T A) → HasDistinctIds t → (x r : ℕ) → LastOf t (last_at x r t) (last_name_at x t r)
  last_named t d x r = go (find x t) refl
    where
      list : Option (OpOf N T A) → Option (OpsOf N T A)
      list o = option_and_then (λ p. option_and_then ops_in (region_at r (regions p))) o

      go : (o : Option (OpOf N T A)) → find x t ≡ o → LastOf t (option_and_then last_id (list (find x t))) (option_and_then last_name (list (find x t)))
      go None e = subst (λ o. LastOf t (option_and_then last_id (list o)) (option_and_then last_name (list o))) (sym e) refl
      go (Some p) e =
          let s = found_stands x t p e in
          let above : In (stand p s.0.path) (stands [] t) = subst (λ (z : OpOf N T A). In (stand z s.0.path) (stands [] t)) s.3 s.1 in
          subst (λ o. LastOf t (option_and_then last_id (list o)) (option_and_then last_name (list o))) (sym e) (of_region t p s.0.path r (region_at r (regions p)) d above refl)

  -- the names for all regions
  names_from : (rs : RegionsOf N T A) (f : ℕ → Option N) (k : ℕ) → ((r : ℕ) → f (k + r) ≡ option_and_then last_name (option_and_then ops_in (region_at r rs))) → from_on f k (length (regions_arguments rs)) ≡ last_names rs
  names_from no_regions f k e = refl
  names_from (region g rs) f k e =
      let z : k + 0 ≡ k = omega arith in
      (λ i. (ap f (sym z) ∙ e 0) i ∷ names_from rs f (k + 1) (λ r. let s : k + 1 + r ≡ k + suc r = omega arith in ap f s ∙ e (suc r)) i)

  pub all_named : (t o : OpOf N T A) (x : ℕ) → find x t ≡ Some o → from_on (last_name_at x t) 0 (length (node_of o).arguments) ≡ last_names (regions o)
  all_named t (op h rs) x e = names_from rs (last_name_at x t) 0 (λ r. let z : 0 + r ≡ r = omega arith in ap (last_name_at x t) z ∙ ap (λ o. option_and_then last_name (option_and_then (λ p. option_and_then ops_in (region_at r (regions p))) o)) e)

  pub regions_counted : (o : OpOf N T A) → length (node_of o).arguments ≡ region_count (regions o)
  regions_counted (op h rs) = go rs
    where
      go : (rs : RegionsOf N T A) → length (regions_arguments rs) ≡ region_count rs
      go no_regions = refl
      go (region g rs) = let e = go rs in omega arith

  -- the part about the parent
  abbrev pub ended_at : Option ℕ → NodeOf N T A → Option (NodeOf N T A)
  ended_at None n = Some n
  ended_at (Some y) n = None

  ended_is : (p : OpOf N T A) (os : OpsOf N T A) → ended_by p os ≡ ended_at (first_id os) (node_of p)
  ended_is p no_ops = refl
  ended_is p (next o os) = refl

  module _ (t : OpOf N T A) (d : HasDistinctIds t) (x : ℕ) where
    -- an operation without a place has no parent
    pub no_outer : parent_of x t ≡ None → outer_at x t ≡ None
    no_outer e = go (op_with_path x t) refl
      where
        at_path : (s : OpWithPathOf N T A) → In s (stands [] t) → op_with_path_id s ≡ x → (path : List (StepOf N T A)) → s.path ≡ path → outer_of s.path ≡ None
        at_path s h i [] p = ap outer_of p
        at_path s h i (a ∷ q) p =
            let there : In (stand s.here (a ∷ q)) (stands [] t) = subst (λ l. In (stand s.here l) (stands [] t)) p h in
            let two : None ≡ Some (head a.parent).id = sym e ∙ ap (λ y. parent_of y t) (sym i) ∙ ap (option_map (λ (l : Place). l.parent)) (place_of_member t d s.here a q there) in
            absurd cc

        go : (o : Option (OpWithPathOf N T A)) → op_with_path x t ≡ o → option_and_then (λ s. outer_of s.path) (op_with_path x t) ≡ None
        go None f = ap (option_and_then (λ (s : OpWithPathOf N T A). outer_of s.path)) f
        go (Some s) f = let m = member x (stands [] t) s f in ap (option_and_then (λ (s : OpWithPathOf N T A). outer_of s.path)) f ∙ at_path s m.0 m.1 s.path refl

    -- an operation with a parent
    pub record Parent (p : ℕ) : Type 0 where
      pub here : OpOf N T A
      pub found : find p t ≡ Some here
      pub is : outer_at x t ≡ Some (record { name = (head here).name; ended = ended_at (next_of x t) (node_of here) })

    some_place : (o : Option Place) (p : ℕ) → option_map (λ (l : Place). l.parent) o ≡ Some p → (l : Place) × (o ≡ Some l)
    some_place None p e = absurd cc
    some_place (Some l) p e = (l, refl)

    pub with_parent : (p : ℕ) → parent_of x t ≡ Some p → Parent p
    with_parent p e =
        let l = some_place (place_of x t) p e in
        let u = member_of_place x l.0 t l.1 in
        at_path l.0 u.0 u.1 u.2 u.0.path refl u.3
      where
        at_path : (l : Place) (s : OpWithPathOf N T A) → In s (stands [] t) → op_with_path_id s ≡ x → (path : List (StepOf N T A)) → s.path ≡ path → place_in s.path ≡ Some l → Parent p
        at_path l s h i [] q f = (let no : None ≡ Some l = sym (ap place_in q) ∙ f in absurd cc)
        at_path l s h i (a ∷ q) r f =
            let there : In (stand s.here (a ∷ q)) (stands [] t) = subst (λ z. In (stand s.here z) (stands [] t)) r h in
            let placed = ap (λ y. place_of y t) (sym i) ∙ place_of_member t d s.here a q there in
            let two : Some (head a.parent).id ≡ Some p = sym (ap (option_map (λ (l : Place). l.parent)) placed) ∙ e in
            let id : (head a.parent).id ≡ p = cc in
            record {
              here = a.parent;
              found = ap (λ y. find y t) (sym id) ∙ stand_found t d (stand a.parent q) (around_there t s.here a q there).1;
              is = ap (λ y. outer_at y t) (sym i)
                  ∙ ap (option_and_then (λ (z : OpWithPathOf N T A). outer_of z.path)) (stand_of_member t d s h)
                  ∙ ap outer_of r
                  ∙ (λ k. Some (record { name = (head a.parent).name; ended = (ended_is a.parent a.rest ∙ ap (λ b. ended_at b (node_of a.parent)) (sym (ap (option_and_then (λ (l : Place). l.before)) placed))) k }));
            }

-- ---- in a store
pub head_shown : {N T A : Type 0} (o : OpOf N T A) → (node_of o).head ≡ head o
head_shown (op h rs) = refl

shown_known : (s : Stored) (x : ℕ) (o : Op) → find x s.module_of.tree ≡ Some o → option_map node_of (known x s) ≡ Some (node_of o)
shown_known s x o e = ap (λ f. option_map node_of (first_of f (finmap.get s.held x))) e

module _ (s : Stored) (d : HasDistinctIds s.module_of.tree) where
  pub no_last : (x r : ℕ) → last_at x r s.module_of.tree ≡ None → last_name_at x s.module_of.tree r ≡ None
  no_last x r e = subst (λ o. LastOf s.module_of.tree o (last_name_at x s.module_of.tree r)) e (last_named s.module_of.tree d x r)

  pub last_unshown : (x r y : ℕ) → last_at x r s.module_of.tree ≡ Some y → option_map node_of (known y s) ≡ None → ⊥
  last_unshown x r y e f =
      let w = subst (λ o. LastOf s.module_of.tree o (last_name_at x s.module_of.tree r)) e (last_named s.module_of.tree d x r) in
      let no : Some (node_of w.0) ≡ None = sym (shown_known s y w.0 w.1) ∙ f in
      absurd cc

  pub last_shown : (x r y : ℕ) (n : Node) → last_at x r s.module_of.tree ≡ Some y → option_map node_of (known y s) ≡ Some n → last_name_at x s.module_of.tree r ≡ Some n.head.name
  last_shown x r y n e f =
      let w = subst (λ o. LastOf s.module_of.tree o (last_name_at x s.module_of.tree r)) e (last_named s.module_of.tree d x r) in
      let two : Some (node_of w.0) ≡ Some n = sym (shown_known s y w.0 w.1) ∙ f in
      let one : node_of w.0 ≡ n = cc in
      w.2 ∙ ap (λ (h : HeadOf ℕ ℕ ℕ). Some h.name) (sym (head_shown w.0)) ∙ ap (λ (m : Node). Some m.head.name) one

  pub parent_unshown : (x p : ℕ) → parent_of x s.module_of.tree ≡ Some p → option_map node_of (known p s) ≡ None → ⊥
  parent_unshown x p e f =
      let w = with_parent s.module_of.tree d x p e in
      let no : Some (node_of w.here) ≡ None = sym (shown_known s p w.here w.found) ∙ f in
      absurd cc

  pub parent_shown : (x p : ℕ) (n : Node) → parent_of x s.module_of.tree ≡ Some p → option_map node_of (known p s) ≡ Some n → outer_at x s.module_of.tree ≡ Some (record { name = n.head.name; ended = ended_at (next_of x s.module_of.tree) n })
  parent_shown x p n e f =
      let w = with_parent s.module_of.tree d x p e in
      let two : Some (node_of w.here) ≡ Some n = sym (shown_known s p w.here w.found) ∙ f in
      let one : node_of w.here ≡ n = cc in
      w.is ∙ (λ i. Some (record { name = (ap (λ (h : HeadOf ℕ ℕ ℕ). h.name) (sym (head_shown w.here)) ∙ ap (λ (m : Node). m.head.name) one) i; ended = ended_at (next_of x s.module_of.tree) (one i) }))

  -- an operation that isn't there has no context
  pub absent : (x : ℕ) → has_id x s.module_of.tree ≡ false → find x s.module_of.tree ≡ None
  absent x e = absent_find x s.module_of.tree e

  pub nothing_around : (x : ℕ) → find x s.module_of.tree ≡ None → surroundings x s.module_of.tree ≡ None
  nothing_around x e = go (op_with_path x s.module_of.tree) refl (stands_find x [] s.module_of.tree ∙ e)
    where
      go : (o : Option (OpWithPathOf ℕ ℕ ℕ)) → op_with_path x s.module_of.tree ≡ o → option_map (λ (z : OpWithPathOf ℕ ℕ ℕ). z.here) (op_with_path x s.module_of.tree) ≡ None → option_map (surround s.module_of.tree) (op_with_path x s.module_of.tree) ≡ None
      go None i k = ap (option_map (surround s.module_of.tree)) i
      go (Some z) i k = (let no : Some z.here ≡ None = sym (ap (option_map (λ (z : OpWithPathOf ℕ ℕ ℕ). z.here)) i) ∙ k in absurd cc)

  pub record Present (x : ℕ) (n : Node) : Type 0 where
    pub here : OpWithPathOf ℕ ℕ ℕ
    pub there : op_with_path x s.module_of.tree ≡ Some here
    pub found : find x s.module_of.tree ≡ Some here.here
    pub node : node_of here.here ≡ n

  present_at : (x : ℕ) → has_id x s.module_of.tree ≡ true → (z : OpWithPathOf ℕ ℕ ℕ) × (op_with_path x s.module_of.tree ≡ Some z) × (find x s.module_of.tree ≡ Some z.here)
  present_at x e =
      let z = present_stand [] s.module_of.tree x e in
      (z.0, ap (λ y. op_with_path y s.module_of.tree) (sym z.2) ∙ stand_of_member s.module_of.tree d z.0 z.1, ap (λ y. find y s.module_of.tree) (sym z.2) ∙ stand_found s.module_of.tree d z.0 z.1)

  pub unshown : (x : ℕ) → has_id x s.module_of.tree ≡ true → option_map node_of (known x s) ≡ None → ⊥
  unshown x e f = let z = present_at x e in let no : Some (node_of z.0.here) ≡ None = sym (shown_known s x z.0.here z.2) ∙ f in absurd cc

  pub present : (x : ℕ) (n : Node) → has_id x s.module_of.tree ≡ true → option_map node_of (known x s) ≡ Some n → Present x n
  present x n e f =
      let z = present_at x e in
      let two : Some (node_of z.0.here) ≡ Some n = sym (shown_known s x z.0.here z.2) ∙ f in
      let one : node_of z.0.here ≡ n = cc in
      record { here = z.0; there = z.1; found = z.2; node = one }

  -- the gathered context of an operation that is there
  pub all_gathered : (x : ℕ) (n : Node) (p : Present x n) (types : List ℕ) (lasts : List (Option ℕ)) (outer : Option (OuterOf ℕ ℕ ℕ))
      → map Some types ≡ map (λ v. type_of_value v s.module_of.tree) n.head.operands → lasts ≡ from_on (last_name_at x s.module_of.tree) 0 (length n.arguments) → outer ≡ outer_at x s.module_of.tree
      → Some (record { node = n; lasts = lasts; types = map Some types; outer = outer }) ≡ surroundings x s.module_of.tree
  all_gathered x n p types lasts outer e f g =
      (λ i. Some (record {
        node = sym p.node i;
        lasts = (f ∙ ap (λ (m : Node). from_on (last_name_at x s.module_of.tree) 0 (length m.arguments)) (sym p.node) ∙ all_named s.module_of.tree p.here.here x p.found) i;
        types = (e ∙ ap (λ (m : Node). map (λ v. type_of_value v s.module_of.tree) m.head.operands) (sym p.node) ∙ ap (λ (h : HeadOf ℕ ℕ ℕ). map (λ v. type_of_value v s.module_of.tree) h.operands) (head_shown p.here.here)) i;
        outer = (g ∙ ap (option_and_then (λ (z : OpWithPathOf ℕ ℕ ℕ). outer_of z.path)) p.there) i;
      }))
      ∙ sym (ap (option_map (surround s.module_of.tree)) p.there)

  pub looks_counted : (x : ℕ) (n : Node) (p : Present x n) → gather_looks (find x s.module_of.tree) ≡ 5 + length n.head.operands + 2 * length n.arguments
  looks_counted x n p =
      ap gather_looks p.found
      ∙ (λ i. 5 + length (sym (head_shown p.here.here) i).operands + 2 * sym (regions_counted p.here.here) i)
      ∙ ap (λ (m : Node). 5 + length m.head.operands + 2 * length m.arguments) p.node

  -- its operands are values of the tree, and it has few regions
  module _ (isolated : ℕ → Bool) (wellformed : IsValidTree isolated s.module_of.tree) where
    all_of : (P : Value → Type 0) (vs : List Value) → ((v : Value) → In v vs → P v) → All P vs
    all_of P [] f = All-nil P
    all_of P (v ∷ vs) f = All-cons P v vs (f v (inl refl)) (all_of P vs (λ u h. f u (inr h)))

    few : (o : Op) → op_fits o ≡ true → region_count (regions o) ≤ 16
    few (op h rs) e =
        let own = both (head_fits h) (nat_le (region_count rs) most_regions && all_arguments_pass items_fit rs) e in
        leb-true (region_count rs) most_regions (both (nat_le (region_count rs) most_regions) (all_arguments_pass items_fit rs) own.1).0

    pub operands_there : (x : ℕ) (n : Node) (p : Present x n) → All (λ v. has_value v s.module_of.tree ≡ true) n.head.operands
    operands_there x n p =
        let t = s.module_of.tree in
        let here = p.here in
        let at = (member x (stands [] t) here p.there).0 in
        let each = (from_wellformed isolated t wellformed).dominated_by_own here at in
        let own = all_of (λ v. has_value v t ≡ true) (head here.here).operands (λ v h. (seen_by isolated t d here at v (all_each (dominated_by isolated here.path) (head here.here).operands each v h)).is) in
        subst (λ (m : Node). All (λ v. has_value v t ≡ true) m.head.operands) p.node (subst (λ (h : HeadOf ℕ ℕ ℕ). All (λ v. has_value v t ≡ true) h.operands) (sym (head_shown here.here)) own)

    pub few_regions : (x : ℕ) (n : Node) (p : Present x n) → length n.arguments ≤ 16
    few_regions x n p =
        let t = s.module_of.tree in
        let at = (member x (stands [] t) p.here p.there).0 in
        let own = few p.here.here ((from_wellformed isolated t wellformed).fits p.here at) in
        let count = regions_counted p.here.here in
        let same = ap (λ (m : Node). length m.arguments) p.node in
        omega (arith, own, count, same)

  -- an operation without a context isn't there
  pub gone : (x : ℕ) → surroundings x s.module_of.tree ≡ None → has_id x s.module_of.tree ≡ false
  gone x e = elim (bool_cases (has_id x s.module_of.tree)) [
    | inl h ↦ (let z = present_at x h in
        let no : Some (surround s.module_of.tree z.0) ≡ None = sym (ap (option_map (surround s.module_of.tree)) z.1) ∙ e in
        absurd cc)
    | inr h ↦ h
  ]

  pub count_found : (x : ℕ) (n : Node) (p : Present x n) → length n.arguments ≡ regions_found (find x s.module_of.tree)
  count_found x n p = ap (λ (m : Node). length m.arguments) (sym p.node) ∙ regions_counted p.here.here ∙ sym (ap regions_found p.found)
