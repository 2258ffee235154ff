-- The contexts in the tree of terms are those in the tree of numbers, with terms in place of numbers.
use Rattle.std.proofs.Common.{◌≡◌, refl, ap, sym, ◌∙◌, ℕ, zero, suc, ◌+◌, true, false, cond, eqb, List, [], ◌∷◌, ◌++◌, map, Option, Some, None}
use Rattle.std.specs.Prelude.{option_map, option_and_then}
use Rattle.std.proofs.lemmas.List.{map-append}
use Rattle.ir_event.specs.trees.declared.value.Value.{Value}
use Rattle.ir_event.specs.trees.declared.place.Place.{Place}
use Rattle.ir_event.specs.trees.Tree.{OpOf, op, RegionsOf, no_regions, region, RegionOf, empty, block, OpsOf, no_ops, next, head, regions}
use Rattle.ir_event.specs.trees.Ids.{find, first_of}
use Rattle.ir_event.specs.trees.Places.{place_of}
use Rattle.ir_event.specs.trees.Maps.{map_head, map_tree, map_regions, map_region, map_ops}
use Rattle.ir_event.proofs.of_trees.Mapped.{map_find, map_place}
use Rattle.ir_event.specs.store.Nodes.{node_of, regions_arguments}
use Rattle.ir_event.specs.tree_laws.Values.{region_at, type_of_value}
use Rattle.ir_event.specs.tree_laws.Reads.{ops_in, ops_at, last_id, last_at, id_before, prev_of}
use Rattle.ir_event.specs.tree_laws.Stands.{StepOf, OpWithPathOf, op_with_path_id, stands, regions_stands, region_stands, ops_stands, find_op_with_path, op_with_path}
use Rattle.ir_event.proofs.of_tree_laws.Readings.{step, option_first}
use Rattle.ir_event.proofs.of_tree_laws.Contents.{map_type_of_value, map_region_at}
use Rattle.ir_event.specs.declared.event.Event.{Event}
use Rattle.ir_event.specs.declared.event.Event.TheVariants.{Put, Take, SetOperand, SetEntry, Shift}
use Rattle.listeners_support.specs.Surroundings.{last_name, last_names, ended_by, outer_of, surround, surroundings}
use Rattle.listeners_support.specs.Near.{if_any, if_end, lasts_of, lasts_found, lasts_in, near}
use Rattle.listeners_support.specs.Mapped.{map_node, map_outer, map_surroundings}

module _ {N T A M U B : Type 0} (f : N → M) (g : T → U) (h : A → B) where
  abbrev tree : OpOf N T A → OpOf M U B
  tree = map_tree f g h

  abbrev map_step : StepOf N T A → StepOf M U B
  map_step a = record { parent = tree a.parent; region = a.region; args = map g a.args; preceding = map tree a.preceding; rest = map_ops f g h a.rest }

  abbrev map_stand : OpWithPathOf N T A → OpWithPathOf M U B
  map_stand s = record { here = tree s.here; path = map map_step s.path }

  mutual
    map_stands : (path : List (StepOf N T A)) (t : OpOf N T A) → stands (map map_step path) (tree t) ≡ map map_stand (stands path t)
    map_stands path (op k rs) = ap (λ l. map_stand (record { here = op k rs; path = path }) ∷ l) (map_regions_stands (op k rs) path 0 rs)

    map_regions_stands : (p : OpOf N T A) (path : List (StepOf N T A)) (r : ℕ) (rs : RegionsOf N T A) → regions_stands (tree p) (map map_step path) r (map_regions f g h rs) ≡ map map_stand (regions_stands p path r rs)
    map_regions_stands p path r no_regions = refl
    map_regions_stands p path r (region q rs) =
        (λ i. map_region_stands p path r q i ++ map_regions_stands p path (r + 1) rs i) ∙ sym (map-append map_stand (region_stands p path r q) (regions_stands p path (r + 1) rs))

    map_region_stands : (p : OpOf N T A) (path : List (StepOf N T A)) (r : ℕ) (q : RegionOf N T A) → region_stands (tree p) (map map_step path) r (map_region f g h q) ≡ map map_stand (region_stands p path r q)
    map_region_stands p path r empty = refl
    map_region_stands p path r (block args os) = map_ops_stands p path r args [] os

    map_ops_stands : (p : OpOf N T A) (path : List (StepOf N T A)) (r : ℕ) (args : List T) (preceding : List (OpOf N T A)) (os : OpsOf N T A)
        → ops_stands (tree p) (map map_step path) r (map g args) (map tree preceding) (map_ops f g h os) ≡ map map_stand (ops_stands p path r args preceding os)
    map_ops_stands p path r args preceding no_ops = refl
    map_ops_stands p path r args preceding (next o os) =
        let a = step p r args preceding os in
        (λ i. map_stands (a ∷ path) o i ++ (ap (λ l. ops_stands (tree p) (map map_step path) r (map g args) l (map_ops f g h os)) (sym (map-append tree preceding (o ∷ []))) ∙ map_ops_stands p path r args (preceding ++ o ∷ []) os) i)
        ∙ sym (map-append map_stand (stands (a ∷ path) o) (ops_stands p path r args (preceding ++ o ∷ []) os))

  same_id : (o : OpOf N T A) → (head (tree o)).id ≡ (head o).id
  same_id (op k rs) = refl

  same_name : (o : OpOf N T A) → (head (tree o)).name ≡ f (head o).name
  same_name (op k rs) = refl

  same_operands : (o : OpOf N T A) → (head (tree o)).operands ≡ (head o).operands
  same_operands (op k rs) = refl

  map_stand_in : (x : ℕ) (ss : List (OpWithPathOf N T A)) → find_op_with_path x (map map_stand ss) ≡ option_map map_stand (find_op_with_path x ss)
  map_stand_in x [] = refl
  map_stand_in x (s ∷ ss) =
      (λ i. cond (eqb (same_id s.here i) x) (Some (map_stand s)) (map_stand_in x ss i))
      ∙ elim (eqb (op_with_path_id s) x) as (λ b. cond b (Some (map_stand s)) (option_map map_stand (find_op_with_path x ss)) ≡ option_map map_stand (cond b (Some s) (find_op_with_path x ss))) [ true ↦ refl | false ↦ refl ]

  map_arguments : (rs : RegionsOf N T A) → regions_arguments (map_regions f g h rs) ≡ map (option_map (map g)) (regions_arguments rs)
  map_arguments no_regions = refl
  map_arguments (region empty rs) = ap (λ l. None ∷ l) (map_arguments rs)
  map_arguments (region (block args os) rs) = ap (λ l. Some (map g args) ∷ l) (map_arguments rs)

  pub map_node_of : (o : OpOf N T A) → node_of (tree o) ≡ map_node f g h (node_of o)
  map_node_of (op k rs) = λ i. record { head = map_head f g h k; arguments = map_arguments rs i }

  map_last_name : (os : OpsOf N T A) → last_name (map_ops f g h os) ≡ option_map f (last_name os)
  map_last_name no_ops = refl
  map_last_name (next o os) = (λ i. first_of (map_last_name os i) (Some (same_name o i))) ∙ sym (option_first f (last_name os) (Some (head o).name))

  map_last_names : (rs : RegionsOf N T A) → last_names (map_regions f g h rs) ≡ map (option_map f) (last_names rs)
  map_last_names no_regions = refl
  map_last_names (region empty rs) = ap (λ l. None ∷ l) (map_last_names rs)
  map_last_names (region (block args os) rs) = λ i. map_last_name os i ∷ map_last_names rs i

  map_lasts : (o : OpOf N T A) → last_names (regions (tree o)) ≡ map (option_map f) (last_names (regions o))
  map_lasts (op k rs) = map_last_names rs

  map_ended : (p : OpOf N T A) (os : OpsOf N T A) → ended_by (tree p) (map_ops f g h os) ≡ option_map (map_node f g h) (ended_by p os)
  map_ended p no_ops = ap Some (map_node_of p)
  map_ended p (next o os) = refl

  map_outer_of : (b : List (StepOf N T A)) → outer_of (map map_step b) ≡ option_map (map_outer f g h) (outer_of b)
  map_outer_of [] = refl
  map_outer_of (a ∷ q) = λ i. Some (record { name = same_name a.parent i; ended = map_ended a.parent a.rest i })

  map_all : (a : Value → Option U) (b : Value → Option T) → ((v : Value) → a v ≡ option_map g (b v)) → (vs : List Value) → map a vs ≡ map (option_map g) (map b vs)
  map_all a b e [] = refl
  map_all a b e (v ∷ vs) = λ i. e v i ∷ map_all a b e vs i

  map_surround : (t : OpOf N T A) (s : OpWithPathOf N T A) → surround (tree t) (map_stand s) ≡ map_surroundings f g h (surround t s)
  map_surround t s = λ i. record {
    node = map_node_of s.here i;
    lasts = map_lasts s.here i;
    types = types i;
    outer = map_outer_of s.path i;
  }
    where
      types : map (λ v. type_of_value v (tree t)) (head (tree s.here)).operands ≡ map (option_map g) (map (λ v. type_of_value v t) (head s.here).operands)
      types = ap (map (λ v. type_of_value v (tree t))) (same_operands s.here) ∙ map_all (λ v. type_of_value v (tree t)) (λ v. type_of_value v t) (λ v. map_type_of_value f g h v t) (head s.here).operands

  pub mapped_surroundings : (x : ℕ) (t : OpOf N T A) → surroundings x (tree t) ≡ option_map (map_surroundings f g h) (surroundings x t)
  mapped_surroundings x t = ap (option_map (surround (tree t))) (ap (find_op_with_path x) (map_stands [] t) ∙ map_stand_in x (stands [] t)) ∙ go (op_with_path x t)
    where
      go : (o : Option (OpWithPathOf N T A)) → option_map (surround (tree t)) (option_map map_stand o) ≡ option_map (map_surroundings f g h) (option_map (surround t) o)
      go None = refl
      go (Some s) = ap Some (map_surround t s)

  -- ---- the operations near an event are the same
  map_last_id : (os : OpsOf N T A) → last_id (map_ops f g h os) ≡ last_id os
  map_last_id no_ops = refl
  map_last_id (next o os) = λ i. first_of (map_last_id os i) (Some (same_id o i))

  map_id_before : (x : ℕ) (last : Option ℕ) (os : OpsOf N T A) → id_before x last (map_ops f g h os) ≡ id_before x last os
  map_id_before x last no_ops = refl
  map_id_before x last (next o os) = (λ i. cond (eqb (same_id o i) x) last (id_before x (Some (same_id o i)) (map_ops f g h os))) ∙ ap (cond (eqb (head o).id x) last) (map_id_before x (Some (head o).id) os)

  map_regions_of : (o : OpOf N T A) → regions (tree o) ≡ map_regions f g h (regions o)
  map_regions_of (op k rs) = refl

  map_ops_in : (q : Option (RegionOf N T A)) → option_and_then ops_in (option_map (map_region f g h) q) ≡ option_map (map_ops f g h) (option_and_then ops_in q)
  map_ops_in None = refl
  map_ops_in (Some empty) = refl
  map_ops_in (Some (block args os)) = refl

  map_ops_found : (r : ℕ) (o : Option (OpOf N T A)) → option_and_then (λ p. option_and_then ops_in (region_at r (regions p))) (option_map tree o) ≡ option_map (map_ops f g h) (option_and_then (λ p. option_and_then ops_in (region_at r (regions p))) o)
  map_ops_found r None = refl
  map_ops_found r (Some o) = ap (λ q. option_and_then ops_in (region_at r q)) (map_regions_of o) ∙ ap (option_and_then ops_in) ((map_region_at f g h) r (regions o)) ∙ map_ops_in (region_at r (regions o))

  map_ops_at : (p r : ℕ) (t : OpOf N T A) → ops_at p r (tree t) ≡ option_map (map_ops f g h) (ops_at p r t)
  map_ops_at p r t = ap (option_and_then (λ o. option_and_then ops_in (region_at r (regions o)))) (map_find f g h p t) ∙ map_ops_found r (find p t)

  pub map_last_at : (p r : ℕ) (t : OpOf N T A) → last_at p r (tree t) ≡ last_at p r t
  map_last_at p r t = ap (option_and_then last_id) (map_ops_at p r t) ∙ go (ops_at p r t)
    where
      go : (o : Option (OpsOf N T A)) → option_and_then last_id (option_map (map_ops f g h) o) ≡ option_and_then last_id o
      go None = refl
      go (Some os) = map_last_id os

  pub map_prev_of : (x : ℕ) (t : OpOf N T A) → prev_of x (tree t) ≡ prev_of x t
  map_prev_of x t = ap (λ q. option_and_then (id_before x None) (option_and_then (λ (p : Place). ops_at p.parent p.region (tree t)) q)) (map_place f g h x t) ∙ go (place_of x t)
    where
      in_ops : (o : Option (OpsOf N T A)) → option_and_then (id_before x None) (option_map (map_ops f g h) o) ≡ option_and_then (id_before x None) o
      in_ops None = refl
      in_ops (Some os) = map_id_before x None os

      go : (q : Option Place) → option_and_then (id_before x None) (option_and_then (λ (p : Place). ops_at p.parent p.region (tree t)) q) ≡ option_and_then (id_before x None) (option_and_then (λ (p : Place). ops_at p.parent p.region t) q)
      go None = refl
      go (Some p) = ap (option_and_then (id_before x None)) (map_ops_at p.parent p.region t) ∙ in_ops (ops_at p.parent p.region t)

  map_lasts_of : (rs : RegionsOf N T A) → lasts_of (map_regions f g h rs) ≡ lasts_of rs
  map_lasts_of no_regions = refl
  map_lasts_of (region empty rs) = map_lasts_of rs
  map_lasts_of (region (block args os) rs) = λ i. if_any (map_last_id os i) (map_lasts_of rs i)

  pub map_lasts_in : (x : ℕ) (t : OpOf N T A) → lasts_in x (tree t) ≡ lasts_in x t
  map_lasts_in x t = ap lasts_found (map_find f g h x t) ∙ go (find x t)
    where
      go : (o : Option (OpOf N T A)) → lasts_found (option_map tree o) ≡ lasts_found o
      go None = refl
      go (Some o) = ap lasts_of (map_regions_of o) ∙ map_lasts_of (regions o)

  pub map_near : (e : Event) (t : OpOf N T A) → near e (tree t) ≡ near e t
  map_near (Put x place fresh) t = ap (λ o. x ∷ if_end place.before (place.parent ∷ if_any o [])) (map_prev_of x t)
  map_near (Take x place fresh) t = ap (λ o. x ∷ if_end place.before (place.parent ∷ if_any o [])) (map_last_at place.parent place.region t)
  map_near (SetOperand x k old new) t = ap (λ l. x ∷ l) (map_lasts_in x t)
  map_near (SetEntry x part key old new) t = ap (λ l. x ∷ l) (map_lasts_in x t)
  map_near (Shift x old new) t = λ i. x ∷ old.parent ∷ new.parent ∷ if_any (map_last_at old.parent old.region t i) (if_any (map_prev_of x t i) [])
