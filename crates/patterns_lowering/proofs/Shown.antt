-- What is read of an operation that the store shows.
use Rattle.std.proofs.Common.{◌≡◌, refl, ap, sym, ◌∙◌, subst, ℕ, zero, suc, ◌≤◌, List, length, map, Bool, true, ◌&&◌, Option, Some, None, arith}
use Rattle.std.specs.Prelude.{option_map, option_and_then, slice_get, nat_le}
use Rattle.std.specs.List.{list_all}
use Rattle.std.proofs.lemmas.Bool.{leb-true, and_parts, and_from}
use Rattle.std.proofs.lemmas.List.{length-map}
use Rattle.ir_event.specs.types.Things.{ContextModel}
use Rattle.ir_event.specs.types.Terms.{name_term, type_term, attr_term}
use Rattle.ir_event.specs.trees.Tree.{Op, op, RegionsOf, no_regions, region, empty, block, head, regions, region_count, regions_of}
use Rattle.ir_event.specs.trees.Ids.{HasDistinctIds, find}
use Rattle.ir_event.specs.trees.Limits.{all_arguments_pass, every, head_fits, items_fit, most_ops, most_regions, op_fits, regions_every}
use Rattle.ir_event.specs.trees.Meaning.{IsSoundIn, Operation, is_attr, is_name, is_type, key_before_in, dictionaries_rise, meaning}
use Rattle.ir_event.specs.trees.Passing.{head_passes, op_passes}
use Rattle.ir_event.proofs.of_trees.Mapped.{map_find}
use Rattle.ir_event.specs.trees.Ids.{op_count}
use Rattle.ir_event.proofs.of_tree_laws.Members.{found_stands}
use Rattle.ir_event.specs.store.Nodes.{Node, node_of, regions_arguments}
use Rattle.ir_event.specs.declared.world.World.{World}
use Rattle.ir_event.specs.Modules.{module_in}
use Rattle.ir_event.proofs.Sounds.{every_found, found_sound}
use Rattle.ir_event.proofs.Steps.{wellformed_meaning}
use Rattle.patterns_soundness.specs.base.Looks.{is_index_value}
use Rattle.patterns_soundness.specs.base.Lowering.{indices}
use Rattle.patterns_lowering.specs.declared.plan.Indexed.{Indexed}
use Rattle.patterns_lowering.specs.Bare.{bare, bare_regions, bare_read, region_with}
use Rattle.patterns_lowering.specs.Planned.{IsReadIn, IsReadOf}
use Rattle.patterns_lowering.specs.Plans.{IsIndexed}
use Rattle.std.proofs.lemmas.Option.{same_Some}

-- the operation that the store shows
pub record Raw (w : World) (x : ℕ) (n : Node) : Type 0 where
  pub here : Op
  pub found : find x w.store.module_of.tree ≡ Some here
  pub node : n ≡ node_of here

pub raw : (w : World) (x : ℕ) (n : Node) → Some n ≡ option_map node_of (find x w.store.module_of.tree) → Raw w x n
raw w x n e = go (find x w.store.module_of.tree) refl e
  where
    go : (f : Option Op) → find x w.store.module_of.tree ≡ f → Some n ≡ option_map node_of f → Raw w x n
    go None f e = absurd cc
    go (Some o) f e = (let one : n ≡ node_of o = cc in record { here = o; found = f; node = one })

-- the operation with terms
pub none_there : (w : World) (x : ℕ) (o : Operation) → None ≡ option_map node_of (find x w.store.module_of.tree) → find x (module_in w).tree ≡ Some o → ⊥
none_there w x o e f = go (find x w.store.module_of.tree) e (sym (map_find (name_term w.ctx) (type_term w.ctx) (attr_term w.ctx) x w.store.module_of.tree) ∙ f)
  where
    go : (g : Option Op) → None ≡ option_map node_of g → option_map (meaning w.ctx) g ≡ Some o → ⊥
    go None e f = absurd cc
    go (Some r) e f = absurd cc

pub meant_there : (w : World) (x : ℕ) (r : Op) (o : Operation) → find x w.store.module_of.tree ≡ Some r → find x (module_in w).tree ≡ Some o → o ≡ meaning w.ctx r
meant_there w x r o e f =
    let one : Some o ≡ Some (meaning w.ctx r) = sym f ∙ map_find (name_term w.ctx) (type_term w.ctx) (attr_term w.ctx) x w.store.module_of.tree ∙ ap (option_map (meaning w.ctx)) e in
    cc

pub there_meant : (w : World) (x : ℕ) (r : Op) → find x w.store.module_of.tree ≡ Some r → find x (module_in w).tree ≡ Some (meaning w.ctx r)
there_meant w x r e = map_find (name_term w.ctx) (type_term w.ctx) (attr_term w.ctx) x w.store.module_of.tree ∙ ap (option_map (meaning w.ctx)) e

pub distinct_in : (w : World) → HasDistinctIds (module_in w).tree
distinct_in w = (wellformed_meaning w.ctx w.store.module_of w.wellformed).distinct

-- an operation of the module has interned numbers and is within its limits
pub sound_at : (w : World) (x : ℕ) (o : Op) → find x w.store.module_of.tree ≡ Some o → IsSoundIn w.ctx o
sound_at w x o e = found_sound w.ctx x w.store.module_of.tree o w.sound e

own_fits : (o : Op) → every op_fits o ≡ true → op_fits o ≡ true
own_fits (op h rs) e = (and_parts (op_fits (op h rs)) (regions_every op_fits rs) e).0

pub fits_at : (w : World) (x : ℕ) (o : Op) → find x w.store.module_of.tree ≡ Some o → op_fits o ≡ true
fits_at w x o e =
    let t = w.store.module_of.tree in
    own_fits o (every_found op_fits x t o (and_parts (nat_le (op_count t) most_ops) (every op_fits t) w.wellformed.wellformed.counts).1 e)

-- the types of its results and of its block arguments
pub results_known : (c : ContextModel) (o : Op) → IsSoundIn c o → list_all (is_type c) (head o).results ≡ true
results_known c (op h rs) s =
    let own = and_parts (op_passes (is_name c) (is_type c) (is_attr c) (op h rs)) (regions_every (op_passes (is_name c) (is_type c) (is_attr c)) rs) s.known in
    let parts = and_parts (head_passes (is_name c) (is_type c) (is_attr c) h) (all_arguments_pass (list_all (is_type c)) rs) own.0 in
    let name = and_parts (is_name c h.name) _ parts.0 in
    (and_parts (list_all (is_type c) h.results) _ name.1).0

pub arguments_known : (c : ContextModel) (o : Op) → IsSoundIn c o → all_arguments_pass (list_all (is_type c)) (regions o) ≡ true
arguments_known c (op h rs) s =
    let own = and_parts (op_passes (is_name c) (is_type c) (is_attr c) (op h rs)) (regions_every (op_passes (is_name c) (is_type c) (is_attr c)) rs) s.known in
    (and_parts (head_passes (is_name c) (is_type c) (is_attr c) h) (all_arguments_pass (list_all (is_type c)) rs) own.0).1

arguments_few : (o : Op) → op_fits o ≡ true → all_arguments_pass items_fit (regions o) ≡ true
arguments_few (op h rs) e =
    let own = and_parts (head_fits h) (nat_le (region_count rs) most_regions && all_arguments_pass items_fit rs) e in
    (and_parts (nat_le (region_count rs) most_regions) (all_arguments_pass items_fit rs) own.1).1

passed_at : {N T A : Type 0} (p : List T → Bool) (rs : RegionsOf N T A) (r : ℕ) (types : List T) → all_arguments_pass p rs ≡ true → option_and_then (λ a. a) (slice_get (regions_arguments rs) r) ≡ Some types → p types ≡ true
passed_at p no_regions zero types e f = absurd cc
passed_at p no_regions (suc r) types e f = absurd cc
passed_at p (region empty rs) zero types e f = absurd cc
passed_at p (region empty rs) (suc r) types e f = passed_at p rs r types e f
passed_at p (region (block args os) rs) zero types e f = (let one : args ≡ types = cc in subst (λ l. p l ≡ true) one (and_parts (p args) (all_arguments_pass p rs) e).0)
passed_at p (region (block args os) rs) (suc r) types e f = passed_at p rs r types (and_parts (p args) (all_arguments_pass p rs) e).1 f

node_arguments : (o : Op) → (node_of o).arguments ≡ regions_arguments (regions o)
node_arguments (op h rs) = refl

module _ (w : World) (x : ℕ) (n : Node) (s : Raw w x n) (r : ℕ) (types : List ℕ) (e : option_and_then (λ a. a) (slice_get n.arguments r) ≡ Some types) where
  types_at : option_and_then (λ a. a) (slice_get (regions_arguments (regions s.here)) r) ≡ Some types
  types_at = sym (ap (λ (m : Node). option_and_then (λ a. a) (slice_get m.arguments r)) s.node ∙ ap (λ l. option_and_then (λ a. a) (slice_get l r)) (node_arguments s.here)) ∙ e

  pub types_known_at : list_all (is_type w.ctx) types ≡ true
  types_known_at = passed_at (list_all (is_type w.ctx)) (regions s.here) r types (arguments_known w.ctx s.here (sound_at w x s.here s.found)) types_at

  pub types_few_at : length types ≤ 256
  types_few_at = leb-true (length types) 256 (passed_at items_fit (regions s.here) r types (arguments_few s.here (fits_at w x s.here s.found)) types_at)

-- an operation without the operations inside its blocks
with_arguments : (rs : RegionsOf ℕ ℕ ℕ) → regions_of (map region_with (regions_arguments rs)) ≡ bare_regions rs
with_arguments no_regions = refl
with_arguments (region empty rs) = ap (region empty) (with_arguments rs)
with_arguments (region (block args os) rs) = ap (region (region_with (Some args))) (with_arguments rs)

read_bare : (x : ℕ) (o : Op) → (head o).id ≡ x → bare_read x (node_of o) ≡ bare o
read_bare x (op h rs) e = λ i. op (record h { id = sym e i }) (with_arguments rs i)

pub found_id : (x : ℕ) (t o : Op) → find x t ≡ Some o → (head o).id ≡ x
found_id x t o e = let w = found_stands x t o e in ap (λ (z : Op). (head z).id) (sym w.3) ∙ w.2

node_head : (o : Op) → (node_of o).head ≡ head o
node_head (op h rs) = refl

pub shown_operands : (w : World) (x : ℕ) (n : Node) (s : Raw w x n) → n.head.operands ≡ (head s.here).operands
shown_operands w x n s = ap (λ (m : Node). m.head.operands) s.node ∙ ap (λ h. h.operands) (node_head s.here)

pub shown_results : (w : World) (x : ℕ) (n : Node) (s : Raw w x n) → n.head.results ≡ (head s.here).results
shown_results w x n s = ap (λ (m : Node). m.head.results) s.node ∙ ap (λ h. h.results) (node_head s.here)

pub shown_known : (w : World) (x : ℕ) (n : Node) → Some n ≡ option_map node_of (find x w.store.module_of.tree) → list_all (is_type w.ctx) n.head.results ≡ true
shown_known w x n e = let s = raw w x n e in subst (λ l. list_all (is_type w.ctx) l ≡ true) (sym (shown_results w x n s)) (results_known w.ctx s.here (sound_at w x s.here s.found))

-- the operation that was read
pub was_read : (w : World) (x : ℕ) (n : Node) → Some n ≡ option_map node_of (find x w.store.module_of.tree) → (i : Indexed) → i.op ≡ bare_read x n
    → i.index_operands.items ≡ map (is_index_value (module_in w).tree) n.head.operands → i.index_results.items ≡ indices (map (type_term w.ctx) n.head.results) → IsReadOf w x i
was_read w x n e i p q r o f =
    let s = raw w x n e in
    let one = same_Some s.here o (sym s.found ∙ f) in
    subst (λ (o : Op). IsReadIn w o i) one
    (record {
      op = p ∙ ap (bare_read x) s.node ∙ read_bare x s.here (found_id x w.store.module_of.tree s.here s.found);
      operands = q ∙ ap (map (is_index_value (module_in w).tree)) (shown_operands w x n s);
      results = r ∙ ap (λ l. indices (map (type_term w.ctx) l)) (shown_results w x n s);
    })

-- it has interned numbers and is within the limits
bare_every : (p : Op → Bool) (rs : RegionsOf ℕ ℕ ℕ) → regions_every p (bare_regions rs) ≡ true
bare_every p no_regions = refl
bare_every p (region empty rs) = bare_every p rs
bare_every p (region (block args os) rs) = bare_every p rs

bare_arguments : (p : List ℕ → Bool) (rs : RegionsOf ℕ ℕ ℕ) → all_arguments_pass p (bare_regions rs) ≡ all_arguments_pass p rs
bare_arguments p no_regions = refl
bare_arguments p (region empty rs) = bare_arguments p rs
bare_arguments p (region (block args os) rs) = ap (λ b. p args && b) (bare_arguments p rs)

bare_count : (rs : RegionsOf ℕ ℕ ℕ) → region_count (bare_regions rs) ≡ region_count rs
bare_count no_regions = refl
bare_count (region g rs) = (let e = bare_count rs in omega (arith, e))

bare_sound : (c : ContextModel) (o : Op) → IsSoundIn c o → IsSoundIn c (bare o)
bare_sound c (op h rs) s =
    let p = op_passes (is_name c) (is_type c) (is_attr c) in
    let q = dictionaries_rise (key_before_in c) in
    let own = and_parts (p (op h rs)) (regions_every p rs) s.known in
    let parts = and_parts (head_passes (is_name c) (is_type c) (is_attr c) h) (all_arguments_pass (list_all (is_type c)) rs) own.0 in
    let order = and_parts (q (op h rs)) (regions_every q rs) s.sorted in
    record {
      known = and_from _ _ (and_from _ _ parts.0 (bare_arguments (list_all (is_type c)) rs ∙ parts.1)) (bare_every p rs);
      sorted = and_from _ _ order.0 (bare_every q rs);
    }

bare_fits : (o : Op) → op_fits o ≡ true → op_fits (bare o) ≡ true
bare_fits (op h rs) e = (λ i. head_fits h && (nat_le (bare_count rs i) most_regions && bare_arguments items_fit rs i)) ∙ e

pub bare_head : (o : Op) → head (bare o) ≡ head o
bare_head (op h rs) = refl

pub indexed_at : (w : World) (x : ℕ) (o : Op) (i : Indexed) → find x w.store.module_of.tree ≡ Some o → IsReadIn w o i → IsIndexed w.ctx i
indexed_at w x o i f r = record {
  sound = subst (IsSoundIn w.ctx) (sym r.op) (bare_sound w.ctx o (sound_at w x o f));
  fits = subst (λ (o : Op). op_fits o ≡ true) (sym r.op) (bare_fits o (fits_at w x o f));
  operands = ap length r.operands ∙ length-map (head o).operands _ ∙ sym (ap (λ h. length h.operands) (ap (λ (o : Op). head o) r.op ∙ bare_head o));
  results = r.results ∙ sym (ap (λ h. indices (map (type_term w.ctx) h.results)) (ap (λ (o : Op). head o) r.op ∙ bare_head o));
}
