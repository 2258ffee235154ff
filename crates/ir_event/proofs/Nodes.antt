-- Nodes, and their meanings.
use Rattle.std.proofs.Common.{◌≡◌, refl, ap, ◌∙◌, subst, ℕ, zero, suc, Bool, true, List, [], ◌∷◌, length, map, Option, Some, None}
use Rattle.std.specs.Prelude.{All, option_map, slice_get}
use Rattle.std.specs.List.{list_all}
use Rattle.std.proofs.lemmas.Bool.{ltb-true}
use Rattle.std.proofs.lemmas.List.Elements.{All-cons, All-nil}
use Rattle.std.specs.FinMap as finmap
use Rattle.op_registry.specs.types.Things.{ContextModel, IsName, IsType, IsAttr}
use Rattle.op_registry.specs.types.Terms.{name_term, type_term, attr_term}
use Rattle.ir_store.specs.trees.Tree.{Op, op, Regions, no_regions, region, empty, block}
use Rattle.ir_store.specs.trees.Ids.{find, first_of}
use Rattle.ir_store.specs.trees.Limits.{all_arguments_pass, regions_every}
use Rattle.ir_store.specs.trees.Maps.{map_regions}
use Rattle.ir_store.specs.trees.Meaning.{IsSoundIn, is_attr, is_name, is_type, meaning}
use Rattle.ir_store.specs.trees.Passing.{entry_passes, head_passes, op_passes}
use Rattle.ir_store.proofs.of_tree_laws.Listed.{both}
use Rattle.ir_store.specs.Nodes.{Node as Numbers, node_of, regions_arguments}
use Rattle.ir_store.specs.Stored.{known}
use Rattle.ir_event.specs.declared.world.World.{World}
use Rattle.ir_event.specs.Modules.{NodeIsOf, node_meaning, node_of_op}
use Rattle.ir_event.proofs.Sounds.{found_sound}

-- the node of a tree's meaning
arguments_shown : (c : ContextModel) (rs : Regions) → regions_arguments (map_regions (name_term c) (type_term c) (attr_term c) rs) ≡ map (option_map (map (type_term c))) (regions_arguments rs)
arguments_shown c no_regions = refl
arguments_shown c (region empty rs) = ap (λ l. None ∷ l) (arguments_shown c rs)
arguments_shown c (region (block args os) rs) = ap (λ l. Some (map (type_term c) args) ∷ l) (arguments_shown c rs)

pub node_shown : (c : ContextModel) (o : Op) → node_of (meaning c o) ≡ node_meaning c (node_of o)
node_shown c (op h rs) = λ i. record { head = (node_meaning c (node_of (op h rs))).head; arguments = arguments_shown c rs i }

-- ids that pass a test
all_of : {X : Type 0} (p : X → Bool) (P : X → Type 0) → ((x : X) → p x ≡ true → P x) → (xs : List X) → list_all p xs ≡ true → All P xs
all_of p P f [] e = All-nil P
all_of p P f (x ∷ xs) e = let b = both (p x) (list_all p xs) e in All-cons P x xs (f x b.0) (all_of p P f xs b.1)

types_known : (c : ContextModel) (rs : Regions) (r : ℕ) (types : List ℕ) → all_arguments_pass (list_all (is_type c)) rs ≡ true → slice_get (regions_arguments rs) r ≡ Some (Some types) → list_all (is_type c) types ≡ true
types_known c no_regions zero types e f = absurd cc
types_known c no_regions (suc r) types e f = absurd cc
types_known c (region empty rs) zero types e f = absurd cc
types_known c (region empty rs) (suc r) types e f = types_known c rs r types e f
types_known c (region (block args os) rs) zero types e f = let one : args ≡ types = cc in subst (λ l. list_all (is_type c) l ≡ true) one (both (list_all (is_type c) args) _ e).0
types_known c (region (block args os) rs) (suc r) types e f = types_known c rs r types (both (list_all (is_type c) args) _ e).1 f

pub node_known : (c : ContextModel) (o : Op) → IsSoundIn c o → NodeIsOf c (node_of o)
node_known c (op h rs) s =
    let passes = both (op_passes (is_name c) (is_type c) (is_attr c) (op h rs)) (regions_every (op_passes (is_name c) (is_type c) (is_attr c)) rs) s.known in
    let own = both (head_passes (is_name c) (is_type c) (is_attr c) h) (all_arguments_pass (list_all (is_type c)) rs) passes.0 in
    let name = both (is_name c h.name) _ own.0 in
    let results = both (list_all (is_type c) h.results) _ name.1 in
    let dictionaries = both (list_all (entry_passes (is_name c) (is_attr c)) h.properties) _ results.1 in
    let entry : (e : ℕ × ℕ) → entry_passes (is_name c) (is_attr c) e ≡ true → IsName c e.0 × IsAttr c e.1 =
    λ e k. let b = both (is_name c e.0) (is_attr c e.1) k in (ltb-true e.0 (length c.names) b.0, ltb-true e.1 (length c.attrs) b.1) in
    let type : (n : ℕ) → is_type c n ≡ true → IsType c n = λ n k. ltb-true n (length c.types) k in
    record {
      name = ltb-true h.name (length c.names) name.0;
      results = all_of (is_type c) (IsType c) type h.results results.0;
      properties = all_of (entry_passes (is_name c) (is_attr c)) (λ e. IsName c e.0 × IsAttr c e.1) entry h.properties dictionaries.0;
      attributes = all_of (entry_passes (is_name c) (is_attr c)) (λ e. IsName c e.0 × IsAttr c e.1) entry h.attributes dictionaries.1;
      arguments = λ r types e. all_of (is_type c) (IsType c) type types (types_known c rs r types own.1 e);
    }

-- an operation that an IR state knows is of its context
known_sound : (w : World) (x : ℕ) (o : Op) → known x w.store ≡ Some o → IsSoundIn w.ctx o
known_sound w x o e = go (find x w.store.module_of.tree) refl e
  where
    go : (q : Option Op) → find x w.store.module_of.tree ≡ q → first_of q (finmap.get w.store.held x) ≡ Some o → IsSoundIn w.ctx o
    go None f k = w.held x o k
    go (Some q) f k = (let one : q ≡ o = cc in found_sound w.ctx x w.store.module_of.tree o w.sound (f ∙ ap Some one))

module _ (w : World) (x : ℕ) (n : Numbers) (is : option_map node_of (known x w.store) ≡ Some n) where
  record Known : Type 0 where
    here : Op
    known_as : known x w.store ≡ Some here
    node : node_of here ≡ n

  found : Known
  found = go (known x w.store) refl is
    where
      go : (q : Option Op) → known x w.store ≡ q → option_map node_of q ≡ Some n → Known
      go None f e = absurd cc
      go (Some o) f e = record { here = o; known_as = f; node = cc }

  pub known_node : NodeIsOf w.ctx n
  known_node = subst (NodeIsOf w.ctx) found.node (node_known w.ctx found.here (known_sound w x found.here found.known_as))

  pub shown_node : node_of_op w x ≡ Some (node_meaning w.ctx n)
  shown_node = ap (option_map (λ (o : Op). node_of (meaning w.ctx o))) found.known_as ∙ ap Some (node_shown w.ctx found.here ∙ ap (node_meaning w.ctx) found.node)
