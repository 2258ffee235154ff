-- Nodes, and the operations that they show.
use Rattle.std.proofs.Common.{Bor, ◌≡◌, refl, ap, sym, ◌∙◌, subst, ℕ, zero, suc, ◌≤◌, ◌<◌, List, length, map, Bool, Option, Some, None}
use Rattle.std.specs.Prelude.{is_some, slice_get, option_map, option_and_then}
use Rattle.std.proofs.lemmas.Option.{slice_get-map, slice_get_past}
use Rattle.ir_event.specs.types.Things.{ContextModel}
use Rattle.ir_event.specs.types.Terms.{TypeTerm, AttrTerm, name_term, type_term, attr_term}
use Rattle.ir_event.specs.trees.Tree.{op, Op, RegionsOf, no_regions, region, RegionOf, empty, block, regions}
use Rattle.ir_event.specs.trees.Ids.{find}
use Rattle.ir_event.specs.trees.Meaning.{Operation, meaning}
use Rattle.ir_event.proofs.of_trees.Mapped.{map_find}
use Rattle.ir_event.specs.tree_laws.Values.{region_at, arguments_of, arguments_at}
use Rattle.ir_event.specs.store.Nodes.{NodeOf, Node, node_of, regions_arguments}
use Rattle.ir_event.specs.Modules.{node_meaning}
use Rattle.ir_event.proofs.Nodes.{node_shown}
use Rattle.patterns_plans.specs.reads.Reads.{header_of_node}
use Rattle.patterns_regions.specs.Blocks.{Shows, is_block}
use Rattle.ir_event.proofs.of_types.Truths.{get_within}

-- what a world shows of an operation
pub shown_at : (c : ContextModel) (x : ℕ) (t : Op) (r : Option Node) → r ≡ option_map node_of (find x t) → option_map (node_meaning c) r ≡ option_map (λ o. node_of o) (find x (meaning c t))
shown_at c x t r is =
    ap (option_map (node_meaning c)) is ∙ go (find x t) ∙ sym (ap (option_map (λ o. node_of o)) (map_find (name_term c) (type_term c) (attr_term c) x t))
  where
    go : (o : Option Op) → option_map (node_meaning c) (option_map node_of o) ≡ option_map (λ o. node_of o) (option_map (meaning c) o)
    go None = refl
    go (Some o) = ap Some (sym (node_shown c o))

-- a property of the operation that a node shows, whatever is inside its blocks, holds of the operation in the module
module _ (c : ContextModel) (n : Node) (f : Option Operation) (P : Option Operation → Type 0) where
  pub viewed : Some (node_meaning c n) ≡ option_map (λ o. node_of o) f → ((rs : RegionsOf (List ℕ) TypeTerm AttrTerm) → Shows c n (op (header_of_node c n) rs) → f ≡ Some (op (header_of_node c n) rs) → P (Some (op (header_of_node c n) rs))) → P f
  viewed e g = go f refl e
    where
      go : (z : Option Operation) → f ≡ z → Some (node_meaning c n) ≡ option_map (λ o. node_of o) z → P f
      go None k e = absurd cc
      go (Some (op h rs)) k e =
          let one : node_meaning c n ≡ node_of (op h rs) = cc in
          let heads : h ≡ header_of_node c n = sym (ap (λ (z : NodeOf (List ℕ) TypeTerm AttrTerm). z.head) one) in
          let is : f ≡ Some (op (header_of_node c n) rs) = k ∙ ap (λ j. Some (op j rs)) heads in
          let shows : Shows c n (op (header_of_node c n) rs) = one ∙ ap (λ j. node_of (op j rs)) heads in
          subst P (sym is) (g rs shows is)

-- the arguments of a node are those of the operation's regions
arguments_get : (rs : RegionsOf (List ℕ) TypeTerm AttrTerm) (r : ℕ) → slice_get (regions_arguments rs) r ≡ option_map (λ g. arguments_of g) (region_at r rs)
arguments_get no_regions zero = refl
arguments_get no_regions (suc r) = refl
arguments_get (region g rs) zero = refl
arguments_get (region g rs) (suc r) = arguments_get rs r

node_arguments : (o : Operation) → (node_of o).arguments ≡ regions_arguments (regions o)
node_arguments (op h rs) = refl

shown_region : (c : ContextModel) (n : Node) (o : Operation) (r : ℕ) → Shows c n o → option_map (λ g. arguments_of g) (region_at r (regions o)) ≡ option_map (option_map (map (type_term c))) (slice_get n.arguments r)
shown_region c n o r e =
    sym (arguments_get (regions o) r)
    ∙ ap (λ l. slice_get l r) (sym (node_arguments o) ∙ sym (ap (λ (z : NodeOf (List ℕ) TypeTerm AttrTerm). z.arguments) e))
    ∙ slice_get-map (option_map (map (type_term c))) n.arguments r

shown_block : (c : ContextModel) (n : Node) (o : Operation) (r : ℕ) → Shows c n o → option_map is_block (region_at r (regions o)) ≡ option_map is_some (slice_get n.arguments r)
shown_block c n o r e = blocks (region_at r (regions o)) ∙ ap (option_map is_some) (shown_region c n o r e) ∙ same (slice_get n.arguments r)
  where
    blocks : (g : Option (RegionOf (List ℕ) TypeTerm AttrTerm)) → option_map is_block g ≡ option_map is_some (option_map (λ g. arguments_of g) g)
    blocks None = refl
    blocks (Some empty) = refl
    blocks (Some (block args os)) = refl

    same : (a : Option (Option (List ℕ))) → option_map is_some (option_map (option_map (map (type_term c))) a) ≡ option_map is_some a
    same None = refl
    same (Some None) = refl
    same (Some (Some l)) = refl

-- no region with this number, and a region with it
pub no_block : (c : ContextModel) (n : Node) (o : Operation) (r : ℕ) → Shows c n o → length n.arguments ≤ r → None ≡ option_map is_block (region_at r (regions o))
no_block c n o r e h = sym (shown_block c n o r e ∙ ap (option_map is_some) (slice_get_past n.arguments r h))

pub some_block : (c : ContextModel) (n : Node) (o : Operation) (r : ℕ) → Shows c n o → r < length n.arguments → (b : Bool) → b ≡ is_some (option_and_then (λ a. a) (slice_get n.arguments r)) → Some b ≡ option_map is_block (region_at r (regions o))
some_block c n o r e h b f =
    let w = get_within n.arguments r h in
    ap Some (f ∙ ap (λ (z : Option (Option (List ℕ))). is_some (option_and_then (λ a. a) z)) w.1) ∙ sym (shown_block c n o r e ∙ ap (option_map is_some) w.1)

-- the arguments of a block
pub block_types : (c : ContextModel) (n : Node) (o : Operation) (r : ℕ) → Shows c n o → option_map (map (type_term c)) (option_and_then (λ a. a) (slice_get n.arguments r)) ≡ arguments_at r o
block_types c n o r e = sym (joined (region_at r (regions o)) ∙ ap (option_and_then (λ a. a)) (shown_region c n o r e) ∙ inside (slice_get n.arguments r))
  where
    joined : (g : Option (RegionOf (List ℕ) TypeTerm AttrTerm)) → option_and_then (λ g. arguments_of g) g ≡ option_and_then (λ a. a) (option_map (λ g. arguments_of g) g)
    joined None = refl
    joined (Some g) = refl

    inside : (a : Option (Option (List ℕ))) → option_and_then (λ a. a) (option_map (option_map (map (type_term c))) a) ≡ option_map (map (type_term c)) (option_and_then (λ a. a) a)
    inside None = refl
    inside (Some a) = refl

-- an optional reference is present exactly if its value is
pub seen : {X : Type 0} (r : Option (Bor X)) (q : Option X) → option_map (λ a. a.now) r ≡ q → is_some r ≡ is_some q
seen {X = X} r q e = go r ∙ ap is_some e
  where
    go : (r : Option (Bor X)) → is_some r ≡ is_some (option_map (λ (a : Bor X). a.now) r)
    go None = refl
    go (Some a) = refl

pub pointed : {X Y : Type 0} (f : X → Y) (r : Option (Bor X)) → option_map (λ a. f a.now) r ≡ option_map f (option_map (λ a. a.now) r)
pointed f None = refl
pointed f (Some a) = refl
