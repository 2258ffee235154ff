-- Reading the tree of interned numbers agrees with reading the tree of terms.
use Rattle.std.proofs.Common.{◌≡◌, refl, ap, sym, ◌∙◌, ℕ, Option, Some, None}
use Rattle.std.specs.Prelude.{option_map}
use Rattle.ir_event.specs.types.Things.{ContextModel}
use Rattle.ir_event.specs.types.Terms.{name_term, type_term, attr_term}
use Rattle.ir_event.specs.trees.declared.place.Place.{Place}
use Rattle.ir_event.specs.trees.Tree.{Op, op, head}
use Rattle.ir_event.specs.trees.Ids.{find}
use Rattle.ir_event.specs.trees.Places.{place_of}
use Rattle.ir_event.specs.trees.Maps.{map_head}
use Rattle.ir_event.specs.trees.Meaning.{meaning}
use Rattle.ir_event.proofs.of_trees.Mapped.{map_find, map_place}
use Rattle.ir_event.specs.store.Nodes.{Node, node_of}
use Rattle.patterns_base.specs.Looks.{insertion_of, insertion_point}
use Rattle.patterns_matchers.specs.Reads.{head_at, header_of_node}

pub head_meaning : (c : ContextModel) (x : ℕ) (t : Op) → head_at x (meaning c t) ≡ option_map (map_head (name_term c) (type_term c) (attr_term c)) (option_map (λ o. head o) (find x t))
head_meaning c x t = ap (option_map (λ o. head o)) (map_find (name_term c) (type_term c) (attr_term c) x t) ∙ go (find x t)
  where
    go : (o : Option Op) → option_map (λ o. head o) (option_map (meaning c) o) ≡ option_map (map_head (name_term c) (type_term c) (attr_term c)) (option_map (λ o. head o) o)
    go None = refl
    go (Some (op h rs)) = refl

-- what a world shows of an operation
pub shown_meant : (c : ContextModel) (x : ℕ) (t : Op) (r : Option Node) → r ≡ option_map node_of (find x t) → option_map (header_of_node c) r ≡ head_at x (meaning c t)
shown_meant c x t r is = ap (option_map (header_of_node c)) is ∙ go (find x t) ∙ sym (head_meaning c x t)
  where
    node_head : (o : Op) → header_of_node c (node_of o) ≡ map_head (name_term c) (type_term c) (attr_term c) (head o)
    node_head (op h rs) = refl

    go : (o : Option Op) → option_map (header_of_node c) (option_map node_of o) ≡ option_map (map_head (name_term c) (type_term c) (attr_term c)) (option_map (λ o. head o) o)
    go None = refl
    go (Some o) = ap Some (node_head o)

pub insertion_is : (c : ContextModel) (x : ℕ) (t : Op) (r : Option Place) → r ≡ place_of x t → option_map (insertion_point x) r ≡ insertion_of x (meaning c t)
insertion_is c x t r e = ap (option_map (insertion_point x)) (e ∙ sym (map_place (name_term c) (type_term c) (attr_term c) x t))
