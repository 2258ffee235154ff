-- The meaning of what is read.
use Rattle.std.specs.Prelude.{ℕ, Option, Some, option_map}
use Rattle.ir_event.specs.types.Things.{ContextModel}
use Rattle.ir_event.specs.types.Terms.{name_term, type_term, attr_term}
use Rattle.ir_event.specs.trees.Tree.{op, no_regions, head}
use Rattle.ir_event.specs.trees.Ids.{find}
use Rattle.ir_event.specs.trees.Maps.{map_head}
use Rattle.ir_event.specs.trees.Meaning.{Operation}
use Rattle.ir_event.specs.store.Nodes.{Node}
use Rattle.ir_event.specs.trees.declared.value.Value.{Value}
use Rattle.patterns_base.specs.Keeps.{given}
use Rattle.patterns_base.specs.Looks.{Header, One, Two, Three, defining_op, is_verified, when}
use Rattle.patterns_matchers.specs.declared.shapes.UnaryOp.{UnaryOp}
use Rattle.patterns_matchers.specs.declared.shapes.BinaryOp.{BinaryOp}
use Rattle.patterns_matchers.specs.declared.shapes.TernaryOp.{TernaryOp}

-- the head of operation x of a tree: everything but its regions
abbrev pub head_at : ℕ → Operation → Option Header
head_at x t = option_map (λ o. head o) (find x t)

-- the meaning of a node that is read
abbrev pub header_of_node : ContextModel → Node → Header
header_of_node c n = map_head (name_term c) (type_term c) (attr_term c) n.head

-- the same as an operation x of a tree with nothing inside
abbrev pub bare_in : ContextModel → ℕ → Node → Operation
bare_in c x n = op (record (header_of_node c n) { id = x }) no_regions

-- the defining operation of a value, if it is verified
abbrev pub verified_defining_op : Operation → Value → Option Header
verified_defining_op t v = given (defining_op t v) (λ h. when (is_verified t h) (Some h))

abbrev pub one_in : ContextModel → UnaryOp → One
one_in c p = record { name = name_term c p.name; first = p.first; ty = type_term c p.ty }

abbrev pub two_in : ContextModel → BinaryOp → Two
two_in c p = record { name = name_term c p.name; first = p.first; second = p.second; ty = type_term c p.ty }

abbrev pub three_in : ContextModel → TernaryOp → Three
three_in c p =
    record { name = name_term c p.name; first = p.first; second = p.second; third = p.third; ty = type_term c p.ty }
