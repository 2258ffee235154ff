-- The inputs of the rules, by the numbers of a context.
use Rattle.std.specs.Prelude.{◌≡◌, ℕ, List, map, Option, option_map, IfSome}
use Rattle.std.specs.List.{All}
use Rattle.ir_types.specs.Things.{ContextModel, IsType}
use Rattle.ir_types.specs.Terms.{TypeTerm, name_term, type_term, attr_term}
use Rattle.listeners_support.specs.Nodes.{Node as NumberNode}
use Rattle.op_registry.specs.declared.definition.OpDef.{OpDef}
use Rattle.op_registry.specs.Registry.{row_from}
use Rattle.listeners_support.specs.declared.op_context.OpContext.{OpContext}
use Rattle.listeners_support.specs.declared.op_context.ParentContext.{ParentContext}
use Rattle.listeners_support.specs.Mapped.{map_node}
use Rattle.ir_verify_base.specs.declared.fits.ComparedTypes.{ComparedTypes as NumberKnown}
use Rattle.ir_verify_base.specs.Fits.{Node, Outer as OuterTerm, Surroundings, Known, known_of, there}

-- the types of a list of numbers
abbrev pub typed : ContextModel → List ℕ → List (Option TypeTerm)
typed c ns = there (map (type_term c) ns)

-- an operation and its context
abbrev pub node_in : ContextModel → NumberNode → Node
node_in c n = map_node (name_term c) (type_term c) (attr_term c) n

abbrev pub outer_in : ContextModel → ParentContext → OuterTerm
outer_in c o = record { name = name_term c o.name; ended = option_map (node_in c) o.ended }

abbrev pub around_in : ContextModel → OpContext → Surroundings
around_in c a = record {
  node = node_in c a.node;
  lasts = map (option_map (name_term c)) a.lasts.items;
  types = typed c a.types.items;
  outer = option_map (outer_in c) a.outer;
}

-- the types with which a type rule may compare a type
abbrev pub known_in : ContextModel → NumberKnown → Known
known_in c k = record {
  number = option_map (type_term c) k.number;
  same = option_map (type_term c) k.same;
  initial = typed c k.initial.now;
  results = typed c k.results.now;
  inputs = typed c k.inputs.now;
}

-- the numbers are in the context
pub record AreKnown (c : ContextModel) (k : NumberKnown) : Type 0 where
  pub number : IfSome k.number (λ t. IsType c t)
  pub same : IfSome k.same (λ t. IsType c t)
  pub initial : All (λ t. IsType c t) k.initial.now
  pub results : All (λ t. IsType c t) k.results.now
  pub inputs : All (λ t. IsType c t) k.inputs.now

-- these types are those of an operation and its context
pub record AreKnownOf (c : ContextModel) (def : OpDef) (a : OpContext) (k : NumberKnown) : Type 0 where
  pub are : known_in c k ≡ known_of (row_from def) (around_in c a)
  pub numbers : AreKnown c k
