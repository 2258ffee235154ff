-- The meaning of an IR state's module.
use Rattle.std.specs.Prelude.{◌≡◌, ℕ, List, All, map, Option, Some, option_map, slice_get}
use Rattle.op_registry.specs.types.Things.{ContextModel, IsName, IsType, IsAttr}
use Rattle.op_registry.specs.types.Terms.{TypeTerm, AttrTerm, name_term, type_term, attr_term}
use Rattle.ir_store.specs.trees.WellFormed.{ModuleOf, Module as Numbered}
use Rattle.ir_store.specs.trees.Meaning.{meaning}
use Rattle.ir_store.specs.trees.Maps.{map_head}
use Rattle.ir_store.specs.Nodes.{NodeOf, Node as Numbers, node_of}
use Rattle.ir_store.specs.Stored.{known}
use Rattle.ir_event.specs.declared.world.World.{World}

-- a module with names, types and attributes instead of ids
abbrev pub Module : Type 0
Module = ModuleOf (List ℕ) TypeTerm AttrTerm

-- the meaning of a module of ids of a context
abbrev pub module_meaning : ContextModel → Numbered → Module
module_meaning c m = record { tree = meaning c m.tree; next = m.next }

-- the context of an IR state, and the meaning of its module
abbrev pub context_model : World → ContextModel
context_model w = w.ctx

abbrev pub module_in : World → Module
module_in w = module_meaning w.ctx w.store.module_of

-- an operation without the operations in its blocks, with names, types and attributes
abbrev pub Node : Type 0
Node = NodeOf (List ℕ) TypeTerm AttrTerm

-- the meaning of a node of ids of a context
abbrev pub node_meaning : ContextModel → Numbers → Node
node_meaning c n = record { head = map_head (name_term c) (type_term c) (attr_term c) n.head; arguments = map (option_map (map (type_term c))) n.arguments }

-- the ids of a node are of the context
pub record NodeIsOf (c : ContextModel) (n : Numbers) : Type 0 where
  pub name : IsName c n.head.name
  pub results : All (IsType c) n.head.results
  pub properties : All (λ e. IsName c e.0 × IsAttr c e.1) n.head.properties
  pub attributes : All (λ e. IsName c e.0 × IsAttr c e.1) n.head.attributes
  pub arguments : (r : ℕ) (types : List ℕ) → slice_get n.arguments r ≡ Some (Some types) → All (IsType c) types

-- the node of operation x, of the module or held, that an IR state shows
abbrev pub node_of_op : World → ℕ → Option Node
node_of_op w x = option_map (λ o. node_of (meaning w.ctx o)) (known x w.store)
