-- The gathered context of an operation.
use Rattle.std.specs.Prelude.{if◌then◌else◌, ℕ, zero, suc, ◌+◌, ◌*◌, List, [], ◌∷◌, length, map, Option, Some, None}
use Rattle.std.specs.Prelude.{option_map, option_and_then, IfSome}
use Rattle.std.specs.List.{All}
use Rattle.ir_event.specs.types.Things.{ContextModel, IsType}
use Rattle.ir_event.specs.trees.Tree.{OpOf, Op, head, regions, region_count}
use Rattle.ir_event.specs.tree_laws.Reads.{ops_at}
use Rattle.ir_event.specs.tree_laws.Stands.{op_with_path}
use Rattle.ir_event.specs.types.Terms.{TypeTerm, AttrTerm, name_term, type_term, attr_term}
use Rattle.ir_event.specs.trees.Ids.{find}
use Rattle.ir_event.specs.declared.event.Event.{Event}
use Rattle.ir_event.specs.declared.event.Event.TheVariants.{Put, Take, SetOperand, SetEntry, Shift}
use Rattle.ir_event.specs.Modules.{NodeIsOf}
use Rattle.ir_event.specs.declared.world.World.{World}
use Rattle.listeners_support.specs.declared.op_context.OpContext.{OpContext}
use Rattle.listeners_support.specs.declared.op_context.ParentContext.{ParentContext}
use Rattle.listeners_support.specs.Mapped.{map_surroundings}
use Rattle.listeners_support.specs.Facts.{is_one_of}
use Rattle.listeners_support.specs.Surroundings.{SurroundingsOf, OuterOf, last_name, outer_of}

-- the gathered part about the parent
abbrev pub outer_in : ParentContext → OuterOf ℕ ℕ ℕ
outer_in o = record { name = o.name; ended = o.ended }

-- the gathered context
abbrev pub gathered : OpContext → SurroundingsOf ℕ ℕ ℕ
gathered a = record {
  node = a.node;
  lasts = a.lasts.items;
  types = map Some a.types.items;
  outer = option_map outer_in a.outer;
}

-- the numbers of a gathered context are in the context c
pub record AroundIsOf (c : ContextModel) (a : OpContext) : Type 0 where
  pub node : NodeIsOf c a.node
  pub types : All (λ t. IsType c t) a.types.items
  pub ended : IfSome (option_and_then (λ (o : ParentContext). o.ended) a.outer) (NodeIsOf c)

-- the tree of a world's module, in numbers
abbrev pub tree_in : World → Op
tree_in w = w.store.module_of.tree

-- the name of the last operation in the block of region r of operation x
abbrev pub last_name_at : {N T A : Type 0} → ℕ → OpOf N T A → ℕ → Option N
last_name_at x t r = option_and_then last_name (ops_at x r t)

-- the values of f at `count` numbers, from r on
abbrev pub from_on : {X : Type 0} → (ℕ → X) → ℕ → ℕ → List X
from_on f r zero = []
from_on f r (suc k) = f r ∷ from_on f (r + 1) k

-- the part of the context of operation x that is about its parent
abbrev pub outer_at : {N T A : Type 0} → ℕ → OpOf N T A → Option (OuterOf N T A)
outer_at x t = option_and_then (λ s. outer_of s.path) (op_with_path x t)

-- the looks for the context of an operation: one if it isn't there; otherwise five, one for each operand, and two for
-- each region
abbrev pub gather_looks : {N T A : Type 0} → Option (OpOf N T A) → ℕ
gather_looks None = 1
gather_looks (Some o) = 5 + length (head o).operands + 2 * region_count (regions o)

-- the looks for a list of operations; an operation that occurs again is gathered once
abbrev pub gathers_for : {N T A : Type 0} → OpOf N T A → List ℕ → ℕ
gathers_for t [] = 0
gathers_for t (x ∷ xs) = (if is_one_of x xs then 0 else gather_looks (find x t)) + gathers_for t xs

-- the number of regions of an operation, if there is one
abbrev pub regions_found : {N T A : Type 0} → Option (OpOf N T A) → ℕ
regions_found None = 0
regions_found (Some o) = region_count (regions o)

-- the looks for the operations near an event
abbrev pub near_looks : {N T A : Type 0} → Event → OpOf N T A → ℕ
near_looks (Put x place fresh) t = 1
near_looks (Take x place fresh) t = 1
near_looks (SetOperand x k old new) t = 2 + regions_found (find x t)
near_looks (SetEntry x part key old new) t = 2 + regions_found (find x t)
near_looks (Shift x old new) t = 2

-- the gathered context, in terms of contents
abbrev pub gathered_in : ContextModel → OpContext → SurroundingsOf (List ℕ) TypeTerm AttrTerm
gathered_in c a = map_surroundings (name_term c) (type_term c) (attr_term c) (gathered a)
