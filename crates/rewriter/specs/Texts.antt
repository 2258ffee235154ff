-- Texts parsed next to a module, in a context that grows.
use Rattle.std.specs.Prelude.{◌≡◌, ℕ, Bool, List, Option, option_map, option_and_then}
use Rattle.ir_event.specs.types.Sound.{Holds}
use Rattle.ir_event.specs.types.Things.{IsExtendedBy}
use Rattle.ir_event.specs.trees.Meaning.{Operation}
use Rattle.ir_event.specs.tree_laws.Values.{type_of_value}
use Rattle.ir_event.specs.declared.world.World.{World}
use Rattle.ir_event.specs.Modules.{Module, module_in}
use Rattle.ir_text.specs.Public.{value_named}
use Rattle.ir_text.specs.Public.{BoundTerm}
use Rattle.ir_text.specs.Public.{SpellsOp}

-- the context of the IR state grew, and its module is unchanged
pub record Grown (v w : World) : Type 0 where
  pub grows : IsExtendedBy v.ctx w.ctx
  pub before : Holds v.ctx
  pub after : Holds w.ctx
  pub same : module_in w ≡ module_in v
  pub store : w.store ≡ v.store

-- the meaning of a name that is free in an operation's text: a value of the module
abbrev pub free_in : Operation → List ℕ → Option BoundTerm
free_in t name =
    option_and_then (λ v. option_map (λ type. record { value = v; type = type }) (type_of_value v t)) (value_named name)

-- the text is the operation, and may use the values of the module; `opaque` says whether unknown types and attributes
-- are kept as their texts
abbrev pub SpellsNextTo : Bool → Module → List ℕ → Operation → Type 0
SpellsNextTo opaque m bytes o = SpellsOp opaque (free_in m.tree) m.next bytes o
