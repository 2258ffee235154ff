-- Dead operations: their effects are only allocations and reads, and their results have no uses (Operation
-- Canonicalization, "General Design").
use Rattle.std.specs.Prelude.{ℕ, List, codes, eqb, Bool, false, ◌||◌, ◌&&◌, not, Option, Some, None}
use Rattle.std.specs.List.{list_all}
use Rattle.std.specs.Str.{bytes_eq}
use Rattle.ir_event.specs.trees.declared.value.Value.{Value}
use Rattle.ir_event.specs.trees.declared.value.Value.TheVariants.{Result, Arg}
use Rattle.ir_event.specs.trees.Tree.{OpOf, head}
use Rattle.ir_event.specs.trees.Ids.{find}
use Rattle.ir_event.specs.trees.Limits.{every}
use Rattle.ir_event.specs.trees.Meaning.{Operation}
use Rattle.op_registry.specs.declared.definition.Trait.TheVariants.{Terminator}
use Rattle.op_registry.specs.Registry.{own_of, has_trait}
use Rattle.effects.specs.declared.effect_kinds.EffectKinds.{EffectKinds}
use Rattle.op_registry.specs.declared.own.Own.{Own}
use Rattle.effects.specs.Effects.{own_kinds, is_recursive, effects}

-- whether a value is a result of operation x
abbrev pub is_result_of : ℕ → Value → Bool
is_result_of x (Result y k) = eqb y x
is_result_of x (Arg y r k) = false

-- whether no operation of a tree has a result of operation x as an operand
abbrev pub is_unused : {N T A : Type 0} → ℕ → OpOf N T A → Bool
is_unused x t = every (λ o. list_all (λ v. not (is_result_of x v)) (head o).operands) t

-- terminators, modules and functions are never dead
abbrev pub is_kept : List ℕ → Bool
is_kept name =
    has_trait Terminator name || (bytes_eq name (codes "builtin.module") || bytes_eq name (codes "func.func"))

-- whether the effects are only allocations and reads
abbrev pub may_go : EffectKinds → Bool
may_go s = not (s.unknown || (s.free || s.write))

-- whether the own effects of an operation are others than allocations and reads
abbrev pub is_missed : Own → Bool
is_missed own = not (is_recursive own || may_go (own_kinds own))

-- whether operations with that name are never dead, because of the name or of their own effects
abbrev pub stays : List ℕ → Bool
stays name = is_kept name || is_missed (own_of name)

-- whether an operation of a whole tree is dead
abbrev pub is_dead : Operation → Operation → Bool
is_dead whole o = is_unused (head o).id whole && (not (is_kept (head o).name) && may_go (effects own_of o))

-- whether operation x is in the tree and dead
abbrev pub dead_in : Operation → Option Operation → Bool
dead_in t None = false
dead_in t (Some o) = is_dead t o

abbrev pub dead_at : ℕ → Operation → Bool
dead_at x t = dead_in t (find x t)
