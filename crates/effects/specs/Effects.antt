-- The effects of operations (Rationale, "Side Effects & Speculation"; Traits, "RecursiveMemoryEffects").
use Rattle.std.specs.Prelude.{ℕ, Bool, true, false, ◌||◌, not, if◌then◌else◌}
use Rattle.ir_event.specs.types.Things.{ContextModel}
use Rattle.ir_event.specs.types.Terms.{name_term}
use Rattle.ir_event.specs.trees.Tree.{OpOf, op, RegionsOf, no_regions, region}
use Rattle.ir_event.specs.trees.Tree.{RegionOf, empty, block, OpsOf, no_ops, next}
use Rattle.effects.specs.declared.effect_kinds.EffectKinds.{EffectKinds}
use Rattle.op_registry.specs.declared.own.Own.{Own}
use Rattle.op_registry.specs.declared.own.Own.TheVariants.{Pure, Only, Recursive, Unknown}
use Rattle.op_registry.specs.Registry.{own_of}

-- one effect
pub data Effect : Type 0 where
  unknown : Effect
  allocate : Effect
  free : Effect
  read : Effect
  write : Effect

-- whether a set has the effect
abbrev pub has : Effect → EffectKinds → Bool
has unknown s = s.unknown
has allocate s = s.allocate
has free s = s.free
has read s = s.read
has write s = s.write

-- the empty set
abbrev pub none : EffectKinds
none = record { unknown = false; allocate = false; free = false; read = false; write = false }

-- whether a set is empty
abbrev pub is_none : EffectKinds → Bool
is_none a = not (a.unknown || (a.allocate || (a.free || (a.read || a.write))))

-- the union of two sets
abbrev pub union : EffectKinds → EffectKinds → EffectKinds
union a b =
    record {
      unknown = a.unknown || b.unknown;
      allocate = a.allocate || b.allocate;
      free = a.free || b.free;
      read = a.read || b.read;
      write = a.write || b.write;
    }

-- the own effects as a set, which is empty if the operation has the effects of its children
abbrev pub own_kinds : Own → EffectKinds
own_kinds Pure = none
own_kinds (Only s) = record { unknown = false; allocate = s.allocate; free = s.free; read = s.read; write = s.write }
own_kinds Recursive = none
own_kinds Unknown = record none { unknown = true }

-- whether an operation has the effects of its children
abbrev pub is_recursive : Own → Bool
is_recursive Pure = false
is_recursive (Only s) = false
is_recursive Recursive = true
is_recursive Unknown = false

-- the effects of an operation, given those of its children
abbrev pub effects_by : Own → EffectKinds → EffectKinds
effects_by own inner = if is_recursive own then inner else own_kinds own

-- the own effects of an operation, by the number of its name in a context
abbrev pub own_by : ContextModel → ℕ → Own
own_by c n = own_of (name_term c n)

-- the effects of an operation: its own, or those of its children
abbrev mutual
  pub effects : {N T A : Type 0} → (N → Own) → OpOf N T A → EffectKinds
  effects own (op h rs) = effects_by (own h.name) (regions_effects own rs)

  pub regions_effects : {N T A : Type 0} → (N → Own) → RegionsOf N T A → EffectKinds
  regions_effects own no_regions = none
  regions_effects own (region r rs) = union (region_effects own r) (regions_effects own rs)

  pub region_effects : {N T A : Type 0} → (N → Own) → RegionOf N T A → EffectKinds
  region_effects own empty = none
  region_effects own (block args os) = ops_effects own os

  pub ops_effects : {N T A : Type 0} → (N → Own) → OpsOf N T A → EffectKinds
  ops_effects own no_ops = none
  ops_effects own (next o os) = union (effects own o) (ops_effects own os)
