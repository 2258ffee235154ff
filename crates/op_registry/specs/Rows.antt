-- The registered operations, each with its row.
use Rattle.std.specs.Prelude.{ℕ, List, [], ◌∷◌, codes, Bool, true, false, Option, Some, None}
use Rattle.op_registry.specs.declared.definition.TypeRule.{TypeRule}
use Rattle.op_registry.specs.declared.definition.TypeRule.TheVariants as type
use Rattle.op_registry.specs.declared.definition.Traits.{Traits}
use Rattle.op_registry.specs.declared.own.Own.{Own}
use Rattle.op_registry.specs.declared.own.Own.TheVariants as own
use Rattle.op_registry.specs.declared.own.EffectSet.{EffectSet}

-- the types of operands, of results or of arguments: fixed ones, then any number of others, if others are allowed
pub record TypesRow : Type 0 where
  pub first : List TypeRule
  pub more : Option TypeRule

-- the arguments of a region's block, and whether the region may have no block
pub record RegionRow : Type 0 where
  pub arguments : TypesRow
  pub may_be_empty : Bool

-- a property by the bytes of its key, and whether it is required
pub record PropertyRow : Type 0 where
  pub key : List ℕ
  pub required : Bool

-- the row of an operation; `parents` are the names of the operations in which a terminator may be
pub record Row : Type 0 where
  pub operands : TypesRow
  pub results : TypesRow
  pub regions : List RegionRow
  pub properties : List PropertyRow
  pub effects : Own
  pub traits : Traits
  pub parents : List (List ℕ)

-- types
abbrev none : TypesRow
none = record { first = []; more = None }

abbrev only : List TypeRule → TypesRow
only types = record { first = types; more = None }

abbrev any_number : TypeRule → TypesRow
any_number rest = record { first = []; more = Some rest }

abbrev and_more : List TypeRule → TypeRule → TypesRow
and_more types rest = record { first = types; more = Some rest }

-- regions
abbrev with_block : TypesRow → RegionRow
with_block arguments = record { arguments = arguments; may_be_empty = false }

abbrev may_be_empty : TypesRow → RegionRow
may_be_empty arguments = record { arguments = arguments; may_be_empty = true }

-- properties
abbrev required : List ℕ → PropertyRow
required key = record { key = key; required = true }

abbrev optional : List ℕ → PropertyRow
optional key = record { key = key; required = false }

-- effects
abbrev no_effect : EffectSet
no_effect = record { allocate = false; free = false; read = false; write = false }

-- traits
abbrev no_trait : Traits
no_trait = record { terminator = false; isolated = false; symbol_table = false; symbol = false; recursive = false }

-- a row with operands and results only, without effects
abbrev pure : TypesRow → TypesRow → Row
pure operands results = record { operands = operands; results = results; regions = []; properties = []; effects = own.Pure; traits = no_trait; parents = [] }

-- two operands and one result, all of the same number type
abbrev arithmetic : Row
arithmetic = pure (only (type.Number ∷ type.Number ∷ [])) (only (type.Number ∷ []))

-- the same, with overflow flags
abbrev flagged : Row
flagged = record arithmetic { properties = optional (codes "overflowFlags") ∷ [] }

-- an operation that terminates blocks
abbrev ending : TypesRow → List (List ℕ) → Row
ending operands parents = record (pure operands none) { traits = record no_trait { terminator = true }; parents = parents }

-- an operation with the effects of the operations directly inside it
abbrev around : TypesRow → TypesRow → List RegionRow → Row
around operands results regions = record (pure operands results) { regions = regions; effects = own.Recursive; traits = record no_trait { recursive = true } }

unfoldable pub rows : List (List ℕ × Row)
rows = (
  codes "builtin.module",
  record (pure none none) {
    regions = with_block none ∷ [];
    properties = optional (codes "sym_name") ∷ optional (codes "sym_visibility") ∷ [];
    effects = own.Unknown;
    traits = record no_trait { isolated = true; symbol_table = true; symbol = true };
  },
)
    ∷ (codes "builtin.unrealized_conversion_cast", pure (any_number type.Any) (and_more (type.Any ∷ []) type.Any))
    ∷ (
      codes "func.func",
      record (pure none none) {
        regions = may_be_empty (any_number type.Input) ∷ [];
        properties =
            required (codes "function_type")
            ∷ required (codes "sym_name")
            ∷ optional (codes "sym_visibility")
            ∷ optional (codes "arg_attrs")
            ∷ optional (codes "res_attrs")
            ∷ [];
        effects = own.Unknown;
        traits = record no_trait { isolated = true; symbol = true };
      },
    )
    ∷ (
      codes "func.call",
      record (pure (any_number type.Any) (any_number type.Any)) {
        properties = required (codes "callee") ∷ optional (codes "arg_attrs") ∷ optional (codes "res_attrs") ∷ [];
        effects = own.Unknown;
      },
    )
    ∷ (codes "func.return", ending (any_number type.Any) (codes "func.func" ∷ []))
    ∷ (codes "arith.constant", record (pure none (only (type.Number ∷ []))) { properties = required (codes "value") ∷ [] })
    ∷ (codes "arith.addi", flagged)
    ∷ (codes "arith.subi", flagged)
    ∷ (codes "arith.muli", flagged)
    ∷ (codes "arith.shli", flagged)
    ∷ (codes "arith.divsi", arithmetic)
    ∷ (codes "arith.divui", arithmetic)
    ∷ (codes "arith.remsi", arithmetic)
    ∷ (codes "arith.remui", arithmetic)
    ∷ (codes "arith.andi", arithmetic)
    ∷ (codes "arith.ori", arithmetic)
    ∷ (codes "arith.xori", arithmetic)
    ∷ (codes "arith.shrsi", arithmetic)
    ∷ (codes "arith.shrui", arithmetic)
    ∷ (codes "arith.maxsi", arithmetic)
    ∷ (codes "arith.maxui", arithmetic)
    ∷ (codes "arith.minsi", arithmetic)
    ∷ (codes "arith.minui", arithmetic)
    ∷ (codes "arith.cmpi", record (pure (only (type.Number ∷ type.Number ∷ [])) (only (type.Boolean ∷ []))) { properties = required (codes "predicate") ∷ [] })
    ∷ (codes "arith.select", pure (only (type.Boolean ∷ type.Any ∷ type.Same ∷ [])) (only (type.Same ∷ [])))
    ∷ (codes "arith.extsi", pure (only (type.Integer ∷ [])) (only (type.Integer ∷ [])))
    ∷ (codes "arith.extui", pure (only (type.Integer ∷ [])) (only (type.Integer ∷ [])))
    ∷ (codes "arith.trunci", record (pure (only (type.Integer ∷ [])) (only (type.Integer ∷ []))) { properties = optional (codes "overflowFlags") ∷ [] })
    ∷ (codes "arith.index_cast", pure (only (type.Number ∷ [])) (only (type.OtherNumber ∷ [])))
    ∷ (codes "arith.index_castui", pure (only (type.Number ∷ [])) (only (type.OtherNumber ∷ [])))
    ∷ (codes "scf.for", around (and_more (type.Number ∷ type.Number ∷ type.Number ∷ []) type.Any) (any_number type.Initial) (with_block (and_more (type.Number ∷ []) type.Initial) ∷ []))
    ∷ (codes "scf.if", around (only (type.Boolean ∷ [])) (any_number type.Any) (with_block none ∷ may_be_empty none ∷ []))
    ∷ (codes "scf.while", around (any_number type.Any) (any_number type.Any) (with_block (any_number type.Initial) ∷ with_block (any_number type.Result) ∷ []))
    ∷ (codes "scf.yield", ending (any_number type.Any) (codes "scf.for" ∷ codes "scf.if" ∷ codes "scf.while" ∷ []))
    ∷ (codes "scf.condition", ending (and_more (type.Boolean ∷ []) type.Any) (codes "scf.while" ∷ []))
    ∷ (
      codes "memref.alloc",
      record (pure (any_number type.Index) (only (type.Memref ∷ []))) {
        properties = optional (codes "operandSegmentSizes") ∷ optional (codes "alignment") ∷ [];
        effects = own.Only (record no_effect { allocate = true });
      },
    )
    ∷ (codes "memref.dealloc", record (pure (only (type.Memref ∷ [])) none) { effects = own.Only (record no_effect { free = true }) })
    ∷ (
      codes "memref.load",
      record (pure (and_more (type.Memref ∷ []) type.Index) (only (type.Element ∷ []))) {
        properties = optional (codes "nontemporal") ∷ optional (codes "alignment") ∷ [];
        effects = own.Only (record no_effect { read = true });
      },
    )
    ∷ (
      codes "memref.store",
      record (pure (and_more (type.Element ∷ type.Memref ∷ []) type.Index) none) {
        properties = optional (codes "nontemporal") ∷ optional (codes "alignment") ∷ [];
        effects = own.Only (record no_effect { write = true });
      },
    )
    ∷ []
