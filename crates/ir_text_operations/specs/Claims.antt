-- The results of parsing a tree, in terms of the grammar.
use Rattle.std.specs.Prelude.{◌≡◌, ◌≤◌, ◌⊎◌, ℕ, Bool, List, [], IsTrue}
use Rattle.ir_text_tokens.specs.declared.token.Mark.TheVariants.{End}
use Rattle.ir_types.specs.Things.{ContextModel}
use Rattle.ir_tree.specs.Tree.{Op, op, region, block, no_regions, ops_of}
use Rattle.ir_tree.specs.Ids.{IsNumberedFrom}
use Rattle.ir_tree.specs.Limits.{depth, counts_fit, most_around, most_ops}
use Rattle.ir_tree.specs.Meaning.{Operation, meaning, is_known, isolated_in, IsSoundIn}
use Rattle.ir_tree.specs.WellFormed.{IsValidTree}
use Rattle.ir_text_operations.specs.declared.module.Root.{Root}
use Rattle.ir_text_operations.specs.declared.module.Root.TheVariants as root
use Rattle.ir_text_operations.specs.ParseState.{ParseState, initial_state}
use Rattle.ir_text_operations.specs.Free.{no_names}
use Rattle.ir_text_operations.specs.OpGrammar.{IsOp, IsOps}
use Rattle.ir_text_operations.specs.Spelling.{IsExplicit, IsImplicit, module_of}

-- the tree of ids denotes the only tree for which F holds
pub record IsOnly (F : Operation → Type 0) (c : ContextModel) (t : Op) : Type 0 where
  pub known : IsTrue (is_known c t)
  pub holds : F (meaning c t)
  pub only : (y : Operation) → F y → y ≡ meaning c t

-- F holds for no tree
abbrev pub IsNone : (Operation → Type 0) → Type 0
IsNone F = (y : Operation) → F y → ⊥

-- the result is the explicit root, or there is none
abbrev pub IsRootOrNone : Bool → List ℕ → ContextModel → Root → Type 0
IsRootOrNone opaque bytes c (root.Explicit t) = IsOnly (IsExplicit opaque bytes) c t
IsRootOrNone opaque bytes c (root.Other fault) = IsNone (IsExplicit opaque bytes)

-- the operations of an implicit root
unfoldable pub IsBody : Bool → List ℕ → Operation → Type 0
IsBody opaque bytes t = (os : List Operation) × (end : ParseState) × IsOps End (IsOp opaque no_names most_ops most_around) most_ops [] os (initial_state 1 bytes) end × (t ≡ module_of os)

-- an explicit or an implicit root
abbrev pub IsSource : Bool → List ℕ → Operation → Type 0
IsSource opaque bytes t = IsExplicit opaque bytes t ⊎ IsImplicit opaque bytes t

-- a tree of ids that may be a module's
abbrev pub IsModuleTree : ContextModel → Op → Type 0
IsModuleTree c t = IsValidTree (isolated_in c) t × IsNumberedFrom 0 t × IsSoundIn c t

-- a tree of ids that may be that of a single operation, with ids from `next` on
abbrev pub IsLoneTree : ℕ → ContextModel → Op → Type 0
IsLoneTree next c t = (depth t ≤ most_around) × IsTrue (counts_fit t) × IsNumberedFrom next t × IsSoundIn c t

-- a module of these operations, where n is the id of its name
abbrev pub module_with : ℕ → List Op → Op
module_with n xs = op (record { id = 0; name = n; operands = []; results = []; properties = []; attributes = [] }) (region (block [] (ops_of xs)) no_regions)
