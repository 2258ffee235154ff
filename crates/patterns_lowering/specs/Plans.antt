-- Properties of the operations that are read for lowerings.
use Rattle.std.specs.Prelude.{◌≡◌, ℕ, ◌+◌, ◌*◌, ◌≤◌, map, length, true}
use Rattle.std.specs.List.{list_all}
use Rattle.ir_event.specs.types.Things.{ContextModel}
use Rattle.ir_event.specs.types.Terms.{type_term}
use Rattle.ir_event.specs.trees.Tree.{head}
use Rattle.ir_event.specs.trees.Limits.{op_fits}
use Rattle.ir_event.specs.trees.Meaning.{IsSoundIn, is_type}
use Rattle.patterns_soundness.specs.base.Lowering.{indices, marked}
use Rattle.patterns_lowering.specs.declared.plan.Indexed.{Indexed}
use Rattle.patterns_lowering.specs.declared.plan.MovedOps.{MovedOps}
use Rattle.patterns_lowering.specs.declared.plan.IndexedLoop.{IndexedLoop}
use Rattle.patterns_lowering.specs.declared.plan.IndexedChoice.{IndexedChoice}
use Rattle.patterns_lowering.specs.declared.plan.Lowering.{Lowering}
use Rattle.patterns_lowering.specs.declared.plan.Lowering.TheVariants as plan

-- an operation has interned numbers and is within the limits; each of its operands and results has a mark, and the
-- marks of the results follow their types
pub record IsIndexed (c : ContextModel) (i : Indexed) : Type 0 where
  pub sound : IsSoundIn c i.op
  pub fits : op_fits i.op ≡ true
  pub operands : length i.index_operands.items ≡ length (head i.op).operands
  pub results : i.index_results.items ≡ indices (map (type_term c) (head i.op).results)

-- the last operation of a block has as many operands as the operation has results
abbrev pub HandsOnAll : Indexed → MovedOps → Type 0
HandsOnAll i b = length b.handed.items ≡ length (head i.op).results

-- the arguments of a loop's block are interned types, and their marks follow the types
pub record IsIndexedLoop (c : ContextModel) (l : IndexedLoop) : Type 0 where
  pub of : IsIndexed c l.of
  pub known : list_all (is_type c) l.arguments.items ≡ true
  pub few : length l.arguments.items ≤ 256
  pub arguments : l.index_arguments.items ≡ indices (map (type_term c) l.arguments.items)
  pub handed : HandsOnAll l.of l.body

-- a choice has no operand of type index
pub record IsIndexedChoice (c : ContextModel) (d : IndexedChoice) : Type 0 where
  pub of : IsIndexed c d.of
  pub operands : marked d.of.index_operands.items ≡ 0
  pub first : HandsOnAll d.of d.first
  pub second : HandsOnAll d.of d.second

-- the numbers of a plan are interned
abbrev pub LoweringIsOf : ContextModel → Lowering → Type 0
LoweringIsOf c (plan.Operation i) = IsIndexed c i
LoweringIsOf c (plan.Loop l) = IsIndexedLoop c l
LoweringIsOf c (plan.Choice d) = IsIndexedChoice c d

-- the number of operations that a plan makes: the i64 operation and the casts around it; for a loop also the
-- placeholders of its arguments, the casts of those, and of the terminator's operands; for a choice the casts of the
-- terminators' operands
abbrev pub lowering_makes : Lowering → ℕ
lowering_makes (plan.Operation i) = marked i.index_operands.items + 1 + marked i.index_results.items
lowering_makes (plan.Loop l) =
    marked l.of.index_operands.items + 1 + marked l.of.index_results.items + length l.arguments.items
    + marked l.index_arguments.items + marked l.of.index_results.items
lowering_makes (plan.Choice d) = 1 + 3 * marked d.of.index_results.items

-- its numbers are interned in some context
abbrev pub IsOfSome : Lowering → Type 0
IsOfSome p = (c : ContextModel) × LoweringIsOf c p
