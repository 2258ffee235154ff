-- The edits of the lowering rules, from what is read of an operation.
use Rattle.std.specs.Prelude.{ℕ, ◌+◌, List, [], ◌∷◌, ◌++◌, map, length, Bool}
use Rattle.std.specs.List.{range_with_len}
use Rattle.ir_event.specs.types.Things.{ContextModel}
use Rattle.ir_event.specs.types.Terms.{TypeTerm, Index, type_term}
use Rattle.ir_event.specs.trees.declared.place.Place.{Place}
use Rattle.ir_event.specs.trees.declared.value.Value.{Value}
use Rattle.ir_event.specs.trees.declared.value.Value.TheVariants.{Result}
use Rattle.ir_event.specs.trees.Tree.{head}
use Rattle.ir_event.specs.trees.Meaning.{Operation, meaning}
use Rattle.patterns_soundness.specs.base.Contents.{Edit}
use Rattle.patterns_soundness.specs.base.Edits.{Make, Erase}
use Rattle.patterns_soundness.specs.base.Made.{i64, placeholder}
use Rattle.patterns_soundness.specs.base.Makes.{results_from, arguments_from, replacing, replaced, erasing}
use Rattle.patterns_soundness.specs.base.Lowering.{bridges, brought, crossed, crossing}
use Rattle.patterns_soundness.specs.base.Lowering.{marked, lowered_op, end_of, before_in}
use Rattle.patterns_lowering.specs.declared.plan.MovedOps.{MovedOps}
use Rattle.patterns_lowering.specs.declared.plan.Lowering.{Lowering}
use Rattle.patterns_lowering.specs.declared.plan.Lowering.TheVariants as plan

-- `n` is the next free id, and `point` is the place before operation `o`. `operands` and `results` say which of its
-- operands and results have type index
module _ (n : ℕ) (point : Place) (operands results : List Bool) (o : Operation) where
  -- the results of operation y, through casts whose ids begin with c, replace the results of o, and o is erased
  abbrev pub results_given : ℕ → ℕ → List Edit
  results_given y c =
      let given = results_from y 0 (head o).results in
      bridges Index point results given ++ replacing (results_from (head o).id 0 (head o).results)
      (crossed c results given) ++ Erase (head o).id ∷ []

  -- the operation on i64, inserted before o
  abbrev pub operation_made : List Edit
  operation_made = Make point (lowered_op o (crossed n operands (head o).operands)) ∷ []

  -- its id: the casts of its operands have the ids before it
  abbrev pub operation_id : ℕ
  operation_id = n + marked operands

  -- casts of operands, the operation on i64, casts of its results, which replace the results of o
  abbrev pub operation_lowered : List Edit
  operation_lowered =
      bridges i64 point operands (head o).operands ++ operation_made ++ results_given operation_id (operation_id + 1)

  -- the operations of a block move into block r of operation y
  abbrev pub moved_over : ℕ → ℕ → MovedOps → List Edit
  moved_over y r b = brought point y r b.before.items b.last

  -- casts in block r of y, whose ids begin with c, of some operands of the last operation
  abbrev pub handed_on : ℕ → ℕ → ℕ → ℕ → List Value → List Edit
  handed_on y r c last handed = bridges i64 (before_in y r last) results handed ++ crossing last 0 c results

  -- a loop with these block arguments, and marks for those of type index: casts of its operands, placeholders for its
  -- arguments, the new loop, casts of the new arguments, casts of the terminator's operands, casts of the results
  abbrev pub loop_lowered : List TypeTerm → List Bool → MovedOps → List Edit
  loop_lowered args marks b =
      let y = operation_id + length args in
      let arguments_id = y + 1 in
      let yields_id = arguments_id + marked marks in
      let results_id = yields_id + marked results in
      let holder_ids = range_with_len operation_id (length args) in
      let holders = map (λ i. Result i 0) holder_ids in
      let olds = arguments_from (head o).id 0 args in
      let arguments = arguments_from y 0 args in
      let news = crossed arguments_id marks arguments in
      bridges i64 point operands (head o).operands
      ++ map (λ ty. Make point (placeholder ty)) args
      ++ replacing olds holders
      ++ operation_made
      ++ bridges Index (end_of y 0) marks arguments
      ++ moved_over y 0 b
      ++ replacing holders news
      ++ erasing holder_ids
      ++ handed_on y 0 yields_id b.last (map (replaced olds news) b.handed.items)
      ++ results_given y results_id

  -- a choice between two blocks: the new one, casts of the terminators' operands, casts of the results
  abbrev pub choice_lowered : MovedOps → MovedOps → List Edit
  choice_lowered b d =
      let y = operation_id in
      let first_id = y + 1 in
      let second_id = first_id + marked results in
      let results_id = second_id + marked results in
      operation_made
      ++ moved_over y 0 b ++ handed_on y 0 first_id b.last b.handed.items
      ++ moved_over y 1 d ++ handed_on y 1 second_id d.last d.handed.items
      ++ results_given y results_id

-- the edits of a plan, where n is the next free id and the place is before the operation
abbrev pub lowering_meaning : ContextModel → ℕ → Place → Lowering → List Edit
lowering_meaning c n point (plan.Operation i) =
    operation_lowered n point i.index_operands.items i.index_results.items (meaning c i.op)
lowering_meaning c n point (plan.Loop l) =
    loop_lowered n point l.of.index_operands.items l.of.index_results.items (meaning c l.of.op)
    (map (type_term c) l.arguments.items) l.index_arguments.items l.body
lowering_meaning c n point (plan.Choice d) =
    choice_lowered n point d.of.index_operands.items d.of.index_results.items (meaning c d.of.op) d.first d.second
