-- Edits of lowerings, with interned numbers.
use Rattle.std.specs.Prelude.{ℕ, ◌+◌, List, [], ◌∷◌, ◌++◌, map, length, reverse, Bool, true, false, if◌then◌else◌}
use Rattle.ir_event.specs.types.Things.{ContextModel}
use Rattle.ir_event.specs.types.Terms.{type_term}
use Rattle.ir_event.specs.types.declared.word.Word.TheVariants.{BuiltinUnrealizedConversionCast}
use Rattle.ir_event.specs.types.WordNames.{word_number}
use Rattle.ir_event.specs.trees.declared.value.Value.{Value}
use Rattle.ir_event.specs.trees.declared.value.Value.TheVariants.{Result}
use Rattle.ir_event.specs.trees.declared.place.Place.{Place}
use Rattle.ir_event.specs.trees.Tree.{Op, op, Regions, no_regions, region, Region, empty, block, no_ops, head, regions}
use Rattle.patterns_soundness.specs.base.declared.edit.Edit.{Edit}
use Rattle.patterns_soundness.specs.base.declared.edit.Edit.TheVariants.{Make, SetOperand, Replace, Move, Erase}
use Rattle.patterns_soundness.specs.base.Looks.{is_index}
use Rattle.patterns_soundness.specs.base.Makes.{arguments_from, results_from}
use Rattle.patterns_soundness.specs.base.Lowering.{before_in, next_to, crossed, end_of, marked}
use Rattle.patterns_regions.specs.Opened.{argument_replacement}
use Rattle.patterns_lowering.specs.declared.plan.MovedOps.{MovedOps}
use Rattle.patterns_lowering.specs.declared.plan.IndexedLoop.{IndexedLoop}
use Rattle.patterns_lowering.specs.declared.plan.IndexedChoice.{IndexedChoice}
use Rattle.patterns_lowering.specs.declared.loops.LoopIds.{LoopIds}

-- a cast of some values to a type
abbrev pub cast_op : ℕ → List Value → Op
cast_op ty vs =
    op (record {
      id = 0;
      name = word_number BuiltinUnrealizedConversionCast;
      operands = vs;
      results = ty ∷ [];
      properties = [];
      attributes = [];
    }) no_regions

-- casts of the marked values to a type, at a place
abbrev pub bridge_edits : ℕ → Place → List Bool → List Value → List Edit
bridge_edits ty place [] vs = []
bridge_edits ty place (m ∷ ms) [] = []
bridge_edits ty place (true ∷ ms) (v ∷ vs) = Make place (cast_op ty (v ∷ [])) ∷ bridge_edits ty place ms vs
bridge_edits ty place (false ∷ ms) (v ∷ vs) = bridge_edits ty place ms vs

-- values replaced by others, one by one
abbrev pub replace_edits : List Value → List Value → List Edit
replace_edits [] ws = []
replace_edits (v ∷ vs) [] = []
replace_edits (v ∷ vs) (w ∷ ws) = Replace v w ∷ replace_edits vs ws

-- a type, with another type for index
abbrev pub type_lowered : ContextModel → ℕ → ℕ → ℕ
type_lowered c wide ty = if is_index (type_term c ty) then wide else ty

-- the same for the arguments of a region with an empty block
abbrev pub region_lowered : ContextModel → ℕ → Region → Region
region_lowered c wide empty = empty
region_lowered c wide (block args os) = block (map (type_lowered c wide) args) no_ops

abbrev pub regions_lowered : ContextModel → ℕ → Regions → Regions
regions_lowered c wide no_regions = no_regions
regions_lowered c wide (region g rs) = region (region_lowered c wide g) (regions_lowered c wide rs)

-- an operation with other operands and properties, and another type for index
abbrev pub op_lowered : ContextModel → ℕ → List (ℕ × ℕ) → List Value → Op → Op
op_lowered c wide properties operands o =
    op (record (head o) {
      operands = operands;
      results = map (type_lowered c wide) (head o).results;
      properties = properties;
    }) (regions_lowered c wide (regions o))

-- the results of operation y, through casts to index whose ids begin with k, replace the results of o, and o is erased
abbrev pub give_edits : ℕ → Place → List Bool → Op → ℕ → ℕ → List Edit
give_edits index point results o y k =
    let given = results_from y 0 (head o).results in
    bridge_edits index point results given
    ++ replace_edits (results_from (head o).id 0 (head o).results) (crossed k results given) ++ Erase (head o).id
    ∷ []

-- casts of operands, the operation on i64, casts of its results, which replace the results of o
abbrev pub operation_edits : ContextModel → ℕ → ℕ → List (ℕ × ℕ) → ℕ → Place → List Bool → List Bool → Op → List Edit
operation_edits c wide index properties n point operands results o =
    bridge_edits wide point operands (head o).operands
    ++ Make point (op_lowered c wide properties (crossed n operands (head o).operands) o) ∷ []
    ++ give_edits index point results o (n + marked operands) (n + marked operands + 1)

-- consecutive ids from a given one on, one for each item
abbrev pub numbers_from : {X : Type 0} → ℕ → List X → List ℕ
numbers_from n [] = []
numbers_from n (i ∷ is) = n ∷ numbers_from (n + 1) is

-- the first results of operations
abbrev pub first_results : List ℕ → List Value
first_results xs = map (λ x. Result x 0) xs

-- casts without operands to types, at a place
abbrev pub holder_edits : Place → List ℕ → List Edit
holder_edits place [] = []
holder_edits place (ty ∷ tys) = Make place (cast_op ty []) ∷ holder_edits place tys

-- operations are moved to a place, and erased
abbrev pub move_edits : Place → List ℕ → List Edit
move_edits place [] = []
move_edits place (x ∷ xs) = Move x place ∷ move_edits place xs

abbrev pub erase_edits : List ℕ → List Edit
erase_edits [] = []
erase_edits (x ∷ xs) = Erase x ∷ erase_edits xs

-- operations move into block r of operation y, each before the one moved last, the first of them before z
abbrev pub gather_edits : ℕ → ℕ → ℕ → List ℕ → List Edit
gather_edits y r z [] = []
gather_edits y r z (x ∷ xs) = Move x (before_in y r z) ∷ gather_edits y r x xs

-- the operations of a block move before operation y, and from there into its block r
abbrev pub over_edits : Place → ℕ → ℕ → MovedOps → List Edit
over_edits point y r b =
    move_edits (next_to point y) b.before.items ++ Move b.last (next_to point y) ∷ Move b.last (end_of y r)
    ∷ gather_edits y r b.last (reverse b.before.items)

-- the operands of x from number k on: each marked one is set to its cast, whose ids begin with n
abbrev pub crossing_edits : ℕ → ℕ → ℕ → List Bool → List Edit
crossing_edits x k n [] = []
crossing_edits x k n (true ∷ ms) = SetOperand x k (Result n 0) ∷ crossing_edits x (k + 1) (n + 1) ms
crossing_edits x k n (false ∷ ms) = crossing_edits x (k + 1) n ms

-- the operands of operation `last` go through casts at a place, whose ids begin with n
abbrev pub handed_edits : ℕ → Place → ℕ → ℕ → List Bool → List Value → List Edit
handed_edits wide place n last marks handed = bridge_edits wide place marks handed ++ crossing_edits last 0 n marks

-- the ids of the operations that replace a loop, from n on
abbrev pub loop_ids : ℕ → IndexedLoop → LoopIds
loop_ids n l = record {
  holders = n + marked l.of.index_operands.items;
  op = n + marked l.of.index_operands.items + length l.arguments.items;
  arguments = n + marked l.of.index_operands.items + length l.arguments.items + 1;
  handed = n + marked l.of.index_operands.items + length l.arguments.items + 1 + marked l.index_arguments.items;
  results =
      n + marked l.of.index_operands.items + length l.arguments.items + 1 + marked l.index_arguments.items
      + marked l.of.index_results.items;
}

-- the edits before the new loop: casts of the operands, and placeholders that replace the old arguments
abbrev pub held_edits : ℕ → Place → List Value → IndexedLoop → List Edit
held_edits wide point holders l =
    bridge_edits wide point l.of.index_operands.items (head l.of.op).operands
    ++ holder_edits point l.arguments.items
    ++ replace_edits (arguments_from (head l.of.op).id 0 l.arguments.items) holders

-- with the new loop
abbrev pub insertion_edits : ContextModel → ℕ → List (ℕ × ℕ) → ℕ → Place → List Value → IndexedLoop → List Edit
insertion_edits c wide properties n point holders l =
    held_edits wide point holders l
    ++ Make point (op_lowered c wide properties (crossed n l.of.index_operands.items (head l.of.op).operands) l.of.op)
    ∷ []

-- the edits in its block: casts of the new arguments, the moved operations, and the replacement and erasure of the
-- placeholders
abbrev pub inside_edits : ℕ → Place → ℕ → List ℕ → List Value → List Value → List Value → IndexedLoop → List Edit
inside_edits index point y ids holders arguments news l =
    bridge_edits index (end_of y 0) l.index_arguments.items arguments
    ++ over_edits point y 0 l.body
    ++ replace_edits holders news
    ++ erase_edits ids

-- casts of the terminator's operands, and casts of the results
abbrev pub after_edits : ℕ → ℕ → Place → LoopIds → List Value → IndexedLoop → List Edit
after_edits wide index point ids news l =
    handed_edits wide (before_in ids.op 0 l.body.last) ids.handed l.body.last l.of.index_results.items
    (map (argument_replacement (head l.of.op).id news) l.body.handed.items)
    ++ give_edits index point l.of.index_results.items l.of.op ids.op ids.results

-- the edits that lower a loop
abbrev pub loop_edits : ContextModel → ℕ → ℕ → List (ℕ × ℕ) → ℕ → Place → IndexedLoop → List Edit
loop_edits c wide index properties n point l =
    let ids = loop_ids n l in
    let holder_ids = numbers_from ids.holders l.arguments.items in
    let holders = first_results holder_ids in
    let arguments = arguments_from ids.op 0 l.arguments.items in
    let news = crossed ids.arguments l.index_arguments.items arguments in
    insertion_edits c wide properties n point holders l
    ++ inside_edits index point ids.op holder_ids holders arguments news l
    ++ after_edits wide index point ids news l

-- the operations of a block move into block r of operation y, and the terminator's operands go through casts whose ids
-- begin with n
abbrev pub side_edits : ℕ → Place → ℕ → ℕ → ℕ → List Bool → MovedOps → List Edit
side_edits wide point y r n marks b =
    over_edits point y r b ++ handed_edits wide (before_in y r b.last) n b.last marks b.handed.items

-- the edits that lower a choice
abbrev pub choice_edits : ContextModel → ℕ → ℕ → List (ℕ × ℕ) → ℕ → Place → IndexedChoice → List Edit
choice_edits c wide index properties n point d =
    let o = d.of.op in
    let results = d.of.index_results.items in
    let y = n + marked d.of.index_operands.items in
    Make point (op_lowered c wide properties (crossed n d.of.index_operands.items (head o).operands) o) ∷ []
    ++ side_edits wide point y 0 (y + 1) results d.first
    ++ side_edits wide point y 1 (y + 1 + marked results) results d.second
    ++ give_edits index point results o y (y + 1 + marked results + marked results)
