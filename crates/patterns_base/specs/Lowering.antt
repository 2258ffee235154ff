-- Lowering: operations on index become operations on i64, with unrealized casts around them (like the materializations
-- of a type converter). The names in brackets are MLIR's.
use Rattle.std.specs.Prelude.{ℕ, ◌+◌, List, [], ◌∷◌, ◌++◌, codes, map, length, reverse, Bool, true, false, ◌&&◌, ◌||◌}
use Rattle.std.specs.Prelude.{Option, Some, None}
use Rattle.std.specs.List.{list_any, range_with_len}
use Rattle.ir_types.specs.Terms.{TypeTerm, Index, AttrTerm, IntegerOf}
use Rattle.ir_tree.specs.declared.value.Value.{Value}
use Rattle.ir_tree.specs.declared.value.Value.TheVariants.{Result}
use Rattle.ir_tree.specs.declared.place.Place.{Place}
use Rattle.ir_tree.specs.Tree.{op, RegionsOf, no_regions, region, RegionOf, empty, block, no_ops, head, regions}
use Rattle.ir_tree.specs.Meaning.{Operation}
use Rattle.ir_tree_laws.specs.Values.{arguments_at}
use Rattle.rewriter_machine.specs.Contents.{Edit}
use Rattle.rewriter_machine.specs.Edits.{Make, Erase, Move, SetOperand}
use Rattle.patterns_laws.specs.Made.{i64, bridge, placeholder}
use Rattle.patterns_laws.specs.Keeps.{given, lowered_type}
use Rattle.patterns_laws.specs.Words.{named, among, index_users}
use Rattle.patterns_base.specs.Looks.{Header, Ended, when, is_index, is_index_value, body}
use Rattle.patterns_base.specs.Makes.{results_from, arguments_from, replacing, replaced, moving, erasing}

-- casts of the marked values to a type, at a place
abbrev pub bridges : TypeTerm → Place → List Bool → List Value → List Edit
bridges ty place (true ∷ ms) (v ∷ vs) = Make place (bridge ty v) ∷ bridges ty place ms vs
bridges ty place (false ∷ ms) (v ∷ vs) = bridges ty place ms vs
bridges ty place _ _ = []

-- the values, with the marked ones replaced by their casts, whose ids begin with n
abbrev pub crossed : ℕ → List Bool → List Value → List Value
crossed n (true ∷ ms) (v ∷ vs) = Result n 0 ∷ crossed (n + 1) ms vs
crossed n (false ∷ ms) (v ∷ vs) = v ∷ crossed n ms vs
crossed n _ _ = []

-- the number of marked values
abbrev pub marked : List Bool → ℕ
marked [] = 0
marked (true ∷ ms) = marked ms + 1
marked (false ∷ ms) = marked ms

-- the operands from number k on: each marked one is set to its cast, whose ids begin with n
abbrev pub crossing : ℕ → ℕ → ℕ → List Bool → List Edit
crossing x k n [] = []
crossing x k n (true ∷ ms) = SetOperand x k (Result n 0) ∷ crossing x (k + 1) (n + 1) ms
crossing x k n (false ∷ ms) = crossing x (k + 1) n ms

-- which types are index
abbrev pub indices : List TypeTerm → List Bool
indices tys = map is_index tys

-- whether one is marked
abbrev pub any : List Bool → Bool
any ms = list_any (λ b. b) ms

-- an attribute with i64 for index: a constant of type index becomes one of type i64, and others stay
abbrev pub lowered_attr : AttrTerm → AttrTerm
lowered_attr (IntegerOf ty bits) = IntegerOf (lowered_type ty) bits
lowered_attr a = a

-- a header with i64 for index and the given operands; its dictionaries are kept
abbrev pub lowered_header : Header → List Value → Header
lowered_header h operands = record {
  id = h.id;
  name = h.name;
  operands = operands;
  results = map lowered_type h.results;
  properties = map (λ (e : List ℕ × AttrTerm). (e.0, lowered_attr e.1)) h.properties;
  attributes = h.attributes;
}

-- a region with i64 for index and an empty block
abbrev pub lowered_region : RegionOf (List ℕ) TypeTerm AttrTerm → RegionOf (List ℕ) TypeTerm AttrTerm
lowered_region empty = empty
lowered_region (block args os) = block (map lowered_type args) no_ops

-- the same for several regions
abbrev pub lowered_regions : RegionsOf (List ℕ) TypeTerm AttrTerm → RegionsOf (List ℕ) TypeTerm AttrTerm
lowered_regions no_regions = no_regions
lowered_regions (region g rs) = region (lowered_region g) (lowered_regions rs)

-- an operation with i64 for index, the given operands and empty blocks
abbrev pub lowered_op : Operation → List Value → Operation
lowered_op o operands = op (lowered_header (head o) operands) (lowered_regions (regions o))

-- the place at the end of the block of a region
abbrev pub end_of : ℕ → ℕ → Place
end_of x r = record { parent = x; region = r; before = None }

-- the place before operation y in that block
abbrev pub before_in : ℕ → ℕ → ℕ → Place
before_in x r y = record { parent = x; region = r; before = Some y }

-- the place before operation y, which has this place
abbrev pub next_to : Place → ℕ → Place
next_to point y = record { parent = point.parent; region = point.region; before = Some y }

-- operations move into block r of operation y, each before the one moved last, the first of them before z
abbrev pub gathering : ℕ → ℕ → ℕ → List ℕ → List Edit
gathering y r z [] = []
gathering y r z (x ∷ xs) = Move x (before_in y r z) ∷ gathering y r x xs

-- all operations of a block, including the last, move into block r of operation y. First they move before y, in order.
-- Then they move into the block, the last one first. At each step the operands of every operation dominate it, which a
-- direct move from block to block wouldn't ensure
abbrev pub brought : Place → ℕ → ℕ → List ℕ → ℕ → List Edit
brought point y r ops last = moving (next_to point y) ops
    ++ Move last (next_to point y) ∷ Move last (end_of y r) ∷ gathering y r last (reverse ops)

module _ (t : Operation) (n : ℕ) (point : Place) (o : Operation) where
  abbrev h : Header
  h = head o

  abbrev x : ℕ
  x = h.id

  -- which operands have type index
  abbrev pub index_operands : List Bool
  index_operands = map (is_index_value t) h.operands

  -- which results have type index
  abbrev pub index_results : List Bool
  index_results = indices h.results

  -- the results of operation y, through casts whose ids begin with c, replace the results of x, and x is erased
  abbrev pub give_lowered : ℕ → ℕ → List Edit
  give_lowered y c =
      let results = results_from y 0 h.results in
      bridges Index point index_results results
      ++ replacing (results_from x 0 h.results) (crossed c index_results results) ++ Erase x ∷ []

  -- the id of the i64 operation: the casts of its operands have the ids before it
  abbrev pub lowered_id : ℕ
  lowered_id = n + marked index_operands

  -- that operation, inserted before x
  abbrev pub make_lowered : List Edit
  make_lowered = Make point (lowered_op o (crossed n index_operands h.operands)) ∷ []

  -- `lower-index`: an `arith` operation on index becomes one on i64
  abbrev pub lower_index : Option (List Edit)
  lower_index = when (among index_users h.name && (any index_operands || any index_results))
      (Some (bridges i64 point index_operands h.operands ++ make_lowered ++ give_lowered lowered_id (lowered_id + 1)))

  -- casts in block r of operation y, whose ids begin with c, for the operands of the last operation of block r of x;
  -- values of x were replaced there
  abbrev pub take_over : ℕ → ℕ → ℕ → Ended → List Value → List Value → List Edit
  take_over y r c e olds news =
      bridges i64 (before_in y r e.last.id) index_results (map (replaced olds news) e.last.operands)
      ++ crossing e.last.id 0 c index_results

  -- all operations of block r, including the last, move there
  abbrev pub move_over : ℕ → ℕ → Ended → List Edit
  move_over y r e = brought point y r e.before e.last.id

  -- a loop: casts of its operands, placeholders for its block arguments, the new loop, casts of the new arguments,
  -- casts of the terminator's operands, casts of the results
  abbrev pub lowered_loop : List TypeTerm → Ended → List Edit
  lowered_loop args e =
      let holders_id = lowered_id in
      let y = holders_id + length args in
      let arguments_id = y + 1 in
      let yields_id = arguments_id + marked (indices args) in
      let results_id = yields_id + marked index_results in
      let holder_ids = range_with_len holders_id (length args) in
      let holders = map (λ i. Result i 0) holder_ids in
      let olds = arguments_from x 0 args in
      let arguments = arguments_from y 0 args in
      let news = crossed arguments_id (indices args) arguments in
      bridges i64 point index_operands h.operands
      ++ map (λ ty. Make point (placeholder ty)) args
      ++ replacing olds holders
      ++ make_lowered
      ++ bridges Index (end_of y 0) (indices args) arguments
      ++ move_over y 0 e
      ++ replacing holders news
      ++ erasing holder_ids
      ++ take_over y 0 yields_id e olds news
      ++ give_lowered y results_id

  -- `lower-loop`: a loop over index becomes one over i64 (`ConvertForOpTypes`)
  abbrev pub lower_loop : Option (List Edit)
  lower_loop = when (named (codes "scf.for") h.name && any index_operands)
      (given (arguments_at 0 o) (λ args. given (body t o 0) (λ e. Some (lowered_loop args e))))

  -- an `scf.if`: the new one, casts of the terminators' operands, casts of the results
  abbrev pub lowered_if : Ended → Ended → List Edit
  lowered_if e f =
      let first_id = lowered_id + 1 in
      let second_id = first_id + marked index_results in
      let results_id = second_id + marked index_results in
      make_lowered
      ++ move_over lowered_id 0 e ++ take_over lowered_id 0 first_id e [] []
      ++ move_over lowered_id 1 f ++ take_over lowered_id 1 second_id f [] []
      ++ give_lowered lowered_id results_id

  -- `lower-choice`: an `scf.if` with index results becomes one with i64 results (`ConvertIfOpTypes`)
  abbrev pub lower_choice : Option (List Edit)
  lower_choice = when (named (codes "scf.if") h.name && any index_results)
      (given (body t o 0) (λ e. given (body t o 1) (λ f. Some (lowered_if e f))))
