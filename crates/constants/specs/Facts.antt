-- The known values of operations' results, and when they agree with the operations.
use Rattle.std.specs.Prelude.{◌≡◌, ℕ, ◌==◌, if◌then◌else◌, List, map, Option, Some, None}
use Rattle.std.specs.Option.{option_map}
use Rattle.ir_event.specs.types.Terms.{TypeTerm, AttrTerm}
use Rattle.ir_event.specs.trees.declared.value.Value.{Value}
use Rattle.ir_event.specs.trees.declared.value.Value.TheVariants.{Result, Arg}
use Rattle.ir_event.specs.trees.Tree.{HeadOf, head}
use Rattle.ir_event.specs.trees.Ids.{find}
use Rattle.ir_event.specs.trees.Meaning.{Operation}
use Rattle.dialects_int.specs.Folds.{Known, fold_of}

-- the head of an operation, in terms of contents
abbrev pub Header : Type 0
Header = HeadOf (List ℕ) TypeTerm AttrTerm

-- the known values of results, by the ids of their operations
abbrev pub Facts : Type 0
Facts = ℕ → Option Known

-- the known value of a value; only an operation with one result folds, so other results and arguments are unknown
abbrev pub known : Facts → Value → Option Known
known t (Result x k) = if k == 0 then t x else None
known t (Arg x r k) = None

abbrev pub knowns : Facts → List Value → List (Option Known)
knowns t vs = map (known t) vs

-- the fold of an operation, given the known values of its operands
abbrev pub folded : Header → Facts → Option Known
folded h t = fold_of h.name h.properties (knowns t h.operands) h.results

abbrev pub folded_if : Option Header → Facts → Option Known
folded_if None t = None
folded_if (Some h) t = folded h t

-- the operations of a tree, by their ids
abbrev pub look : Operation → ℕ → Option Header
look t x = option_map head (find x t)

-- the fold of operation x, if there is one
abbrev pub value : (ℕ → Option Header) → Facts → ℕ → Option Known
value ops t x = folded_if (ops x) t

-- the facts agree with each operation: the known value of its result is its fold, and there are no other known values
abbrev pub AreLocal : (ℕ → Option Header) → Facts → Type 0
AreLocal ops t = (x : ℕ) → t x ≡ value ops t x
