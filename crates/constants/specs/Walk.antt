-- The constants of a tree: a pass in pre-order with a finite map.
use Rattle.std.specs.Prelude.{ℕ, ◌==◌, if◌then◌else◌, List, [], ◌∷◌, Option, Some, None}
use Rattle.ir_event.specs.trees.declared.value.Value.{Value}
use Rattle.ir_event.specs.trees.declared.value.Value.TheVariants.{Result, Arg}
use Rattle.ir_event.specs.trees.Meaning.{Operation}
use Rattle.ir_event.specs.tree_laws.Members.{In}
use Rattle.dialects_int.specs.Folds.{Known}
use Rattle.ir_event.specs.Heads.{heads}
use Rattle.constants.specs.Facts.{Header, Facts, folded}

abbrev pub nothing : Facts
nothing x = None

abbrev pub with_fact : ℕ → Option Known → Facts → Facts
with_fact x v t y = if y == x then v else t y

-- each operation is folded with the values known so far
abbrev pub walk : List Header → Facts → Facts
walk [] t = t
walk (h ∷ hs) t = walk hs (with_fact h.id (folded h t) t)

-- the known values of the results of a tree's operations
abbrev pub facts_of : Operation → Facts
facts_of t = walk (heads t) nothing

-- the operation with an id
abbrev pub look_among : List Header → ℕ → Option Header
look_among [] x = None
look_among (h ∷ hs) x = if x == h.id then Some h else look_among hs x

-- each operand that is a result is the result of a visited operation
abbrev pub AllVisited : List ℕ → List Value → Type 0
AllVisited visited [] = Unit {0}
AllVisited visited (Result x k ∷ vs) = In x visited × AllVisited visited vs
AllVisited visited (Arg x r k ∷ vs) = AllVisited visited vs

-- the ids are distinct, and each operand is an argument or the result of an earlier operation
abbrev pub AreOrdered : List ℕ → List Header → Type 0
AreOrdered visited [] = Unit {0}
AreOrdered visited (h ∷ hs) = (In h.id visited → ⊥) × AllVisited visited h.operands × AreOrdered (h.id ∷ visited) hs

-- the visited ids after these operations
abbrev pub visited_after : List ℕ → List Header → List ℕ
visited_after visited [] = visited
visited_after visited (h ∷ hs) = visited_after (h.id ∷ visited) hs
