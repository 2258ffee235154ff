-- The building blocks of the rules' edits.
use Rattle.std.specs.Prelude.{ℕ, ◌+◌, List, [], ◌∷◌, ◌++◌, map, if◌then◌else◌}
use Rattle.ir_types.specs.Terms.{TypeTerm}
use Rattle.ir_tree.specs.declared.value.Value.{Value}
use Rattle.ir_tree.specs.declared.value.Value.TheVariants.{Result, Arg}
use Rattle.ir_tree.specs.declared.place.Place.{Place}
use Rattle.ir_tree.specs.Uses.{same_value}
use Rattle.ir_tree.specs.Meaning.{Operation}
use Rattle.rewriter_machine.specs.Contents.{Edit}
use Rattle.rewriter_machine.specs.Edits.{Make, Erase, Move, Replace}
use Rattle.patterns_laws.specs.Made.{constant}

-- a value replaces the result of operation x, and x is erased
abbrev pub give : ℕ → Value → List Edit
give x v = Replace (Result x 0) v ∷ Erase x ∷ []

-- the result of a new operation with id n, inserted before x, replaces the result of x, and x is erased
abbrev pub give_new : Place → ℕ → ℕ → Operation → List Edit
give_new point n x o = Make point o ∷ give x (Result n 0)

-- a new constant with id n replaces the result of x, and x is erased
abbrev pub give_constant : Place → ℕ → ℕ → TypeTerm → ℕ → List Edit
give_constant point n x ty bits = give_new point n x (constant ty bits)

-- the results of an operation, from number k on, one for each item
abbrev pub results_from : {X : Type 0} → ℕ → ℕ → List X → List Value
results_from x k [] = []
results_from x k (i ∷ is) = Result x k ∷ results_from x (k + 1) is

-- the arguments of block 0 of an operation, from number k on, one for each item
abbrev pub arguments_from : {X : Type 0} → ℕ → ℕ → List X → List Value
arguments_from x k [] = []
arguments_from x k (i ∷ is) = Arg x 0 k ∷ arguments_from x (k + 1) is

-- values are replaced by others, one by one
abbrev pub replacing : List Value → List Value → List Edit
replacing (v ∷ vs) (w ∷ ws) = Replace v w ∷ replacing vs ws
replacing _ _ = []

-- a value after these replacements
abbrev pub replaced : List Value → List Value → Value → Value
replaced (v ∷ vs) (w ∷ ws) u = if same_value v u then w else replaced vs ws u
replaced _ _ u = u

-- operations move to a place, in order
abbrev pub moving : Place → List ℕ → List Edit
moving place xs = map (λ x. Move x place) xs

-- operations are erased
abbrev pub erasing : List ℕ → List Edit
erasing xs = map Erase xs

-- the operations of a block move before x, values replace the results of x, and x is erased
abbrev pub give_body : Place → ℕ → List ℕ → List Value → List Edit
give_body point x ops values = moving point ops ++ replacing (results_from x 0 values) values ++ Erase x ∷ []

-- the number of operations that an edit makes
abbrev pub makes : Edit → ℕ
makes (Make place o) = 1
makes _ = 0

-- the number of operations that edits make
abbrev pub made_by : List Edit → ℕ
made_by [] = 0
made_by (e ∷ es) = makes e + made_by es
