-- Inlining a block of an operation.
use Rattle.std.specs.Prelude.{ℕ, ◌+◌, List, [], ◌∷◌, ◌++◌, map}
use Rattle.ir_event.specs.trees.declared.value.Value.{Value}
use Rattle.ir_event.specs.trees.declared.value.Value.TheVariants.{Result, Arg}
use Rattle.ir_event.specs.trees.declared.place.Place.{Place}
use Rattle.patterns_plans.specs.reads.Contents.{Edit}
use Rattle.patterns_plans.specs.reads.Makes.{arguments_from, replacing, replaced, give_body}
use Rattle.patterns_plans.specs.reads.Edit.{Edit as Coded}
use Rattle.patterns_plans.specs.reads.Edit.TheVariants as coded

-- values replace the arguments of block 0 of operation x, operations move before x, the terminator's operands replace
-- the results of x, and x is erased
abbrev pub opening : ℕ → Place → List ℕ → List Value → List Value → List Edit
opening x point ops values handed =
    let args = arguments_from x 0 values in
    replacing args values ++ give_body point x ops (map (replaced args values) handed)

-- a value after the arguments of x's block 0 are replaced by values
abbrev pub argument_replacement : ℕ → List Value → Value → Value
argument_replacement x values v = replaced (arguments_from x 0 values) values v

-- the edits of the code: values replace arguments, from number k on
abbrev pub argument_edits : ℕ → ℕ → List Value → List Coded
argument_edits x k [] = []
argument_edits x k (v ∷ vs) = coded.Replace (Arg x 0 k) v ∷ argument_edits x (k + 1) vs

-- operations moved to a place
abbrev pub move_edits : Place → List ℕ → List Coded
move_edits place [] = []
move_edits place (x ∷ xs) = coded.Move x place ∷ move_edits place xs

-- the terminator's operands replace results, from number k on
abbrev pub result_edits : ℕ → List Value → ℕ → List Value → List Coded
result_edits x values k [] = []
result_edits x values k (v ∷ vs) = coded.Replace (Result x k) (argument_replacement x values v) ∷ result_edits x values (k + 1) vs
