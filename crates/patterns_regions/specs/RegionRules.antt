-- The rules on branches and loops at an operation of a tree, by its id.
use Rattle.std.specs.Prelude.{ℕ, List, Option, Some}
use Rattle.ir_event.specs.trees.declared.value.Value.{Value}
use Rattle.ir_event.specs.trees.declared.place.Place.{Place}
use Rattle.ir_event.specs.trees.Tree.{regions}
use Rattle.ir_event.specs.trees.Ids.{find}
use Rattle.ir_event.specs.trees.Meaning.{Operation}
use Rattle.ir_event.specs.tree_laws.Values.{region_at}
use Rattle.patterns_plans.specs.reads.Contents.{Edit}
use Rattle.patterns_plans.specs.reads.Keeps.{given}
use Rattle.patterns_plans.specs.reads.rules.Opening.{chosen, open_branch, open_loop, stop_loop}
use Rattle.patterns_regions.specs.Blocks.{body_at}
use Rattle.patterns_regions.specs.Opened.{opening}

-- operation x becomes its block r, with values for the block arguments
abbrev pub opened_at : ℕ → ℕ → Operation → Place → List Value → Option (List Edit)
opened_at x r t point values = given (body_at x r t) (λ e. Some (opening x point e.before values e.last.operands))

-- operation x becomes its region r
abbrev pub chosen_at : ℕ → ℕ → Operation → Place → Option (List Edit)
chosen_at x r t point = given (find x t) (λ o. given (region_at r (regions o)) (λ g. chosen t point o g r))

-- the rules on branches and loops, at operation x
abbrev pub open_branch_at : ℕ → Operation → Place → Option (List Edit)
open_branch_at x t point = given (find x t) (λ o. open_branch t point o)

abbrev pub open_loop_at : ℕ → Operation → Place → Option (List Edit)
open_loop_at x t point = given (find x t) (λ o. open_loop t point o)

abbrev pub stop_loop_at : ℕ → Operation → Place → Option (List Edit)
stop_loop_at x t point = given (find x t) (λ o. stop_loop t point o)
