-- Facts about the operations of a tree, and the facts that a table keeps.
use Rattle.std.specs.Prelude.{◌≡◌, ℕ, ◌+◌, ◌*◌, List, [], ◌∷◌, length, eqb, Bool, if◌then◌else◌, Option, Some, None}
use Rattle.std.specs.Prelude.{option_map, option_and_then}
use Rattle.std.specs.List.{list_any, filter}
use Rattle.std.specs.Ordering.{nat_cmp}
use Rattle.std.specs.FinMap.Entries.{put}
use Rattle.ir_event.specs.trees.Tree.{OpOf, head, regions, region_count}
use Rattle.ir_event.specs.trees.Ids.{find}
use Rattle.ir_event.specs.tree_laws.Stands.{OpWithPathOf, op_with_path_id, stands}
use Rattle.listeners_support.specs.Surroundings.{SurroundingsOf, surround, surroundings}
use Rattle.ir_event.specs.declared.event.Event.{Event}
use Rattle.listeners_support.specs.Near.{near}

-- whether an operation is in the list
abbrev pub is_one_of : ℕ → List ℕ → Bool
is_one_of y ys = list_any (λ x. eqb x y) ys

-- the fact about operation x of a tree, by its context; none if x isn't there
abbrev pub fact_of : {N T A F : Type 0} → (SurroundingsOf N T A → F) → OpOf N T A → ℕ → Option F
fact_of fact t x = option_map fact (surroundings x t)

-- the fact, if a table keeps it
abbrev pub if_kept : {F : Type 0} → (F → Bool) → F → Option F
if_kept is_kept f = if is_kept f then Some f else None

-- the fact about operation x of a tree, if a table keeps it
abbrev pub kept_of : {N T A F : Type 0} → (SurroundingsOf N T A → F) → (F → Bool) → OpOf N T A → ℕ → Option F
kept_of fact is_kept t x = option_and_then (if_kept is_kept) (fact_of fact t x)

-- the table keeps exactly the kept facts of the tree
abbrev pub Keeps : {N T A F : Type 0} → (SurroundingsOf N T A → F) → (F → Bool) → OpOf N T A → (ℕ → Option F) → Type 0
Keeps fact is_kept t table = (y : ℕ) → table y ≡ kept_of fact is_kept t y

-- the entries of the operations ys were updated to their facts
abbrev pub Renewed : {F : Type 0} → (ℕ → Option F) → List ℕ → (ℕ → Option F) → (ℕ → Option F) → Type 0
Renewed facts ys before after = (y : ℕ) → after y ≡ (if is_one_of y ys then facts y else before y)

-- the facts about the operations of a tree, ordered by id
abbrev pub sorted_in : {N T A F : Type 0} → (SurroundingsOf N T A → F) → OpOf N T A → List (OpWithPathOf N T A)
    → List (ℕ × F)
sorted_in fact t [] = []
sorted_in fact t (s ∷ ss) = put nat_cmp (op_with_path_id s) (fact (surround t s)) (sorted_in fact t ss)

abbrev pub sorted_facts : {N T A F : Type 0} → (SurroundingsOf N T A → F) → OpOf N T A → List (ℕ × F)
sorted_facts fact t = sorted_in fact t (stands [] t)

-- the kept facts of a tree
abbrev pub kept_facts : {N T A F : Type 0} → (SurroundingsOf N T A → F) → (F → Bool) → OpOf N T A → List (ℕ × F)
kept_facts {N} {T} {A} {F} fact is_kept t = filter (λ (e : ℕ × F). is_kept e.1) (sorted_facts fact t)

-- the looks for the fact about an operation: six, one for each operand, and three for each region
abbrev pub looks_found : {N T A : Type 0} → Option (OpOf N T A) → ℕ
looks_found None = 6
looks_found (Some o) = 6 + length (head o).operands + 3 * region_count (regions o)

abbrev pub looks_at : {N T A : Type 0} → OpOf N T A → ℕ → ℕ
looks_at t x = looks_found (find x t)

-- the looks for a list of operations; an operation that occurs again is looked at once
abbrev pub looks_for : {N T A : Type 0} → OpOf N T A → List ℕ → ℕ
looks_for t [] = 0
looks_for t (x ∷ xs) = (if is_one_of x xs then 0 else looks_at t x) + looks_for t xs

-- the limit of looks for an event that led to this tree
abbrev pub most_looks : {N T A : Type 0} → Event → OpOf N T A → ℕ
most_looks e t = 8 + looks_for t (near e t)
