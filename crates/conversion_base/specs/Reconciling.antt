-- Reconciling the casts between types that a conversion leaves (Dialect Conversion, "Type Conversion", on unrealized
-- casts).
use Rattle.std.specs.Prelude.{ℕ, zero, suc, List, [], ◌∷◌, codes, Bool, false, not, ◌&&◌, ◌||◌, eqb, if◌then◌else◌}
use Rattle.std.specs.Prelude.{Option, Some, None}
use Rattle.ir_event.specs.types.Terms.{TypeTerm}
use Rattle.ir_event.specs.types.SameTypes.{same_type}
use Rattle.ir_event.specs.trees.declared.value.Value.{Value}
use Rattle.ir_event.specs.trees.Tree.{head}
use Rattle.ir_event.specs.trees.Ids.{ids, find, op_count}
use Rattle.ir_event.specs.trees.Meaning.{Operation}
use Rattle.ir_event.specs.Modules.{Module}
use Rattle.effects.specs.Dead.{is_unused}
use Rattle.patterns_base.specs.Contents.{Edit, edited}
use Rattle.patterns_base.specs.Edits.{Erase}
use Rattle.patterns_base.specs.declared.rule.Rule.TheVariants.{CastBack}
use Rattle.patterns_base.specs.Keeps.{given}
use Rattle.patterns_base.specs.Looks.{when, insertion_of, is_index, is_index_value, is_of_type, one}
use Rattle.patterns_base.specs.Made.{i64, cast}
use Rattle.patterns_base.specs.Makes.{give_new}
use Rattle.patterns_base.specs.Rewrites.{Rewrite, none, refused, becomes, rewrite_by, rewrite_of}
use Rattle.patterns_base.specs.Words.{named}
use Rattle.conversion_base.specs.Targets.{cast_name}

-- ---- casts that are unused or that collapse

-- whether an optional operation is an unrealized cast
abbrev pub is_cast_found : Option Operation → Bool
is_cast_found None = false
is_cast_found (Some o) = named cast_name (head o).name

-- whether operation x of a tree is an unrealized cast
abbrev pub is_cast : ℕ → Operation → Bool
is_cast x t = is_cast_found (find x t)

-- the first rewrite, or the second if there is no first
abbrev pub rewrite_or : Rewrite → Rewrite → Rewrite
rewrite_or none b = b
rewrite_or (refused e) b = refused e
rewrite_or (becomes n) b = becomes n

-- an operation is erased if none of its results is used
abbrev pub unused_erased : Module → ℕ → Rewrite
unused_erased m x = if is_unused x m.tree then becomes (edited (Erase x) m) else none

-- the rewrite of operation x if it is a cast and not the root: it is erased, or casting back collapses it
abbrev pub collapse : Module → ℕ → Rewrite
collapse m x =
    if is_cast x m.tree && not (eqb (head m.tree).id x) then rewrite_or (unused_erased m x) (rewrite_of CastBack m x)
    else none

-- the first rewrite at one of some operations
abbrev pub first_rewrite : (ℕ → Rewrite) → List ℕ → Rewrite
first_rewrite f [] = none
first_rewrite f (x ∷ xs) = rewrite_or (f x) (first_rewrite f xs)

-- the rewrite of the first such cast, in pre-order
abbrev pub next_collapse : Module → Rewrite
next_collapse m = first_rewrite (collapse m) (ids m.tree)

-- repeated rewrites, as long as there is one
abbrev pub go_on : (Module → Rewrite) → Module → Rewrite → Rewrite
go_on f m none = becomes m
go_on f m (refused e) = refused e
go_on f m (becomes n) = f n

-- a number of steps, one after another
abbrev pub collapsed : ℕ → Module → Rewrite
collapsed zero m = becomes m
collapsed (suc k) m = go_on (collapsed k) m (next_collapse m)

-- all steps: each erases at least one operation, so there are at most as many steps as operations
abbrev pub all_collapsed : Module → Rewrite
all_collapsed m = collapsed (op_count m.tree) m

-- ---- casts between index and i64

-- whether a cast is from index to i64, or from i64 to index
abbrev pub takes_index : Operation → Value → TypeTerm → Bool
takes_index t v ty = is_index_value t v && same_type ty i64 || is_of_type t i64 v && is_index ty

-- the edits that replace operation x with an `arith.index_cast`, if x has one operand and one result and casts between
-- index and i64
abbrev pub index_edits : Module → ℕ → Option (List Edit)
index_edits m x = given (find x m.tree) (λ o. given (insertion_of x m.tree) (λ point. given (one (head o)) (λ p.
    when (takes_index m.tree p.first p.ty)
    (Some (give_new point m.next x (cast (codes "arith.index_cast") p.ty p.first))))))

-- the rewrite of operation x
abbrev pub index_rewrite : Module → ℕ → Rewrite
index_rewrite m x = rewrite_by (index_edits m x) m
