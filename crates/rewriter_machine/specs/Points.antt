-- Insertion points in commands.
use Rattle.std.specs.Prelude.{ℕ, eqb, Bool, true, false, if◌then◌else◌, Option, Some, None, option_map, is_some, Result}
use Rattle.std.specs.Prelude.{Ok, Err}
use Rattle.std.specs.Option.{option_eq}
use Rattle.ir_event.specs.types.declared.refusal.Refusal.{Refusal}
use Rattle.ir_event.specs.types.declared.refusal.Refusal.TheVariants.{NoSuchOp, NoSuchIndex, IsRoot}
use Rattle.ir_event.specs.trees.declared.place.Place.{Place}
use Rattle.ir_event.specs.trees.Tree.{OpOf}
use Rattle.ir_event.specs.trees.Ids.{has_id}
use Rattle.ir_event.specs.trees.Places.{place_of}
use Rattle.ir_event.specs.tree_laws.Reads.{next_of, first_at, ops_at}

-- before or after an operation, or at the start or the end of the block of one of its regions
pub data Point : Type 0 where
  Before : ℕ → Point
  After : ℕ → Point
  Start : ℕ → ℕ → Point
  End : ℕ → ℕ → Point

-- the next operation of a place, skipping the operation that is moved
abbrev pub passing : {N T A : Type 0} → Option ℕ → Option ℕ → OpOf N T A → Option ℕ
passing None next t = next
passing (Some x) next t = if option_eq eqb next (Some x) then next_of x t else next

-- a place with another next operation
abbrev pub coming : Option ℕ → Place → Place
coming before p = record p { before = before }

-- a place of a block, skipping the operation that is moved
abbrev pub trailing : {N T A : Type 0} → Option ℕ → OpOf N T A → Place → Place
trailing moved t p = coming (passing moved p.before t) p

-- a place next to an operation; refused if the operation is missing, or has no place because it is the root
abbrev pub next_to : Bool → Option Place → Result Place Refusal
next_to false place = Err NoSuchOp
next_to true None = Err IsRoot
next_to true (Some place) = Ok place

-- a place in a block; refused if the operation is missing, or has no such region, or the region has no block
abbrev pub in_block : Bool → Bool → Place → Result Place Refusal
in_block false block place = Err NoSuchOp
in_block true false place = Err NoSuchIndex
in_block true true place = Ok place

-- the place of an insertion point in a tree, for a moved operation or a new one, or the first reason against it
abbrev pub point_place : {N T A : Type 0} → Option ℕ → Point → OpOf N T A → Result Place Refusal
point_place moved (Before x) t = next_to (has_id x t) (option_map (coming (Some x)) (place_of x t))
point_place moved (After x) t = next_to (has_id x t) (option_map (trailing moved t) (place_of x t))
point_place moved (Start x r) t =
    in_block (has_id x t) (is_some (ops_at x r t))
    (record { parent = x; region = r; before = passing moved (first_at x r t) t })
point_place moved (End x r) t =
    in_block (has_id x t) (is_some (ops_at x r t)) (record { parent = x; region = r; before = None })
