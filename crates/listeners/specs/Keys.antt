-- Uses as sort keys.
use Rattle.std.specs.Prelude.{ℕ, List, [], ◌∷◌, map, Option, Some, None}
use Rattle.ir_event.specs.trees.declared.value.Value.{Value}
use Rattle.ir_event.specs.trees.declared.value.Value.TheVariants.{Result, Arg}
use Rattle.ir_event.specs.trees.Frames.{owner_of, place_of}
use Rattle.ir_event.specs.declared.row.Cell.{Cell}
use Rattle.ir_event.specs.declared.row.Cell.TheVariants as cell
use Rattle.listeners.specs.declared.key.Use.{Use}
use Rattle.listeners.specs.declared.key.UseKey.{UseKey}

-- the key of a use
abbrev pub key_of : Use → UseKey
key_of u =
    record {
      owner = (owner_of u.value).0;
      region = (owner_of u.value).1;
      place = place_of u.value;
      user = u.user;
      operand = u.operand;
    }

-- the keys of uses
abbrev pub keys_of : List Use → List UseKey
keys_of us = map key_of us

-- the value with an owner, a region if it is an argument, and a place
abbrev pub value_at : ℕ → Option ℕ → ℕ → Value
value_at x None k = Result x k
value_at x (Some r) k = Arg x r k

-- the use of a key
abbrev pub use_of : UseKey → Use
use_of k = record { value = value_at k.owner k.region k.place; user = k.user; operand = k.operand }

-- the cells of a key's row
abbrev pub key_cells : UseKey → List Cell
key_cells key = cell.Val (value_at key.owner key.region key.place) ∷ cell.Op key.user ∷ cell.Num key.operand ∷ []
