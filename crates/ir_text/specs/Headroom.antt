-- The capacity of a context: how much a parse can add, given that each entry takes bytes of the text.
use Rattle.std.specs.Prelude.{ℕ, ◌+◌, ◌-◌, ◌*◌, ◌≤◌, List, length}
use Rattle.ir_types.specs.Limits.{most_things}
use Rattle.ir_types.specs.Things.{ContextModel}

-- the context has capacity for a text of so many bytes, and for i, j and k more bytes of names, types and attributes;
-- a name takes at least two bytes with its separator, and a type or an attribute at least one
pub record Fits (i j k : ℕ) (bytes : List ℕ) (c : ContextModel) : Type 0 where
  pub names : (2 * length c.names) + (length bytes + i) ≤ 2 * most_things - 1
  pub types : length c.types + (length bytes + j) ≤ most_things
  pub attrs : length c.attrs + (length bytes + k) ≤ most_things

-- the context has capacity for the text
abbrev pub HasHeadroom : List ℕ → ContextModel → Type 0
HasHeadroom bytes c = Fits 0 0 0 bytes c
