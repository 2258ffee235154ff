-- The results of functions that may refuse.
use Rattle.std.specs.Prelude.{◌≡◌, Option, Some, None, Result, Ok, Err}

-- a result agrees with the definition: `Ok` has the value, seen through `view`, and `Err` is returned if there is
-- none
abbrev pub GivesOrNone : {X Y E : Type 0} → (X → Y) → Result X E → Option Y → Type 0
GivesOrNone view (Ok x) read = read ≡ Some (view x)
GivesOrNone view (Err e) read = read ≡ None
