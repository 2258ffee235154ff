-- The contract of a function that updates `new` in place and returns whether it succeeded.
use Rattle.std.specs.Prelude.{◌≡◌, Bool, true, false, Option, Some, None}

abbrev pub Stands : {X : Type 0} → Option X → X → Bool → Type 0
Stands None new done = done ≡ false
Stands (Some b) new done = (done ≡ true) × (new ≡ b)
