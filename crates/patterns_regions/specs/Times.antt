-- The trip count of a loop.
use Rattle.std.specs.Prelude.{if◌then◌else◌, pos, ℤ, ◌+ℤ◌, int_lt, int_le, Bool, ◌&&◌, Option, Some}
use Rattle.ir_event.specs.trees.declared.value.Value.{Value}
use Rattle.ir_event.specs.trees.Meaning.{Operation}
use Rattle.patterns_plans.specs.reads.Keeps.{given}
use Rattle.patterns_plans.specs.reads.Looks.{known}
use Rattle.patterns_plans.specs.reads.rules.Opening.{reading}
use Rattle.patterns_regions.specs.declared.trip_count.TripCount.{TripCount}
use Rattle.patterns_regions.specs.declared.trip_count.TripCount.TheVariants.{Zero, One, Several}

-- whether a loop whose lower bound is less than its upper bound runs once
abbrev pub is_once : ℤ → ℤ → ℤ → Bool
is_once low high step = int_lt (pos 0) step && int_le high (low +ℤ step)

-- never, once or more often, if the bounds are known, and the step too if the lower bound is less than the upper bound
abbrev pub times_of : Operation → Value → Value → Value → Option TripCount
times_of t lower upper step = given (known t lower) (λ low. given (known t upper) (λ high.
    if int_lt (reading low) (reading high) then given (known t step)
    (λ by. Some (if is_once (reading low) (reading high) (reading by) then One else Several)) else Some Zero))
