-- One operation of a walk.
use Rattle.std.proofs.Common.{◌≡◌, ℕ, Bool, true, false, Option, ap, ◌∙◌}
use Rattle.std.specs.Bool.{OnTrue}
use Rattle.dialects_int.specs.Folds.{Known}
use Rattle.constants.specs.Facts.{Header, Facts, value}
use Rattle.constants.specs.Walk.{with_fact}
use Rattle.constants.specs.Trails.{IsThere}

pub entered : (r : Bool) (ops : ℕ → Option Header) (x : ℕ) (v : Option Known) (a b : Facts) → (IsThere ops x → v ≡ value ops a x) → OnTrue r ((y : ℕ) → b y ≡ with_fact x v a y) → OnTrue r (IsThere ops x → (y : ℕ) → b y ≡ with_fact x (value ops a x) a y)
entered true ops x v a b is f = λ there y. f y ∙ ap (λ w. with_fact x w a y) (is there)
entered false ops x v a b is f = tt
