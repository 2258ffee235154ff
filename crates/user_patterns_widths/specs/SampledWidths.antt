-- The widths of type variables in a sampled check.
use Rattle.std.specs.Prelude.{ℕ, ◌/◌, ◌^◌, List, map, max, take}
use Rattle.user_patterns_data.specs.Shapes.{PatternModel}

-- each type variable has the given width, half of it or a quarter, by three levels
abbrev pub levels : ℕ
levels = 3

abbrev pub level_width : ℕ → ℕ → ℕ
level_width w level = max 1 (w / 2 ^ level)

-- the widths in a test case, whose numbers begin with a level for each type variable
abbrev pub widths_of_case : PatternModel → ℕ → List ℕ → List ℕ
widths_of_case p w numbers = map (level_width w) (take p.types numbers)
