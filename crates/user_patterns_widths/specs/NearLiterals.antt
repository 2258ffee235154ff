-- The literals of a pattern, and the numbers next to them.
use Rattle.std.specs.Prelude.{ℕ, ◌+◌, ◌-◌, ◌^◌, List, [], ◌∷◌, ◌++◌, take}
use Rattle.user_patterns_data.specs.declared.pattern.ExtraConstant.{ExtraConstant}
use Rattle.user_patterns_data.specs.declared.pattern.ExtraConstant.TheVariants as extra
use Rattle.user_patterns_data.specs.declared.pattern.ConstantExpression.{ConstantExpression}
use Rattle.user_patterns_data.specs.declared.pattern.ConstantExpression.TheVariants as number
use Rattle.user_patterns_data.specs.Shapes.{PatternModel}
use Rattle.user_patterns_widths.specs.Polynomials.{coefficient, literal_coefficient}

-- the number of a literal modulo 2^128; at a type that has the literal, its bits are the lowest bits of this number
abbrev pub extra_literal : ExtraConstant → List ℕ
extra_literal (extra.Literal l) = literal_coefficient l.negative l.magnitude ∷ []
extra_literal (extra.SameAs i) = []

abbrev pub number_literal : ConstantExpression → List ℕ
number_literal (number.Literal l) = literal_coefficient l.negative l.magnitude ∷ []
number_literal (number.Width t) = []
number_literal (number.Binary o i j) = []
number_literal (number.Compare q i j) = []
number_literal (number.Log2 i) = []
number_literal (number.Require i) = []

abbrev pub extra_literals : List ExtraConstant → List ℕ
extra_literals [] = []
extra_literals (x ∷ xs) = extra_literal x ++ extra_literals xs

abbrev pub number_literals : List ConstantExpression → List ℕ
number_literals [] = []
number_literals (x ∷ xs) = number_literal x ++ number_literals xs

-- the literals of the left side, then those of the right side and of the conditions
abbrev pub literals : PatternModel → List ℕ
literals p = extra_literals p.extra ++ number_literals p.given

-- each number, the number before it and the number after it
abbrev pub neighbours : List ℕ → List ℕ
neighbours [] = []
neighbours (n ∷ ns) = n ∷ coefficient (n + (2 ^ 128 - 1)) ∷ coefficient (n + 1) ∷ neighbours ns

-- the limit of literals that samples are near to
abbrev pub most_literals : ℕ
most_literals = 8

abbrev pub near_literals : PatternModel → List ℕ
near_literals p = neighbours (take most_literals (literals p))
