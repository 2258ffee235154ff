-- Polynomials in memory, as polynomials of the specification.
use Rattle.std.specs.Prelude.{◌≡◌, List, Bool, true, false, Option, Some, None, Vec, map, option_map}
use Rattle.std.specs.declared.alloc.Global.{Global}
use Rattle.user_patterns_widths.specs.declared.polynomials.Term.{Term}
use Rattle.user_patterns_widths.specs.Polynomials as polynomials
use Rattle.user_patterns_widths.specs.AllWidths.{Formal}

abbrev pub term_view : Term → polynomials.Term
term_view t = (t.coefficient, t.places.items)

abbrev pub view : List Term → polynomials.Polynomial
view ts = map term_view ts

-- the polynomial, if there is one
abbrev pub some_view : Option (Vec Term Global) → Option polynomials.Polynomial
some_view p = option_map (λ (v : Vec Term Global). view v.items) p

abbrev pub formal_view : List (Option (Vec Term Global)) → Formal
formal_view ps = map some_view ps

-- the contract of a function that updates the entries in place and returns whether it succeeded
abbrev pub Stands : Option Formal → List (Option (Vec Term Global)) → Bool → Type 0
Stands None new done = done ≡ false
Stands (Some env) new done = (done ≡ true) × (formal_view new ≡ env)
