-- The fields of a pattern that are known only after the analysis, and the end of the analysis.
use Rattle.std.specs.Prelude.{ℕ, List, true, false, length, Ok}
use Rattle.std.specs.List.{range_with_len}
use Rattle.user_patterns_text.specs.Parts.{Pattern}
use Rattle.user_patterns_text.specs.Refusing.{Outcome, ◌>>=◌}
use Rattle.user_patterns_data.specs.declared.pattern.PatternType.{PatternType}
use Rattle.user_patterns_data.specs.Shapes.{PatternModel}
use Rattle.user_patterns_sema.specs.Sema.{Sema, Places, conditions_at, constants_of, kinds_found, old_depth, settled, term_at, unite, variables_found}

-- the number of type variables and the types, the variables' types, the constants among the variables, and the places
-- of both results
pub record Ends : Type 0 where
  pub value_types : ℕ × List PatternType
  pub values : List ℕ
  pub constants : List ℕ
  pub root : ℕ
  pub result : ℕ

abbrev pub ended : Places → ℕ × ℕ → Sema → Ends
ended b roots f =
    record {
      value_types = kinds_found (variables_found f) f.value_types;
      values = range_with_len 0 (length b.variables);
      constants = constants_of 0 b.variables;
      root = roots.0;
      result = roots.1;
    }

abbrev pub pattern_of : Ends → Sema → PatternModel
pattern_of e f =
    record {
      types = e.value_types.0;
      value_types = e.value_types.1;
      values = e.values;
      constants = e.constants;
      extra = f.extra;
      type_constraints = f.type_constraints;
      given = f.given;
      old = f.old;
      root = e.root;
      new = f.new;
      result = e.result;
    }

-- both sides and the conditions, with the places of both results
unfoldable pub roots_wellformed : Places → Pattern → Sema → Outcome ((ℕ × ℕ) × Sema)
roots_wellformed b p f = do
  old ← term_at b true old_depth (p.old, f)
  new ← term_at b false 17 (p.new, old.1.1)
  g ← unite old.0.slot new.0.slot new.0.left new.1.1
  h ← conditions_at b 17 (p.conditions, g)
  Ok ((old.0.place, new.0.place), h)

unfoldable pub ends_wellformed : Places → Pattern → Sema → Outcome (Ends × Sema)
ends_wellformed b p f = roots_wellformed b p f >>= λ x. settled x.1 >>= λ g. Ok (ended b x.0 g, g)
