-- What plans read of attributes.
use Rattle.std.specs.Prelude.{ℕ, List, codes, Option, option_map}
use Rattle.ir_event.specs.types.Terms.{TypeTerm, AttrTerm}
use Rattle.op_registry.specs.Properties.{integer_of}
use Rattle.dialects_int.specs.Folds.{property_of}

-- the number of an attribute, if it is an integer
abbrev pub number_of : AttrTerm → Option ℕ
number_of a = option_map (λ (i : TypeTerm × ℕ). i.1) (integer_of a)

-- the number that is the property `predicate`, among some properties
abbrev pub predicate_among : List (List ℕ × AttrTerm) → Option ℕ
predicate_among entries = option_map (λ (i : TypeTerm × ℕ). i.1) (property_of (codes "predicate") entries)
