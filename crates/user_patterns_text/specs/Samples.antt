-- A text and the pattern that it spells.
use Rattle.std.specs.Prelude.{◌≡◌, [], codes, Some, None}
use Rattle.user_patterns_text.specs.Syntax.{named, called, next_number, no_numbers, operation, value_of, constant_of, next_term, no_terms, Pattern}
use Rattle.user_patterns_text.specs.Recognizing.{read}

abbrev pub times_power : Pattern
times_power =
    record {
      name = codes "times_power";
      old = operation (codes "arith.muli") None (next_term (value_of (codes "a") None) (next_term (constant_of (named (codes "c")) None) no_terms)) None;
      new =
          operation (codes "arith.shli") None
          (next_term (value_of (codes "a") None) (next_term (constant_of (called (codes "log2") (next_number (named (codes "c")) no_numbers)) None) no_terms))
          None;
      conditions = [];
    }

abbrev pub IsTimesPower : Type 0
IsTimesPower = read (codes "times_power arith.muli(%a, c) => arith.shli(%a, log2(c))") ≡ Some (times_power, [])
