-- Sets of rules, as numbers of 24 bits, and the finding about an operation.
use Rattle.std.specs.Prelude.{ℕ, zero, suc, ◌+◌, ◌*◌, ◌/◌, ◌%◌, List, [], ◌∷◌, Bool, true, false, not, codes, ◌==◌, ◌&&◌}
use Rattle.std.specs.List.{filter}
use Rattle.op_registry.specs.Registry.{row_of}
use Rattle.ir_verify.specs.declared.rules.RuleSet.{RuleSet}
use Rattle.ir_verify.specs.declared.finding.Finding.{Finding}
use Rattle.ir_verify_base.specs.Fits.{Surroundings, is_named}
use Rattle.ir_verify.specs.Breaks.{broken_rules_in, numbers_from}
use Rattle.ir_verify.specs.Beyond.{is_beyond, is_on_types}

-- the number n shifted left by one bit, with a new lowest bit
abbrev pub with_bit : Bool → ℕ → ℕ
with_bit true n = 2 * n + 1
with_bit false n = 2 * n

-- the number whose bits, from the lowest on, are the items of the list
abbrev pub packed : List Bool → ℕ
packed [] = 0
packed (b ∷ bs) = with_bit b (packed bs)

-- the lowest bits of a number
abbrev pub bits_of : ℕ → ℕ → List Bool
bits_of zero n = []
bits_of (suc k) n = (n % 2 == 1) ∷ bits_of k (n / 2)

-- the numbers of the rules in a set, in ascending order
unfoldable pub rules_in : RuleSet → List ℕ
rules_in set = numbers_from 1 (bits_of 24 set.bits)

-- whether the set has a rule
abbrev pub has_any : RuleSet → Bool
has_any set = not (set.bits == 0)

-- the set of the rules that an operation breaks
abbrev pub set_of : Surroundings → RuleSet
set_of s = record { bits = packed (broken_rules_in (row_of s.node.head.name) s) }

-- the finding about an operation: the broken rules and, if there are some, whether the operation is beyond the table
-- and whether it is a constant
abbrev pub finding_of : Surroundings → Finding
finding_of s = record {
  broken = set_of s;
  beyond = has_any (set_of s) && is_beyond s;
  constant = is_named s.node (codes "arith.constant");
}

-- whether the operation breaks a rule
abbrev pub breaks_any : Finding → Bool
breaks_any t = has_any t.broken

-- whether a broken rule is reported, and the reported rules
abbrev pub is_reported : Finding → ℕ → Bool
is_reported t r = not (t.beyond && is_on_types t.constant r)

unfoldable pub reported_rules : Finding → List ℕ
reported_rules t = filter (is_reported t) (rules_in t.broken)
