-- The rule of a name, by its id.
use Rattle.std.proofs.Common.{◌≡◌, ℕ, ◌-◌, ◌<◌, ◌≤◌, List, map, slice_get, None, refl}
use Rattle.std.proofs.Common.{sym}
use Rattle.std.specs.Str.{bytes_eq}
use Rattle.std.proofs.lemmas.Slice.Eq.{bytes_eq-Decides}
use Rattle.std.proofs.lemmas.Bool.Decides.{same_from_decides}
use Rattle.ir_types.specs.Words.{words, operations, keys, visibilities}
use Rattle.ir_types.specs.Things.{ContextModel}
use Rattle.ir_types.specs.Terms.{name_term}
use Rattle.ir_types.specs.Sound.{IsSound}
use Rattle.op_registry.proofs.ByName.{AreWords, next_to_word, next_to_earlier}
use Rattle.dialects_int.specs.declared.operations.Rule.{Rule}
use Rattle.dialects_int.specs.Folds.{rules, rule_of}
use Rattle.ir_types.proofs.Truths.{turned}

rules_are : AreWords 5 25 rules
unfolding words operations keys visibilities rules
rules_are = refl

pub rule_is : (c : ContextModel) (n : ℕ) → IsSound c → 5 ≤ n → rule_of (name_term c n) ≡ slice_get (map (λ (row : List ℕ × Rule). row.1) rules) (n - 5)
unfolding rule_of
rule_is c n sound h = next_to_word c n 5 25 rules sound rules_are h

pub rule_before : (c : ContextModel) (n : ℕ) → IsSound c → n < 5 → rule_of (name_term c n) ≡ None
unfolding rule_of
rule_before c n sound h = next_to_earlier c n 5 25 rules sound rules_are h
