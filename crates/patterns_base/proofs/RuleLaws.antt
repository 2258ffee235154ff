-- Rules have different numbers and different words, and each rule is in the list of all rules.
use Rattle.std.proofs.Common.{◌≡◌, true, Some, refl, sym, ap, ◌∙◌, arith}
use Rattle.std.proofs.lemmas.Option.{same_Some}
use Rattle.std.specs.List.{list_any}
use Rattle.std.proofs.lemmas.Bool.Decides.{nat_tests}
use Rattle.patterns_base.specs.declared.rule.Rule.{Rule}
use Rattle.patterns_base.specs.declared.rule.Rule.TheVariants.{EraseDead}
use Rattle.patterns_base.specs.RuleNames.{number_of, word_of, all_rules, same_rule, by_number, by_word}

pub by_its_number : (r : Rule) → by_number (number_of r) ≡ Some r
unfolding all_rules
by_its_number EraseDead = refl
by_its_number _ = refl

pub by_its_word : (r : Rule) → by_word (word_of r) ≡ Some r
unfolding all_rules
by_its_word EraseDead = refl
by_its_word _ = refl

-- two rules with the same number are equal
pub one_number : (r s : Rule) → number_of r ≡ number_of s → r ≡ s
one_number r s e = same_Some r s (sym (by_its_number r) ∙ ap by_number e ∙ by_its_number s)

-- the equality test of rules is right
pub same_is_one : (r s : Rule) → same_rule r s ≡ true → r ≡ s
same_is_one r s e = one_number r s (grind (arith, nat_tests, e))

pub one_is_same : (r s : Rule) → r ≡ s → same_rule r s ≡ true
one_is_same r s e = grind (arith, nat_tests, ap number_of e)

-- each rule is in the list of all rules
pub among_all : (r : Rule) → list_any (same_rule r) all_rules ≡ true
unfolding all_rules
among_all EraseDead = refl
among_all _ = refl
