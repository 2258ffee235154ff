use Rattle.patterns_base.proofs.RuleLaws.{by_its_number, by_its_word}
use Rattle.patterns_base.proofs.laws.rules_are_distinct.Goals as goal

pub returns-clause-numbers : goal.returns-clause-numbers
returns-clause-numbers c = by_its_number

pub returns-clause-words : goal.returns-clause-words
returns-clause-words c = by_its_word
