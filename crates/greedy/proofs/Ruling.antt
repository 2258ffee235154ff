-- The rules of canonicalization are rules that canonicalization tries.
use Rattle.std.proofs.lemmas.List.Elements.{filter_passes}
use Rattle.patterns_base.specs.Canonicalization.{greedy_rules}
use Rattle.patterns_base.specs.RuleNames.{all_rules, is_canonical}
use Rattle.patterns.specs.Rows.{AreCanonical}

pub canonical_rules : AreCanonical greedy_rules
canonical_rules = filter_passes is_canonical all_rules
