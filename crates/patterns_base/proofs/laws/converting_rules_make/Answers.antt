use Rattle.patterns_base.proofs.Making.{converting_rules_make}
use Rattle.patterns_base.proofs.laws.converting_rules_make.Goals as goal

pub returns : goal.returns
returns c = converting_rules_make
