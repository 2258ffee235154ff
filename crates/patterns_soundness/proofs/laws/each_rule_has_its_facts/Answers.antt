use Rattle.patterns_soundness.proofs.Facts.{soundness}
use Rattle.patterns_soundness.proofs.laws.each_rule_has_its_facts.Goals as goal

pub returns : goal.returns
returns c = soundness
