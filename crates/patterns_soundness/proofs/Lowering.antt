-- Rules that lower index to i64. They move the ends of blocks and read the users of results. So their records say
-- nothing of the order of operations or of alike operations.
use Rattle.patterns_soundness.specs.base.Rules.{rule}
use Rattle.patterns_laws.proofs.Lowered.{all_lowered_two, comparison_lowered, choice_lowered, constant_lowered}
use Rattle.patterns_soundness.specs.base.declared.rule.Rule.TheVariants.{LowerIndex, LowerLoop, LowerChoice}
use Rattle.patterns_soundness.proofs.of_base.Dispatch.{only_listed}
use Rattle.patterns_soundness.proofs.of_base.Making.{converting_rules_make}
use Rattle.patterns_soundness.specs.Soundness.{Soundness}
use Rattle.patterns_soundness.proofs.Accepting.{are_accepted_at}

pub lower_index_facts : Soundness LowerIndex
unfolding rule
lower_index_facts = record {
  keeps = (all_lowered_two, comparison_lowered, choice_lowered, constant_lowered);
  listed = only_listed LowerIndex;
  near = λ lowers. absurd cc;
  alike = λ lowers. absurd cc;
  accepted = are_accepted_at LowerIndex;
  makes = λ converts t n insertion o es. converting_rules_make LowerIndex t n insertion o es converts;
}

pub lower_loop_facts : Soundness LowerLoop
unfolding rule
lower_loop_facts = record {
  keeps = tt;
  listed = only_listed LowerLoop;
  near = λ lowers. absurd cc;
  alike = λ lowers. absurd cc;
  accepted = are_accepted_at LowerLoop;
  makes = λ converts t n insertion o es. converting_rules_make LowerLoop t n insertion o es converts;
}

pub lower_choice_facts : Soundness LowerChoice
unfolding rule
lower_choice_facts = record {
  keeps = tt;
  listed = only_listed LowerChoice;
  near = λ lowers. absurd cc;
  alike = λ lowers. absurd cc;
  accepted = are_accepted_at LowerChoice;
  makes = λ converts t n insertion o es. converting_rules_make LowerChoice t n insertion o es converts;
}
