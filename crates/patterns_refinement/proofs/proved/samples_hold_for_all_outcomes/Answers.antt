use Rattle.patterns_refinement.proofs.OutcomesSampled.{poison_refutes, sample_holds}
use Rattle.patterns_refinement.proofs.proved.samples_hold_for_all_outcomes.Goals as goal

pub returns-clause-holds : goal.returns-clause-holds
returns-clause-holds c = sample_holds

pub returns-clause-refuted : goal.returns-clause-refuted
returns-clause-refuted c = poison_refutes
