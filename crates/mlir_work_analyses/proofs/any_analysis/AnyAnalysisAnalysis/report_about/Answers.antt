use Rattle.mlir_work_analyses.proofs.any_analysis.AnyAnalysisAnalysis.report_about.Goals as goal

pub returns-in-Uses-clause-agreed : goal.returns-in-Uses-clause-agreed
returns-in-Uses-clause-agreed c = λ agrees. rw c.in-Uses.is (c.report_about.ensures.agreed (rw c.in-Uses.is at agrees))

pub returns-in-Symbols-clause-agreed : goal.returns-in-Symbols-clause-agreed
returns-in-Symbols-clause-agreed c = λ agrees. rw c.in-Symbols.is (c.report_about-in-Symbols.ensures.agreed (rw c.in-Symbols.is at agrees))

pub returns-in-Diagnostics-clause-agreed : goal.returns-in-Diagnostics-clause-agreed
returns-in-Diagnostics-clause-agreed c = λ agrees. rw c.in-Diagnostics.is (c.report_about-in-Diagnostics.ensures.agreed (rw c.in-Diagnostics.is at agrees))

pub returns-in-Effects-clause-agreed : goal.returns-in-Effects-clause-agreed
returns-in-Effects-clause-agreed c = λ agrees. rw c.in-Effects.is (c.report_about-in-Effects.ensures.agreed (rw c.in-Effects.is at agrees))

pub returns-in-Dead-clause-agreed : goal.returns-in-Dead-clause-agreed
returns-in-Dead-clause-agreed c = λ agrees. rw c.in-Dead.is (c.report_about-in-Dead.ensures.agreed (rw c.in-Dead.is at agrees))

pub returns-in-Constants-clause-agreed : goal.returns-in-Constants-clause-agreed
returns-in-Constants-clause-agreed c = λ agrees. rw c.in-Constants.is (c.report_about-in-Constants.ensures.agreed (rw c.in-Constants.is at agrees))

pub returns-in-Unreached-clause-agreed : goal.returns-in-Unreached-clause-agreed
returns-in-Unreached-clause-agreed c = λ agrees. rw c.in-Unreached.is (c.report_about-in-Unreached.ensures.agreed (rw c.in-Unreached.is at agrees))
