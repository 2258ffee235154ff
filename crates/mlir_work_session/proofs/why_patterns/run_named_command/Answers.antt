use Rattle.std.proofs.Common.{sym}
use Rattle.mlir_work_session.proofs.WhyPatterns.{named_pattern, unnamed}
use Rattle.mlir_work_session.proofs.why_patterns.run_named_command.Goals as goal

pub returns-in-Some-clause-fulfils : goal.returns-in-Some-clause-fulfils
returns-in-Some-clause-fulfils g c = named_pattern _ _ _ _ _ _ _ _ _ (sym c.in-Some.ensures) c.why_pattern.ensures

pub returns-in-None-clause-fulfils : goal.returns-in-None-clause-fulfils
returns-in-None-clause-fulfils g c = unnamed _ _ _ _ _ _ _ _ (sym c.in-None.ensures) c.run_list_command.ensures.fulfils
