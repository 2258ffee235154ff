use Rattle.mlir_work_cli.proofs.Precedings.{has_wrong, wrong_is_reported}
use Rattle.mlir_work_cli.proofs.pattern_file_laws.refused_lines_have_a_first_wrong_one.Goals as goal

pub returns-clause-reported : goal.returns-clause-reported
returns-clause-reported c = wrong_is_reported

pub returns-clause-one : goal.returns-clause-one
returns-clause-one c = has_wrong
