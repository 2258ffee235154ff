use Rattle.mlir_work_script_base.proofs.Printed.{number_again, op_again, result_again, argument_again}
use Rattle.mlir_work_script_base.proofs.laws.names_read_back.Goals as goal

pub returns : goal.returns
returns c = record { number = number_again; op = op_again; result_value = result_again; argument = argument_again }
