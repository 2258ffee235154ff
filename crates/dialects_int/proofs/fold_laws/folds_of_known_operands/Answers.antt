use Rattle.dialects_int.proofs.KnownOperands.{pair_folds, compare_folds, select_folds, resize_folds, index_cast_folds, constant_folds}
use Rattle.dialects_int.proofs.fold_laws.folds_of_known_operands.Goals as goal

pub returns-clause-pair : goal.returns-clause-pair
returns-clause-pair c = pair_folds

pub returns-clause-compare : goal.returns-clause-compare
returns-clause-compare c = compare_folds

pub returns-clause-select : goal.returns-clause-select
returns-clause-select c = select_folds

pub returns-clause-resize : goal.returns-clause-resize
returns-clause-resize c = resize_folds

pub returns-clause-index_cast : goal.returns-clause-index_cast
returns-clause-index_cast c = index_cast_folds

pub returns-clause-constant : goal.returns-clause-constant
returns-clause-constant c = constant_folds
