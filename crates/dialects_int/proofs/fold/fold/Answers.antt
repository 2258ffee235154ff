use Rattle.std.proofs.Common.{sym, map, arith}
use Rattle.ir_types.specs.Terms.{name_term, type_term}
use Rattle.dialects_int.specs.Folds.{entries_of, known_of}
use Rattle.dialects_int.proofs.FoldShapes.{more_results}
use Rattle.dialects_int.proofs.fold.fold.Goals as goal

pub returns-in_default-2 : goal.returns-in_default-2
returns-in_default-2 c = sym (more_results (name_term c.args.ctx.now c.args.name) (entries_of c.args.ctx.now c.args.props.now) (map known_of c.args.operands.now) (type_term c.args.ctx.now) c.args.results.now (omega arith))
