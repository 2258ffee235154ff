use Rattle.std.proofs.Common.{map}
use Rattle.dialects_int.specs.Folds.{known_of}
use Rattle.user_patterns_apply.proofs.Additions.{constant_untyped}
use Rattle.user_patterns_apply.proofs.building.make_constant.Goals as goal

pub returns-in_default-type_at-clause-made : goal.returns-in_default-type_at-clause-made
returns-in_default-type_at-clause-made c n = constant_untyped c.args.ctx.now n c.args.types.now (map known_of c.args.env.now) c.args.operands.now c.args.place c.args.number (c.in_default-type_at.ensures.is c.args.ctx.now)
