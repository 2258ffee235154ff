use Rattle.std.proofs.Common.{refl}
use Rattle.ir_event.specs.types.Terms.{type_term}
use Rattle.patterns.proofs.Numbers.{type_keeps}
use Rattle.patterns.proofs.Standing.{constant_edits_stand}
use Rattle.patterns.proofs.plans.constant.Goals as goal

pub returns-clause-stands : goal.returns-clause-stands
returns-clause-stands g c =
    constant_edits_stand c.value_attr.new.bench.transaction.ctx c.is_wellformed.ensures.context c.args.site.now c.args.ty (type_term c.args.bench.now.transaction.ctx c.args.ty)
    (type_keeps c.args.bench.now.transaction.ctx c.value_attr.new.bench.transaction.ctx c.args.ty _ c.in-Ok.ensures.added.grown.grows (c.requires.of, refl))
    c.in-Ok.value c.args.bits c.in-Ok.ensures.ok _ refl
