use Rattle.std.proofs.Common.{ap, subst}
use Rattle.std.specs.Prelude.{Err}
use Rattle.ir_types.proofs.Growth.{grows_trans}
use Rattle.ir_text_operations.specs.Claims.{IsOnly, IsNone, IsBody}
use Rattle.ir_text_operations.proofs.Modules.{root_is_source, body_is_source, no_source}
use Rattle.ir_text_operations.proofs.module.source.Goals as goal

pub returns-in-Ok-Explicit-clause-read : goal.returns-in-Ok-Explicit-clause-read
returns-in-Ok-Explicit-clause-read c = root_is_source c.args.ctx.now.opaque c.args.bytes.now c.explicit.new.ctx c.in-Ok-Explicit.tree (rw c.in-Ok-Explicit.field-0-is at c.in-Ok-Explicit.ensures.ok)

pub returns-in-Ok-clause-read : goal.returns-in-Ok-clause-read
returns-in-Ok-clause-read c =
    body_is_source c.args.ctx.now.opaque c.args.bytes.now c.implicit.new.ctx c.in-Ok.tree (rw c.in-Ok-Other.field-0-is at c.in-Ok-Other.ensures.ok)
    (subst (λ o. IsOnly (IsBody o c.args.bytes.now) c.implicit.new.ctx c.in-Ok.tree) c.in-Ok-Other.ensures.grows.opaque c.in-Ok.ensures.read)

pub returns-in-Some-clause-refused : goal.returns-in-Some-clause-refused
returns-in-Some-clause-refused c = λ f e.
    no_source c.args.ctx.now.opaque c.args.bytes.now (rw c.in-Ok-Other.field-0-is at c.in-Ok-Other.ensures.ok)
    (subst (λ o. IsNone (IsBody o c.args.bytes.now)) c.in-Ok-Other.ensures.grows.opaque (c.in-Err-Refused.ensures.refused c.in-Err-Refused.fault (ap Err c.in-Err-Refused.field-0-is)))

pub returns-in-Ok-as_written-clause-refused : goal.returns-in-Ok-as_written-clause-refused
returns-in-Ok-as_written-clause-refused c = λ f e.
    no_source c.args.ctx.now.opaque c.args.bytes.now (rw c.in-Ok-Other.field-0-is at c.in-Ok-Other.ensures.ok)
    (subst (λ o. IsNone (IsBody o c.args.bytes.now)) c.in-Ok-Other.ensures.grows.opaque (c.in-Err-Refused.ensures.refused c.in-Err-Refused.fault (ap Err c.in-Err-Refused.field-0-is)))

pub returns-in-Err-as_written-clause-refused : goal.returns-in-Err-as_written-clause-refused
returns-in-Err-as_written-clause-refused c = λ f e.
    no_source c.args.ctx.now.opaque c.args.bytes.now (rw c.in-Ok-Other.field-0-is at c.in-Ok-Other.ensures.ok)
    (subst (λ o. IsNone (IsBody o c.args.bytes.now)) c.in-Ok-Other.ensures.grows.opaque (c.in-Err-Refused.ensures.refused c.in-Err-Refused.fault (ap Err c.in-Err-Refused.field-0-is)))

pub returns-in-Ok-clause-grows : goal.returns-in-Ok-clause-grows
returns-in-Ok-clause-grows c = grows_trans c.args.ctx.now c.explicit.new.ctx c.implicit.new.ctx c.in-Ok-Other.ensures.grows c.in-Ok.ensures.grows

pub returns-in-Some-clause-grows : goal.returns-in-Some-clause-grows
returns-in-Some-clause-grows c = grows_trans c.args.ctx.now c.explicit.new.ctx c.implicit.new.ctx c.in-Ok-Other.ensures.grows c.in-Err-Refused.ensures.grows

pub returns-in-Ok-as_written-clause-grows : goal.returns-in-Ok-as_written-clause-grows
returns-in-Ok-as_written-clause-grows c = grows_trans c.args.ctx.now c.explicit.new.ctx c.as_written.new.ctx c.in-Ok-Other.ensures.grows (grows_trans c.explicit.new.ctx c.implicit.new.ctx c.as_written.new.ctx c.in-Err-Refused.ensures.grows c.in-Ok-as_written.ensures.grows)

pub returns-in-Err-as_written-clause-grows : goal.returns-in-Err-as_written-clause-grows
returns-in-Err-as_written-clause-grows c = grows_trans c.args.ctx.now c.explicit.new.ctx c.as_written.new.ctx c.in-Ok-Other.ensures.grows (grows_trans c.explicit.new.ctx c.implicit.new.ctx c.as_written.new.ctx c.in-Err-Refused.ensures.grows c.in-Err-as_written.ensures.grows)
