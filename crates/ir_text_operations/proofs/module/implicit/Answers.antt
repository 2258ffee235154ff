use Rattle.std.proofs.Common.{inl}
use Rattle.ir_text_types.specs.declared.error.ReadError.TheVariants as errors
use Rattle.ir_text_names.specs.States.{state_of}
use Rattle.ir_types.proofs.Growth.{grows_trans}
use Rattle.ir_text_operations.proofs.Modules.{body_read_in, body_wrong_in, named_module, name_fills, error_is}
use Rattle.ir_text_operations.proofs.module.implicit.Goals as goal
use Rattle.ir_text_attributes.proofs.Singles.{fails_wrong}

pub returns-in-Err-ops-clause-refused : goal.returns-in-Err-ops-clause-refused
returns-in-Err-ops-clause-refused c = λ f e.
    body_wrong_in c.args.ctx.now.opaque c.args.bytes.now c.module_name.new.ctx c.in-Ok.ensures.grows.opaque c.sound.ensures (fails_wrong c.in-Err-ops.e _ f (rw c.new.ensures at c.in-Err-ops.ensures.reads) e)

pub returns-in-Ok-root_of-clause-read : goal.returns-in-Ok-root_of-clause-read
returns-in-Ok-root_of-clause-read c =
    let named = named_module c.args.ctx.now c.module_name.new.ctx c.in-Ok.name c.in-Ok.ensures.ok in
    rw c.in-Ok-root_of.ensures
    (body_read_in c.args.ctx.now.opaque c.args.bytes.now c.module_name.new.ctx c.in-Ok.name _ (state_of _ c.ops.new.scope c.ops.new.ctx) c.in-Ok.ensures.grows.opaque c.sound.ensures named.0 named.1 (rw c.new.ensures at c.in-Ok-ops.ensures.reads))

pub returns-in-Err-clause-full : goal.returns-in-Err-clause-full
returns-in-Err-clause-full c = λ left e. inl (name_fills c.args.ctx.now (c.in-Err.ensures.full left (error_is c.in-Err.e (errors.Full left) e)))

pub returns-in-Err-ops-clause-grows : goal.returns-in-Err-ops-clause-grows
returns-in-Err-ops-clause-grows c = grows_trans c.args.ctx.now c.module_name.new.ctx c.ops.new.ctx c.in-Ok.ensures.grows c.in-Err-ops.ensures.grows

pub returns-in-Ok-root_of-clause-grows : goal.returns-in-Ok-root_of-clause-grows
returns-in-Ok-root_of-clause-grows c = grows_trans c.args.ctx.now c.module_name.new.ctx c.ops.new.ctx c.in-Ok.ensures.grows c.in-Ok-ops.ensures.grows
