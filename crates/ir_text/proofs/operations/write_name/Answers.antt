use Rattle.ir_text.proofs.operations.write_name.Goals as goal

pub returns : goal.returns
returns c =
    rw (← c.op.view_is, c.in_ok-write_properties.ensures, c.in_ok-write_operands.ensures c.args.ctx.now, c.in_ok-print_string.ensures, c.name_of.ensures, c.deref.ensures.value, c.deref-2.ensures.value)
