use Rattle.ir_text_names.specs.States.{state_of}
use Rattle.ir_text_names.proofs.Arguments.{no_name, no_type, not_bound, is_bound}
use Rattle.ir_text_names.proofs.blocks.argument.Goals as goal

pub returns-in-Err-clause-reads : goal.returns-in-Err-clause-reads
returns-in-Err-clause-reads c = no_name c.args.id c.args.region c.args.before.now (state_of c.args.bytes.now c.args.scope.now c.args.ctx.now) c.in-Err.e c.in-Err.ensures

pub returns-in-Err-colon_type-clause-reads : goal.returns-in-Err-colon_type-clause-reads
returns-in-Err-colon_type-clause-reads c = no_type c.args.id c.args.region c.args.before.now (state_of c.args.bytes.now c.args.scope.now c.args.ctx.now) (c.in-Ok.found.0.now, c.in-Ok.found.1.now) c.in-Ok.ensures c.in-Err-colon_type.e c.sooner.result c.sooner.ensures c.in-Err-colon_type.ensures.reads

pub returns-in-Ok-bind-clause-reads : goal.returns-in-Ok-bind-clause-reads
returns-in-Ok-bind-clause-reads c = is_bound c.args.id c.args.region c.args.before.now (state_of c.args.bytes.now c.args.scope.now c.args.ctx.now) (c.in-Ok.found.0.now, c.in-Ok.found.1.now) c.in-Ok.ensures c.in-Ok-colon_type.found.0 (c.in-Ok-colon_type.found.1.now, c.colon_type.new.ctx) c.in-Ok-colon_type.ensures.reads c.bind.new.names (rw (c.one-pack.ensures, c.new.ensures) at c.in-Ok-bind.ensures)

pub returns-in-Err-bind-clause-reads : goal.returns-in-Err-bind-clause-reads
returns-in-Err-bind-clause-reads c = not_bound c.args.id c.args.region c.args.before.now (state_of c.args.bytes.now c.args.scope.now c.args.ctx.now) (c.in-Ok.found.0.now, c.in-Ok.found.1.now) c.in-Ok.ensures c.in-Ok-colon_type.found.0 (c.in-Ok-colon_type.found.1.now, c.colon_type.new.ctx) c.in-Ok-colon_type.ensures.reads c.in-Err-bind.e (rw (c.one-pack.ensures, c.new.ensures) at c.in-Err-bind.ensures)
