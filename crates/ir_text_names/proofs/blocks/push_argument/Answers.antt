use Rattle.ir_text_tokens.specs.declared.token.Mark.TheVariants.{CloseRound}
use Rattle.ir_text_names.specs.States.{after_in, state_of}
use Rattle.ir_text_names.specs.BlockReading.{arg_at}
use Rattle.ir_text_names.proofs.ItemSteps.{step, no_step}
use Rattle.ir_text_names.proofs.Arguments.{trailing_in}
use Rattle.ir_text_names.proofs.blocks.push_argument.Goals as goal

pub returns-clause-steps : goal.returns-clause-steps
returns-clause-steps c =
    let item = rw c.deref.ensures.value at c.in-Ok.ensures.reads in
    rw c.in_ok-push.ensures.items (step after_in CloseRound (arg_at c.args.id c.args.region) c.args.items.now.items (state_of c.args.bytes.now c.args.scope.now c.args.ctx.now) c.in-Ok.found.0 (state_of c.in-Ok.found.1.now c.argument.new.scope c.argument.new.ctx) c.after_argument.result (λ rest. state_of rest c.argument.new.scope c.argument.new.ctx) item (trailing_in c.argument.new.scope.names c.argument.new.scope.next c.argument.new.ctx c.in-Ok.found.1.now c.after_argument.result c.after_argument.ensures))

pub returns-in-Err-clause-steps : goal.returns-in-Err-clause-steps
returns-in-Err-clause-steps c = no_step after_in CloseRound (arg_at c.args.id c.args.region) c.args.items.now.items (state_of c.args.bytes.now c.args.scope.now c.args.ctx.now) c.in-Err.e (rw c.deref.ensures.value at c.in-Err.ensures.reads)
