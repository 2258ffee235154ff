use Rattle.std.proofs.Common.{◌+◌, ap, ◌∙◌, arith}
use Rattle.ir_text_tokens.specs.declared.token.Mark.TheVariants.{CloseRound}
use Rattle.ir_types.proofs.Growth.{grows_trans}
use Rattle.ir_text_types.proofs.ListSteps.{is_full}
use Rattle.ir_text_names.specs.States.{after_in, state_of}
use Rattle.ir_text_names.specs.BlockReading.{arg_at}
use Rattle.ir_text_names.proofs.ItemSteps.{closes, fails, goes_on}
use Rattle.ir_text_names.proofs.blocks.push_arguments.Goals as goal

pub returns-in-Ok-End-clause-reads : goal.returns-in-Ok-End-clause-reads
returns-in-Ok-End-clause-reads c = closes after_in CloseRound (arg_at c.args.id c.args.region) c.items.items.items 256 c.items.counter (state_of c.items.rest.now c.items.scope c.items.ctx) _ c.items.invariant.reads c.items-test.true c.push_argument.new.items.items (state_of c.in-Ok-End.end.now c.push_argument.new.scope c.push_argument.new.ctx) (rw c.in-Ok-End.field-0-is at c.in-Ok-End.ensures.steps)

pub items-preserved : goal.items-preserved
items-preserved c = record {
  reads = goes_on after_in CloseRound (arg_at c.args.id c.args.region) c.items.items.items 256 c.items.counter (state_of c.items.rest.now c.items.scope c.items.ctx) _ c.items.invariant.reads c.items-test.true c.push_argument.new.items.items (state_of c.in-Ok-More.more.now c.push_argument.new.scope c.push_argument.new.ctx) (rw c.in-Ok-More.field-0-is at c.in-Ok-More.ensures.steps);
  grows = grows_trans c.args.ctx.now c.items.ctx c.push_argument.new.ctx c.items.invariant.grows c.in-Ok-More.ensures.grows;
  count = c.in-Ok-More.ensures.one ∙ ap (λ n. n + 1) c.items.invariant.count;
}

pub returns-in-Err-clause-reads : goal.returns-in-Err-clause-reads
returns-in-Err-clause-reads c = fails after_in CloseRound (arg_at c.args.id c.args.region) c.items.items.items 256 c.items.counter (state_of c.items.rest.now c.items.scope c.items.ctx) _ c.items.invariant.reads c.items-test.true c.in-Err.e c.in-Err.ensures.steps

pub returns-clause-reads : goal.returns-clause-reads
returns-clause-reads c = is_full after_in CloseRound (arg_at c.args.id c.args.region) c.items.items.items 256 c.items.counter (state_of c.items.rest.now c.items.scope c.items.ctx) _ c.items.invariant.reads (omega (arith, c.items-test.false))
