use Rattle.std.proofs.Common.{◌≡◌, ◌-◌, length}
use Rattle.ir_text_tokens.specs.declared.token.Mark.TheVariants.{CloseRound}
use Rattle.ir_types.specs.Things.{IsExtendedBy}
use Rattle.ir_text_types.specs.Lists.{more_at}
use Rattle.ir_text_names.specs.States.{after_in, state_of}
use Rattle.ir_text_names.specs.BlockReading.{arg_at, args_at}
use Rattle.ir_text_names.proofs.blocks.push_arguments.Given as goal

abbrev pub invariant-items : goal.invariant-items
invariant-items l = record {
  reads : more_at after_in CloseRound (arg_at l.id l.region) (256 - l.counter) l.items.items (state_of l.rest l.scope l.ctx) ≡ args_at l.id l.region (state_of l.bytes l.fn.scope l.fn.ctx);
  grows : IsExtendedBy l.fn.ctx l.ctx;
  count : length l.items.items ≡ l.counter;
}
