use Rattle.std.proofs.Common.{sym, ◌∙◌}
use Rattle.ir_text_modules.proofs.Defining.{gap_shorter, gap_step}
use Rattle.ir_text_modules.proofs.definitions.next.Goals as goal

pub returns-then-is_gap-clause-on : goal.returns-then-is_gap-clause-on
returns-then-is_gap-clause-on c =
    gap_step c.args.known.now.values.items c.args.known.now.names.here c.args.trailing.now c.args.byte c.args.all.now c.args.tail.now c.after_lexeme.result.now c.requires.all (sym c.is_gap.ensures ∙ c.if-is_gap.true) c.after_lexeme.ensures

pub returns-then-is_gap-clause-shorter : goal.returns-then-is_gap-clause-shorter
returns-then-is_gap-clause-shorter c = gap_shorter c.args.byte c.args.tail.now c.after_lexeme.result.now c.after_lexeme.ensures
