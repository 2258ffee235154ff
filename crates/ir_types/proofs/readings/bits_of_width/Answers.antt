use Rattle.std.proofs.Common.{◌∙◌, sym}
use Rattle.ir_types.proofs.ReadingLaws.{literal_small}
use Rattle.ir_types.proofs.readings.bits_of_width.Goals as goal

pub complement-requires-clause-small : goal.complement-requires-clause-small
complement-requires-clause-small c =
    literal_small c.args.sign c.args.width c.args.negative c.args.magnitude c.requires.low (sym c.is_literal_of_width.ensures ∙ c.if-is_literal_of_width.true)
