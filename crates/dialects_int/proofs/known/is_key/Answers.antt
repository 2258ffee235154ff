use Rattle.std.proofs.Common.{◌∙◌}
use Rattle.ir_types.specs.Terms.{name_term}
use Rattle.ir_types.specs.WordNames.{word_bytes}
use Rattle.dialects_int.proofs.known.is_key.Goals as goal
use Rattle.ir_types.proofs.Truths.{turned}

pub returns : goal.returns
returns c = c.is_word.ensures ∙ turned (name_term c.args.ctx.now c.args.name) (word_bytes c.args.key)
