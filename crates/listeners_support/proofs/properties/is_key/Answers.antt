use Rattle.std.proofs.Common.{◌∙◌}
use Rattle.ir_event.specs.types.Terms.{name_term}
use Rattle.ir_event.specs.types.WordNames.{word_bytes}
use Rattle.ir_event.proofs.Truths.{turned}
use Rattle.listeners_support.proofs.properties.is_key.Goals as goal

pub returns : goal.returns
returns c = c.is_word.ensures ∙ turned (name_term c.args.ctx.now c.args.name) (word_bytes c.args.key)
