use Rattle.std.proofs.Common.{◌∙◌}
use Rattle.conversion_base.proofs.Named.{same_among}
use Rattle.conversion_base.proofs.target_checks.is_among.Goals as goal

pub returns : goal.returns
returns c = c.has.ensures ∙ same_among c.args.ctx.now c.sound.ensures c.args.name c.args.names.now c.requires.name c.requires.names
