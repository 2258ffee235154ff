use Rattle.std.proofs.Common.{◌∙◌, ap, not}
use Rattle.conversion_base.proofs.Named.{same_once}
use Rattle.conversion_base.proofs.target_checks.have_no_duplicates.Goals as goal

pub returns : goal.returns
returns c = ap not c.repeats.ensures ∙ same_once c.args.ctx.now c.sound.ensures c.args.names.now c.requires.names
