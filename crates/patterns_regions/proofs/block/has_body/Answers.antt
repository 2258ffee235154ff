use Rattle.std.proofs.Common.{◌∙◌, ap}
use Rattle.std.specs.Prelude.{is_some}
use Rattle.patterns_regions.specs.Blocks.{ended_with}
use Rattle.patterns_regions.proofs.Tested.{mapped_some}
use Rattle.patterns_regions.proofs.block.has_body.Goals as goal

pub returns : goal.returns
returns c =
    c.is_some.ensures ∙ mapped_some (ended_with c.args.world.now c.args.op c.args.region) c.in_ok-last.last
    ∙ ap is_some c.in_ok-last.ensures.last
