use Rattle.std.proofs.Common.{◌∙◌, arith}
use Rattle.patterns_regions.proofs.Viewed.{no_block, some_block, seen}
use Rattle.patterns_regions.proofs.block.has_block.Goals as goal

pub returns-then-region-region_count : goal.returns-then-region-region_count
returns-then-region-region_count c t o e = no_block t c.args.node.now o c.args.region e (omega arith)

pub returns : goal.returns
returns c t o e = some_block t c.args.node.now o c.args.region e (omega arith) c.is_some.result (c.is_some.ensures ∙ seen c.arguments.result _ c.arguments.ensures)
