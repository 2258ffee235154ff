use Rattle.std.proofs.Common.{◌∙◌, ap, map, option_map}
use Rattle.ir_event.specs.types.Terms.{type_term}
use Rattle.patterns_regions.proofs.Viewed.{block_types, pointed}
use Rattle.patterns_regions.proofs.block.block_arguments.Goals as goal

pub returns : goal.returns
returns c t o e = pointed (map (type_term t)) c.arguments.result ∙ ap (option_map (map (type_term t))) c.arguments.ensures ∙ block_types t c.args.node.now o c.args.region e
