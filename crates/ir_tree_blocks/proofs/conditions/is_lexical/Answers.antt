use Rattle.std.proofs.Common.{◌∙◌, map}
use Rattle.ir_tree_blocks.specs.Form.{names_in_sight}
use Rattle.ir_tree_blocks.specs.Views.{placed_view}
use Rattle.ir_tree_blocks.proofs.Differing.{all_of_views}
use Rattle.ir_tree_blocks.proofs.conditions.is_lexical.Goals as goal

pub returns : goal.returns
returns c =
    let all = c.args.placed.now.items in
    c.all_name_in_sight.ensures ∙ all_of_views (names_in_sight (map placed_view all)) all
