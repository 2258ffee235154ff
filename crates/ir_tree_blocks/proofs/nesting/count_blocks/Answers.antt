use Rattle.std.proofs.Common.{rules, ◌≡◌, ◌∙◌, ap, sym, length}
use Rattle.std.proofs.lemmas.List.{length-map}
use Rattle.ir_tree_blocks.specs.Views.{placed_view}
use Rattle.ir_tree_blocks.proofs.nesting.count_blocks.Goals as goal

pub returns : goal.returns
returns c =
    let count : c.len.result ≡ length c.in_ok-placed.placed.items = search rules in
    count ∙ sym (length-map c.in_ok-placed.placed.items placed_view) ∙ ap length c.in_ok-placed.ensures
