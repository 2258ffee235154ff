use Rattle.std.proofs.Common.{◌≡◌, subst, map, List, true}
use Rattle.std.specs.Prelude.{IsPermutation}
use denote.Ref.{Bor}
use Rattle.std.proofs.lemmas.List.Sorted.{IsPermutation-map}
use Rattle.ir_tree.specs.Tree.{Op, head}
use Rattle.ir_tree.specs.Meaning.{meaning}
use Rattle.ir_tree_blocks.specs.Flat.{FlatBlock}
use Rattle.ir_tree_blocks.specs.Scopes.{label_of}
use Rattle.ir_tree_blocks.specs.Inside.{inside_of, under_region}
use Rattle.ir_tree_blocks.specs.Read.{region_meaning}
use Rattle.ir_tree_blocks.proofs.TextOrder.{climbs_from, climbs_mapped, sorted_only}
use Rattle.ir_tree_blocks.proofs.text_order.scopes_in_text_order.Goals as goal

pub returns : goal.returns
returns c = λ d.
    let view = λ (b : Bor Op). inside_of (meaning c.args.ctx.now b.now) in
    let under = under_region (region_meaning c.args.ctx.now c.args.region.now) in
    let old = c.in_ok-scopes.scopes.items in
    let new = c.sort.new.scopes.items in
    sorted_only under (map view new) d (subst (λ (bs : List FlatBlock). IsPermutation bs (map view new)) c.in_ok-scopes.ensures (IsPermutation-map view old new c.in_ok-sort.ensures.moved))
    (climbs_mapped view (λ (b : FlatBlock). b.label) new (climbs_from (λ (b : Bor Op). label_of (head (meaning c.args.ctx.now b.now))) new c.in_ok-sort.ensures.rising))
