use Rattle.std.proofs.Common.{◌≡◌, ap, sym, ◌∙◌, Some, None, rules}
use Rattle.listeners_support.specs.Map as idmap
use Rattle.effects.specs.RowMaps.{row_of_head}
use Rattle.effects.proofs.RowMaps.{look_with}
use Rattle.effects.proofs.row_map.row_in.Goals as goal

pub returns-in_default : goal.returns-in_default
returns-in_default c =
    let none : idmap.get c.args.heads.now c.args.id ≡ None = search rules in
    look_with c.args.sums.now c.args.heads.now c.args.id None none

pub returns : goal.returns
returns c =
    let some : idmap.get c.args.heads.now c.args.id ≡ Some c.in-Some.head = sym c.head_in.ensures ∙ c.in-Some.is in
    ap Some (c.row.ensures ∙ (λ i. row_of_head (c.counts_in.ensures i) c.in-Some.head)) ∙ look_with c.args.sums.now c.args.heads.now c.args.id (Some c.in-Some.head) some
