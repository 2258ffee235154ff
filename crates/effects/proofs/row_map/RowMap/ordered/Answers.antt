use Rattle.std.proofs.Common.{sym, subst}
use Rattle.std.specs.List.Sorted.{IsStrictlySortedBy}
use Rattle.std.specs.Ordering.{nat_cmp}
use Rattle.effects.proofs.RowMaps.{keys_whole}
use Rattle.effects.proofs.row_map.RowMap.ordered.Goals as goal

pub returns : goal.returns
returns c = rw (← c.self.view_is) (subst (IsStrictlySortedBy nat_cmp) (sym (keys_whole c.self.inside.sums c.self.inside.heads.entries)) c.ordered.ensures)
