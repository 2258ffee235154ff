use Rattle.std.proofs.Common.{◌≡◌, true, false, true≢false, ap, sym, ◌∙◌, rules}
use Rattle.effects.specs.declared.row.Row.{Row}
use Rattle.effects.specs.Effects.{none}
use Rattle.effects.specs.Walks.{row_at, size}
use Rattle.effects.proofs.Tables.{settle, has_none}
use Rattle.effects.proofs.Climbs.{lose_on, lose_smaller, none_has}
use Rattle.effects.proofs.Changes.{on_true_is}
use Rattle.effects.proofs.RowMaps.{lowered_zero}
use Rattle.effects.proofs.walk.lose_some.Goals as goal

pub returns-then-is_none : goal.returns-then-is_none
returns-then-is_none c ns apart h =
    let yes : c.write.result ≡ true = search rules in
    let step = lose_on (row_at c.loop-at.rows) (row_at c.write.new.rows) c.loop-at.at c.in-Some.op c.loop-at.lost c.minus-lost.result c.in-Some-row_of.row c.without-next.result
    c.in-Some.is (sym c.row_of.ensures ∙ c.in-Some-row_of.is) c.without-next.ensures c.minus-lost.ensures (λ k is. on_true_is c.write.result _ yes c.write.ensures.rows) ns apart (c.loop-at.invariant ns apart h) in
    settle (row_at c.write.new.rows) ns c.in-Some-row_of.row.parent none c.minus-lost.result has_none (none_has c.minus-lost.result (sym c.is_none.ensures ∙ c.if-is_none.true)) step

pub loop-at-smaller : goal.loop-at-smaller
loop-at-smaller c =
    let yes : c.write.result ≡ true = search rules in
    lose_smaller _ _ c.loop-at.lost c.minus-lost.result c.in-Some-row_of.row c.without-next.result c.without-next.ensures c.minus-lost.ensures (sym c.is_none.ensures ∙ c.if-is_none.false)
    (on_true_is c.write.result _ yes c.write.ensures.total size c.in-Some-row_of.row (sym c.row_of.ensures ∙ c.in-Some-row_of.is))

pub loop-at-preserved : goal.loop-at-preserved
loop-at-preserved c ns apart h =
    let yes : c.write.result ≡ true = search rules in
    lose_on (row_at c.loop-at.rows) (row_at c.write.new.rows) c.loop-at.at c.in-Some.op c.loop-at.lost c.minus-lost.result c.in-Some-row_of.row c.without-next.result
    c.in-Some.is (sym c.row_of.ensures ∙ c.in-Some-row_of.is) c.without-next.ensures c.minus-lost.ensures (λ k is. on_true_is c.write.result _ yes c.write.ensures.rows) ns apart (c.loop-at.invariant ns apart h)

pub returns-then-not-write : goal.returns-then-not-write
returns-then-not-write c ns apart h =
    let no : c.write.result ≡ false = search rules in
    let yes = c.write.ensures.kept c.in-Some-row_of.row (sym c.row_of.ensures ∙ c.in-Some-row_of.is) (λ z. ap (λ (r : Row). r.counts) c.without-next.ensures ∙ lowered_zero c.in-Some-row_of.row.counts c.loop-at.lost z) in
    absurd (true≢false (sym yes ∙ no))
