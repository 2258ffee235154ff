use Rattle.std.proofs.Common.{◌≡◌, true, sym, ◌∙◌, rules}
use Rattle.effects.specs.Effects.{none}
use Rattle.effects.specs.Walks.{row_at, headroom, gained_row}
use Rattle.effects.proofs.Tables.{settle, has_none}
use Rattle.effects.proofs.Climbs.{gain_on, gain_smaller, none_has}
use Rattle.effects.proofs.Changes.{on_true_is}
use Rattle.effects.proofs.walk.gain_some.Goals as goal

pub returns-then-is_none : goal.returns-then-is_none
returns-then-is_none c ns apart h =
    let yes : c.write.result ≡ true = search rules in
    let made : c.in-Some-with.next ≡ gained_row c.in-Some-row_of.row c.loop-at.gained = search rules in
    let step = gain_on (row_at c.loop-at.rows) (row_at c.write.new.rows) c.loop-at.at c.in-Some.op c.loop-at.gained c.minus-gained.result c.in-Some-row_of.row c.in-Some-with.next
    c.in-Some.is (sym c.row_of.ensures ∙ c.in-Some-row_of.is) made c.minus-gained.ensures (λ k is. on_true_is c.write.result _ yes c.write.ensures.rows) ns apart (c.loop-at.invariant ns apart h) in
    settle (row_at c.write.new.rows) ns c.in-Some-row_of.row.parent c.minus-gained.result none (none_has c.minus-gained.result (sym c.is_none.ensures ∙ c.if-is_none.true)) has_none step

pub loop-at-smaller : goal.loop-at-smaller
loop-at-smaller c =
    let yes : c.write.result ≡ true = search rules in
    let made : c.in-Some-with.next ≡ gained_row c.in-Some-row_of.row c.loop-at.gained = search rules in
    gain_smaller _ _ c.loop-at.gained c.minus-gained.result c.in-Some-row_of.row c.in-Some-with.next made c.minus-gained.ensures (sym c.is_none.ensures ∙ c.if-is_none.false)
    (on_true_is c.write.result _ yes c.write.ensures.total headroom c.in-Some-row_of.row (sym c.row_of.ensures ∙ c.in-Some-row_of.is))

pub loop-at-preserved : goal.loop-at-preserved
loop-at-preserved c ns apart h =
    let yes : c.write.result ≡ true = search rules in
    let made : c.in-Some-with.next ≡ gained_row c.in-Some-row_of.row c.loop-at.gained = search rules in
    gain_on (row_at c.loop-at.rows) (row_at c.write.new.rows) c.loop-at.at c.in-Some.op c.loop-at.gained c.minus-gained.result c.in-Some-row_of.row c.in-Some-with.next
    c.in-Some.is (sym c.row_of.ensures ∙ c.in-Some-row_of.is) made c.minus-gained.ensures (λ k is. on_true_is c.write.result _ yes c.write.ensures.rows) ns apart (c.loop-at.invariant ns apart h)
