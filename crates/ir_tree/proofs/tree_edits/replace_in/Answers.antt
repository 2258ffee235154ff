use Rattle.std.proofs.Common.{◌∙◌, ap, sym, subst, ℕ, ◌<◌, ◌≤◌, map}
use Rattle.ir_tree.specs.Edits.{put_value}
use Rattle.ir_tree.proofs.Steps.{write_next, write_all}
use Rattle.ir_tree.proofs.tree_edits.replace_in.Goals as goal

pub loop-value-preserved : goal.loop-value-preserved
loop-value-preserved c =
    let f = put_value c.args.old.now c.args.new.now in
    let n = c.loop-value.value-index in
    let within = subst (λ (k : ℕ). n < k) (sym c.loop-value.auto.value-items) c.loop-value-test.true in
    write_next f c.loop-value.value-items n c.value-item.result c.exchanged.result (map f c.args.values.now) within c.value-item.is (c.exchanged.ensures ∙ ap f (sym c.value-item.is)) c.loop-value.invariant

pub returns : goal.returns
returns c =
    let f = put_value c.args.old.now c.args.new.now in
    let n = c.loop-value.value-index in
    let past = subst (λ (k : ℕ). k ≤ n) (sym c.loop-value.auto.value-items) c.loop-value-test.false in
    write_all f c.loop-value.value-items n (map f c.args.values.now) past c.loop-value.invariant
