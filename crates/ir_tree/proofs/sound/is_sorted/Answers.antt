use Rattle.std.proofs.Common.{ap, sym, ◌&&◌, ◌+◌, ℕ, List, drop}
use Rattle.ir_tree.specs.Meaning.{rises, rises_after, key_before_in}
use Rattle.ir_tree.proofs.Steps.{left_next}
use Rattle.ir_tree.proofs.sound.is_sorted.Goals as goal

pub loop-entry-preserved : goal.loop-entry-preserved
loop-entry-preserved c =
    let before = key_before_in c.args.ctx.now in
    let xs = c.in-Some.rest.now in
    let n = c.loop-entry.entry-index in
    let key = c.entry-item.result.0 in
    let left = λ (last : ℕ) (xs : List (ℕ × ℕ)). rises_after before last xs in
    left_next (left c.loop-entry.last) (left key) xs n c.entry-item.result (rises before c.args.entries.now.items) c.loop-entry-test.true c.entry-item.is (ap (λ b. b && left key (drop (n + 1) xs)) (sym c.if-not-comes_before.ensures)) c.loop-entry.invariant
