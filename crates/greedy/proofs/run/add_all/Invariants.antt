use Rattle.std.proofs.Common.{◌≡◌, ◌⊎◌, ℕ, length, true}
use Rattle.ir_event.specs.trees.Ids.{has_id}
use Rattle.greedy.specs.Work.{IsWork, StillWaits, waits}
use Rattle.greedy.specs.LocalContext.{is_listed}
use Rattle.greedy.proofs.run.add_all.Given as goal

abbrev pub invariant-ops : goal.invariant-ops
invariant-ops g l =
    let t = (g.R.GreedyRewriter.held l.fn.bench).tree in
    IsWork l.work.passed l.work.again.items t
    × (StillWaits l.fn.work.passed l.fn.work.again.items t l.work.passed l.work.again.items t
    × ((z : ℕ) → is_listed z l.fn.ops ≡ true → has_id z t ≡ true → (is_listed z l.rest ≡ true) ⊎ (waits l.work.passed l.work.again.items t z ≡ true)))

abbrev pub decreases-ops : goal.decreases-ops
decreases-ops g l = length l.rest
