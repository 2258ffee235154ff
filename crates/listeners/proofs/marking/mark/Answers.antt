use Rattle.std.proofs.Common.{[]}
use Rattle.listeners.specs.Marks.{left_at, queue_of}
use Rattle.listeners.proofs.Steps.{on_ok, started}
use Rattle.listeners.proofs.marking.mark.Goals as goal

pub returns : goal.returns
returns c =
    on_ok _ _ c.settle.result (λ f start. f (c.in_ok-consider_all.ensures.keeps [] (started c.args.roles.now c.args.definitions.now (left_at c.args.left.now) start (queue_of c.new-pending.result)))) c.settle.ensures
