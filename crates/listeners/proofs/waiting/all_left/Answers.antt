use Rattle.std.proofs.Common.{◌∙◌, ap, sym}
use Rattle.listeners_symbols.specs.Lines.{numbers_at}
use Rattle.listeners.specs.Marks.{left_at, those_added}
use Rattle.listeners.proofs.Silent.{all_hidden}
use Rattle.listeners.proofs.waiting.all_left.Goals as goal

pub loop-op-preserved : goal.loop-op-preserved
loop-op-preserved c z =
    ap (those_added (numbers_at c.args.roles.now) z c.next.new.self) (c.in_ok-add_at.ensures z)
    ∙ ap (λ l. those_added (numbers_at c.args.roles.now) z l (left_at c.loop-op.left z)) (sym c.in-Some.ensures.steps) ∙ c.loop-op.invariant z

pub returns : goal.returns
returns c z = ap (λ l. those_added (numbers_at c.args.roles.now) z l (left_at c.loop-op.left z)) (sym c.in-None.ensures.steps.0) ∙ c.loop-op.invariant z ∙ all_hidden c.args.roles.now z
