use Rattle.std.proofs.Common.{sym, ◌∙◌}
use Rattle.ir_store_reads.proofs.Apart.{apart}
use Rattle.ir_store_reads.proofs.neighbours.goes_before.Goals as goal

pub returns-in_default-home : goal.returns-in_default-home
returns-in_default-home c =
    sym (apart c.args.sibs.now.lists c.args.sibs.now.homes c.laws.ensures c.args.node c.args.trailing _ (λ e. c.in-Some.ensures.1 (c.in-Some.ensures.0 ∙ sym e ∙ c.in_default-home.ensures)))

pub returns-else-home-other : goal.returns-else-home-other
returns-else-home-other c =
    sym (apart c.args.sibs.now.lists c.args.sibs.now.homes c.laws.ensures c.args.node c.args.trailing _ (λ e. c.if-home-other.false (c.in-Some.ensures.0 ∙ sym e ∙ sym c.in-Some-home.ensures.0)))
