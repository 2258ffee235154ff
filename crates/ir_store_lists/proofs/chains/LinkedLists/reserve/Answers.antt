use Rattle.std.proofs.Common.{◌≡◌, ◌∙◌, ap, arith, max}
use Rattle.ir_store_lists.specs.Lists.{Lists}
use Rattle.ir_store_lists.specs.Ring.{homes}
use Rattle.ir_store_lists.proofs.Grown.{of_all}
use Rattle.ir_store_lists.proofs.Heads.{view_same}
use Rattle.ir_store_lists.proofs.chains.LinkedLists.reserve.Goals as goal

pub returns-in-Ok-clause-made : goal.returns-in-Ok-clause-made
returns-in-Ok-clause-made c =
    let m : c.args.count ≡ max c.self.inside.headroom c.args.count = omega (arith, c.if-count-self.false) in
    view_same c.self.inside.links.items c.reserve.new.self.items c.args.count c.reserve.ensures.items c.self.inside.linked c.self-1.given.0
    ∙ ap (λ z. of_all c.self.inside.linked.0 (homes c.self.inside.links.items) z) m
    ∙ ap {A = Lists} {B = Lists} (λ v. record v { headroom = max v.headroom c.args.count }) c.self.view_is

pub returns-in-Err-clause-refused : goal.returns-in-Err-clause-refused
returns-in-Err-clause-refused c = (
  view_same c.self.inside.links.items c.reserve.new.self.items c.self.inside.headroom c.reserve.ensures.items c.self.inside.linked c.in-Err.self-in-Err-1-own.given.0 ∙ c.self.view_is,
  omega (arith, c.if-count-self.false, ap (λ v. v.headroom) c.self.view_is),
)
