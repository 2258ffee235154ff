use Rattle.std.proofs.Common.{◌≡◌, IfOk, sym, subst}
use Rattle.ir_event.specs.declared.event.Event.{Event}
use Rattle.ir_event.specs.declared.event.Event.TheVariants.{Put, Take}
use Rattle.listeners_support.specs.Near.{near, somes}
use Rattle.listeners_support.specs.Gathered.{tree_in}
use Rattle.listeners_support.proofs.Following.{all_fresh}
use Rattle.listeners_support.proofs.fact.near_ops.Goals as goal

pub returns-in-Put-clause-ops : goal.returns-in-Put-clause-ops
returns-in-Put-clause-ops c =
    let t = tree_in c.args.view.now.world.now in
    subst (λ (e : Event). IfOk c.near_put.result (λ v. somes v.items ≡ near e t)) (sym c.in-Put.is)
    (all_fresh c.near_put.result (λ v fresh. somes v.items ≡ near (Put c.in-Put.op c.in-Put.place fresh) t) c.in-Put.fresh c.near_put.ensures.ops)

pub returns-in-Take-clause-ops : goal.returns-in-Take-clause-ops
returns-in-Take-clause-ops c =
    let t = tree_in c.args.view.now.world.now in
    subst (λ (e : Event). IfOk c.near_take.result (λ v. somes v.items ≡ near e t)) (sym c.in-Take.is)
    (all_fresh c.near_take.result (λ v fresh. somes v.items ≡ near (Take c.in-Take.op c.in-Take.place fresh) t) c.in-Take.fresh c.near_take.ensures.ops)
