use Rattle.std.proofs.Common.{◌≡◌, ◌+◌, ◌<◌, ap, refl, length, arith, inr}
use Rattle.ir_store_lists.specs.Lists.{free}
use Rattle.ir_store_lists.proofs.Grown.{grow_linked, view_grown}
use Rattle.ir_store_lists.proofs.chains.LinkedLists.new_node.Goals as goal

pub invariant_of-self-inside : goal.invariant_of-self-inside
invariant_of-self-inside c =
    let l = c.self.inside.links.items in
    let e : c.len-node.result ≡ length l = omega (arith, c.len-node.ensures, c.self.inside.links.ok.0) in
    let small : length l + 1 < free = omega (arith, c.self.invariant.few, c.requires, ap (λ v. v.headroom) c.self.view_is) in
    (grow_linked l c.grow.new.links.items free (inr refl) small c.grow.ensures.items c.self.inside.linked, tt)

pub returns-clause-added : goal.returns-clause-added
returns-clause-added c =
    let l = c.self.inside.links.items in
    let e : c.len-node.result ≡ length l = omega (arith, c.len-node.ensures, c.self.inside.links.ok.0) in
    let small : length l + 1 < free = omega (arith, c.self.invariant.few, c.requires, ap (λ v. v.headroom) c.self.view_is) in
    view_grown l c.grow.new.links.items free c.self.inside.headroom (inr refl) small c.grow.ensures.items c.self.inside.linked c.self-1.given.0 c.args.self.now c.self.view_is
