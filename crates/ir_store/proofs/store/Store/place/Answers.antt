use Rattle.std.proofs.Common.{sym, ap, ◌∙◌, subst}
use Rattle.ir_store_reads.specs.trees.Places.{place_of}
use Rattle.ir_store.proofs.Called.{rows_in, keys_in}
use Rattle.ir_store_reads.proofs.SlotLaws.{Found, found}
use Rattle.ir_store.proofs.Standing.{some_place, root_placeless, place_missing}
use Rattle.ir_store.proofs.store.Store.place.Goals as goal

pub place_at-requires : goal.place_at-requires
place_at-requires c =
    let a = c.self.inside in
    let f = found (rows_in a) (keys_in a) a.sibs a.root a.represented.0 c.self.invariant.right a.represented.1 c.args.op c.in-Some.key (sym c.in-Some.ensures) in
    (c.self.invariant.right.items c.in-Some.key f.live c.if-key-self.false).item

pub returns-in_default : goal.returns-in_default
returns-in_default c =
    let a = c.self.inside in
    sym (place_missing (rows_in a) (keys_in a) a.sibs a.root a.represented.0 c.self.invariant.right a.represented.1 c.laws.ensures c.args.op (sym c.in_default.ensures)) ∙ ap (λ s. place_of c.args.op s.module_of.tree) c.self.view_is

pub returns-then-key-self : goal.returns-then-key-self
returns-then-key-self c =
    let a = c.self.inside in
    let f = found (rows_in a) (keys_in a) a.sibs a.root a.represented.0 c.self.invariant.right a.represented.1 c.args.op c.in-Some.key (sym c.in-Some.ensures) in
    sym (root_placeless (rows_in a) (keys_in a) a.sibs a.root a.represented.0 c.self.invariant.right a.represented.1 c.laws.ensures c.self.invariant.distinct c.args.op (subst (Found (rows_in a) c.args.op) c.if-key-self.true f)) ∙ ap (λ s. place_of c.args.op s.module_of.tree) c.self.view_is

pub returns : goal.returns
returns c =
    let a = c.self.inside in
    let f = found (rows_in a) (keys_in a) a.sibs a.root a.represented.0 c.self.invariant.right a.represented.1 c.args.op c.in-Some.key (sym c.in-Some.ensures) in
    c.place_at.ensures ∙ sym (some_place (rows_in a) (keys_in a) a.sibs a.root a.represented.0 c.self.invariant.right a.represented.1 c.laws.ensures c.args.op c.in-Some.key f c.if-key-self.false) ∙ ap (λ s. place_of c.args.op s.module_of.tree) c.self.view_is
