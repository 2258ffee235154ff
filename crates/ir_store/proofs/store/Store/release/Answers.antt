use Rattle.std.proofs.Common.{subst}
use Rattle.std.specs.FinMap as finmap
use Rattle.ir_store.specs.Calls.{Releases}
use Rattle.ir_store.proofs.Releasing.{release_given, release_fits, release_done}
use Rattle.ir_store.proofs.store.Store.release.Goals as goal

pub release_slots-requires-clause-keyed : goal.release_slots-requires-clause-keyed
release_slots-requires-clause-keyed c = record { keyed = c.self.invariant.right.keyed; known = c.self.invariant.right.known }

pub invariant_of-self-inside : goal.invariant_of-self-inside
invariant_of-self-inside c =
    let e = c.release_slots.ensures.released in
    release_given c.self.inside c.self.invariant c.args.from c.release_slots.new.slots e.long e.all (finmap.get c.release_slots.new.keys) e.key

pub invariant_of-self : goal.invariant_of-self
invariant_of-self c =
    let e = c.release_slots.ensures.released in
    release_fits c.self.inside c.self.invariant c.args.from c.release_slots.new.slots e.long e.all (finmap.get c.release_slots.new.keys) e.key c.self-1.given.0 c.release_slots.new.marks.homes c.release_slots.ensures.marked

pub returns : goal.returns
returns c =
    let e = c.release_slots.ensures.released in
    subst (λ s. Releases c.args.from s (record { module_of = record { tree = c.self-1.given.0.0; next = c.self.inside.next }; held = c.self-1.given.1.0.0; gone = c.self-1.given.1.1.0.0 })) c.self.view_is
    (release_done c.self.inside c.self.invariant c.args.from c.release_slots.new.slots e.long e.all (finmap.get c.release_slots.new.keys) e.key c.self-1.given.0 c.self-1.given.1.0 c.self-1.given.1.1.0)
