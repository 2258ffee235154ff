use Rattle.std.proofs.Common.{◌≡◌, ap, subst, true}
use Rattle.ir_event.specs.declared.event.Event.{Event}
use Rattle.greedy.specs.Reached.{reaches}
use Rattle.greedy.specs.Adding.{Adds}
use Rattle.greedy.specs.Parts.{IsOrAtEnd, IsOrEnds, IsReached, IsReachedUpTo, UpTo, leaves}
use Rattle.greedy.proofs.Adding.{on_ok}
use Rattle.greedy.proofs.Skipping.{leaving, put_reached, shift_reached, staying}
use Rattle.greedy.proofs.reach.push_reached.Goals as goal

pub returns-in-Put : goal.returns-in-Put
returns-in-Put c =
    let t = c.args.world.now.store.module_of.tree in
    let e = c.args.event.now in
    let xs = c.args.ops.now.items in
    let ys = c.push_inserted.new.ops.items in
    let op = c.in-Put.op in
    on_ok (Adds (UpTo t c.args.passed (λ x. x ≡ op)) xs ys) (Adds (IsReachedUpTo t c.args.passed e) xs ys) c.push_inserted.result
    (staying t c.args.passed xs ys e (λ x. x ≡ op) (ap leaves c.in-Put.is) (λ x k. put_reached t op c.in-Put.place c.in-Put.fresh x (subst (λ (f : Event). IsReached t f x) c.in-Put.is k))) c.push_inserted.ensures

pub returns-in-Take : goal.returns-in-Take
returns-in-Take c =
    let t = c.args.world.now.store.module_of.tree in
    let e = c.args.event.now in
    let xs = c.args.ops.now.items in
    let ys = c.push_former_neighbours.new.ops.items in
    let near = IsOrAtEnd c.in-Take.op c.in-Take.place t in
    on_ok (Adds near xs ys) (Adds (IsReachedUpTo t c.args.passed e) xs ys) c.push_former_neighbours.result
    (leaving t c.args.passed xs ys e near (ap leaves c.in-Take.is) (λ x k. subst (λ (f : Event). reaches f x t ≡ true) c.in-Take.is k.1)) c.push_former_neighbours.ensures

pub returns-in-SetOperand : goal.returns-in-SetOperand
returns-in-SetOperand c =
    let t = c.args.world.now.store.module_of.tree in
    let e = c.args.event.now in
    let xs = c.args.ops.now.items in
    let ys = c.push_changed.new.ops.items in
    let near = IsOrEnds c.in-SetOperand.op t in
    on_ok (Adds (UpTo t c.args.passed near) xs ys) (Adds (IsReachedUpTo t c.args.passed e) xs ys) c.push_changed.result
    (staying t c.args.passed xs ys e near (ap leaves c.in-SetOperand.is) (λ x k. subst (λ (f : Event). reaches f x t ≡ true) c.in-SetOperand.is k.1)) c.push_changed.ensures

pub returns-in-SetEntry : goal.returns-in-SetEntry
returns-in-SetEntry c =
    let t = c.args.world.now.store.module_of.tree in
    let e = c.args.event.now in
    let xs = c.args.ops.now.items in
    let ys = c.push_changed-in-SetEntry.new.ops.items in
    let near = IsOrEnds c.in-SetEntry.op t in
    on_ok (Adds (UpTo t c.args.passed near) xs ys) (Adds (IsReachedUpTo t c.args.passed e) xs ys) c.push_changed-in-SetEntry.result
    (staying t c.args.passed xs ys e near (ap leaves c.in-SetEntry.is) (λ x k. subst (λ (f : Event). reaches f x t ≡ true) c.in-SetEntry.is k.1)) c.push_changed-in-SetEntry.ensures

pub returns-in-Shift : goal.returns-in-Shift
returns-in-Shift c =
    let t = c.args.world.now.store.module_of.tree in
    let e = c.args.event.now in
    let xs = c.args.ops.now.items in
    let ys = c.push_former_neighbours-in-Shift.new.ops.items in
    let near = IsOrAtEnd c.in-Shift.op c.in-Shift.old t in
    on_ok (Adds near xs ys) (Adds (IsReachedUpTo t c.args.passed e) xs ys) c.push_former_neighbours-in-Shift.result
    (leaving t c.args.passed xs ys e near (ap leaves c.in-Shift.is) (λ x k. shift_reached t c.in-Shift.op c.in-Shift.old c.in-Shift.new x (subst (λ (f : Event). IsReached t f x) c.in-Shift.is k))) c.push_former_neighbours-in-Shift.ensures
