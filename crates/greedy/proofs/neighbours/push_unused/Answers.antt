use Rattle.std.proofs.Common.{◌≡◌, subst, true}
use Rattle.greedy.specs.LocalContext.{is_listed}
use Rattle.greedy.specs.Adding.{Adds}
use Rattle.greedy.specs.Parts.{Gives, GivesUnused}
use Rattle.greedy.proofs.Adding.{on_ok, adds_all_present, adds_as, adds_nothing}
use Rattle.greedy.proofs.neighbours.push_unused.Goals as goal

pub returns-then-is_listed_last : goal.returns-then-is_listed_last
returns-then-is_listed_last c =
    adds_all_present (GivesUnused c.args.store.now.module_of.tree c.args.value.now) c.args.ops.now.items (λ x g. subst (λ xs. is_listed x xs ≡ true) c.deref.ensures.value (c.is_listed_last.ensures c.if-is_listed_last.true x g.0))

pub returns-then-is_used : goal.returns-then-is_used
returns-then-is_used c = adds_nothing (GivesUnused c.args.store.now.module_of.tree c.args.value.now) c.args.ops.now.items (λ x g. c.is_used.ensures.used c.if-is_used.true g.1)

pub returns : goal.returns
returns c =
    let v = c.args.value.now in
    let t = c.args.store.now.module_of.tree in
    on_ok (Adds (Gives v) c.args.ops.now.items c.push_defining_op.new.ops.items) (Adds (GivesUnused t v) c.args.ops.now.items c.push_defining_op.new.ops.items) c.push_defining_op.result
    (adds_as (GivesUnused t v) (Gives v) c.args.ops.now.items c.push_defining_op.new.ops.items (λ x g. g.0)) c.push_defining_op.ensures
