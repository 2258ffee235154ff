use Rattle.std.proofs.Common.{sym, ◌∙◌, ap, ◌++◌, ◌∷◌, [], refl, append_assoc}
use Rattle.ir_store_reads.specs.trees.Ids.{find}
use Rattle.ir_store_reads.proofs.of_tree_laws.Around.{absent_find}
use Rattle.ir_store.specs.Ends.{ids_in}
use Rattle.ir_store.proofs.Ends.{step_less}
use Rattle.ir_store.proofs.store.Store.last_within.Goals as goal

pub returns-then-not-in_tree : goal.returns-then-not-in_tree
returns-then-not-in_tree c = absent_find c.args.op c.args.self.now.module_of.tree (sym c.in_tree.ensures ∙ c.if-not-in_tree.true)

pub inside-init : goal.inside-init
inside-init c = (sym c.in_tree.ensures ∙ c.if-not-in_tree.false, ([], refl))

pub inside-smaller : goal.inside-smaller
inside-smaller c =
    let t = c.args.self.now.module_of.tree in
    step_less (ids_in (find c.inside.at t)) c.in-Some.ensures.before (ids_in (find c.in-Some.last t)) c.in-Some.ensures.preceding c.in-Some.ensures.is

pub inside-preserved : goal.inside-preserved
inside-preserved c =
    let t = c.args.self.now.module_of.tree in
    let w = c.in-Some.ensures in
    let i = c.inside.invariant in (
      w.there,
      (i.1.0 ++ (w.preceding ∷ w.before), i.1.1 ∙ ap (λ z. i.1.0 ++ z) w.is ∙ sym (append_assoc i.1.0 (w.preceding ∷ w.before) (ids_in (find c.in-Some.last t)))),
    )

pub returns : goal.returns
returns c = (c.inside.invariant.1.0, c.inside.invariant.1.1 ∙ ap (λ z. c.inside.invariant.1.0 ++ z) c.in_default.ensures)
