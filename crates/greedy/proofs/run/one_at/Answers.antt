use Rattle.std.proofs.Common.{◌∙◌, refl, sym, subst, true, false}
use Rattle.std.specs.Prelude.{is_some}
use Rattle.greedy.specs.Outcomes.{Applied, Refuses}
use Rattle.greedy.specs.Ruled.{model_of}
use Rattle.greedy.proofs.Noting.{noted_none}
use Rattle.greedy.proofs.OnlyAt.{next_gone, next_there, recorded_none, recorded_there}
use Rattle.greedy.proofs.Scans.{gave}
use Rattle.greedy.proofs.Traces.{not_applied, reported_as}
use Rattle.greedy.proofs.run.one_at.Goals as goal

pub returns-then-not-in_tree-clause-ok : goal.returns-then-not-in_tree-clause-ok
returns-then-not-in_tree-clause-ok g c =
    let m = g.R.GreedyRewriter.held c.args.bench.now in
    subst (λ w. Applied w false m m) (sym (next_gone c.args.op (model_of c.args.entries.now) m (sym c.in_tree.ensures ∙ c.if-not-in_tree.true))) (refl, refl)

pub returns-then-not-in_tree-clause-applied : goal.returns-then-not-in_tree-clause-applied
returns-then-not-in_tree-clause-applied g c =
    let m = g.R.GreedyRewriter.held c.args.bench.now in
    let a = model_of c.args.entries.now in
    sym (recorded_none c.args.op a m (next_gone c.args.op a m (sym c.in_tree.ensures ∙ c.if-not-in_tree.true)))

pub returns-then-not-in_tree-clause-journal : goal.returns-then-not-in_tree-clause-journal
returns-then-not-in_tree-clause-journal g c = noted_none (g.R.GreedyRewriter.transaction c.args.bench.now)

pub returns-then-not-in_tree-clause-onward : goal.returns-then-not-in_tree-clause-onward
returns-then-not-in_tree-clause-onward g c = g.R.GreedyRewriter.stays c.args.bench.now

pub returns-in-Ok-Some-clause-ok : goal.returns-in-Ok-Some-clause-ok
returns-in-Ok-Some-clause-ok g c =
    let m = g.R.GreedyRewriter.held c.args.bench.now in
    let n = g.R.GreedyRewriter.held c.apply_first.new.self in
    let a = model_of c.args.entries.now in
    subst (λ w. Applied w true m n) (sym (next_there c.args.op a m (sym c.in_tree.ensures ∙ c.if-not-in_tree.false)))
    (subst (λ f. Applied (a.comes m c.args.op) (is_some f) m n) c.in-Ok-Some.field-0-is c.in-Ok-Some.ensures.ok)

pub returns-in-Ok-Some-clause-applied : goal.returns-in-Ok-Some-clause-applied
returns-in-Ok-Some-clause-applied g c =
    let m = g.R.GreedyRewriter.held c.args.bench.now in
    let n = g.R.GreedyRewriter.held c.apply_first.new.self in
    let a = model_of c.args.entries.now in
    let became = gave (a.comes m c.args.op) true m n refl (subst (λ f. Applied (a.comes m c.args.op) (is_some f) m n) c.in-Ok-Some.field-0-is c.in-Ok-Some.ensures.ok) in
    reported_as c.in-Ok-Some.by c.args.op m n c.next_id-from.result c.next_id.result c.in_tree-stays.result c.next_id-from.ensures c.next_id.ensures c.in_tree-stays.ensures
    ∙ sym (recorded_there c.args.op a m (sym c.in_tree.ensures ∙ c.if-not-in_tree.false) c.in-Ok-Some.by n (sym c.in-Ok-Some.ensures.applied ∙ c.in-Ok-Some.field-0-is) became)

pub returns-in-Ok-None-clause-ok : goal.returns-in-Ok-None-clause-ok
returns-in-Ok-None-clause-ok g c =
    let m = g.R.GreedyRewriter.held c.args.bench.now in
    let n = g.R.GreedyRewriter.held c.apply_first.new.self in
    let a = model_of c.args.entries.now in
    subst (λ w. Applied w false m n) (sym (next_there c.args.op a m (sym c.in_tree.ensures ∙ c.if-not-in_tree.false)))
    (subst (λ f. Applied (a.comes m c.args.op) (is_some f) m n) c.in-Ok-None.field-0-is c.in-Ok-None.ensures.ok)

pub returns-in-Ok-None-clause-applied : goal.returns-in-Ok-None-clause-applied
returns-in-Ok-None-clause-applied g c =
    let m = g.R.GreedyRewriter.held c.args.bench.now in
    let n = g.R.GreedyRewriter.held c.apply_first.new.self in
    let a = model_of c.args.entries.now in
    let none_there = not_applied (a.comes m c.args.op) m n (subst (λ f. Applied (a.comes m c.args.op) (is_some f) m n) c.in-Ok-None.field-0-is c.in-Ok-None.ensures.ok) in
    sym (recorded_none c.args.op a m (next_there c.args.op a m (sym c.in_tree.ensures ∙ c.if-not-in_tree.false) ∙ none_there))

pub returns-in-Err-clause-refused : goal.returns-in-Err-clause-refused
returns-in-Err-clause-refused g c =
    let m = g.R.GreedyRewriter.held c.args.bench.now in
    subst (λ w. Refuses w (g.R.GreedyRewriter.full c.apply_first.new.self) c.in-Err.refusal) (sym (next_there c.args.op (model_of c.args.entries.now) m (sym c.in_tree.ensures ∙ c.if-not-in_tree.false))) c.in-Err.ensures.refused
