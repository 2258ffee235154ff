use Rattle.ir_event.specs.tree_laws.Reads.{precedes}
use Rattle.std.proofs.Common.{◌≡◌, ◌⊎◌, refl, sym, ap, subst, ◌∙◌, true, false, Some, None}
use Rattle.std.specs.Prelude.{is_some}
use Rattle.patterns_base.specs.Rewrites.{none}
use Rattle.greedy.specs.Outcomes.{Applied, Refuses}
use Rattle.greedy.specs.Rewriting.{next_by}
use Rattle.greedy.specs.Ruled.{model_of}
use Rattle.ir_event.specs.Modules.{Module}
use Rattle.greedy.specs.Work.{AreApart, CoversBut, Right, Rewritten}
use Rattle.greedy.proofs.Applications.{entries_lawful_of}
use Rattle.greedy.proofs.Noting.{noted_more}
use Rattle.greedy.proofs.Scans.{took, took_none, said, said_none, said_refuses, all_none, rewrote}
use Rattle.greedy.proofs.Traces.{reported_as, reported_none, notified_there}
use Rattle.greedy.specs.Tracing.{applied_next}
use Rattle.greedy.proofs.run.one.Goals as goal

pub renew-requires-clause-rewritten : goal.renew-requires-clause-rewritten
renew-requires-clause-rewritten g c =
    let pattern_set = model_of c.args.entries.now in
    let m = g.R.GreedyRewriter.held c.waiting.bench in
    let n = g.R.GreedyRewriter.held c.apply_first.new.self in
    let x = c.in-Some.op in
    let noted = c.in-Ok-Some.ensures.noted (λ e. c.requires.marked (sym c.waiting.invariant.1.0 ∙ e)) in
    let was : g.R.GreedyRewriter.before c.apply_first.new.self c.journal_len-from.result ≡ m = ap (g.R.GreedyRewriter.before c.apply_first.new.self) c.journal_len-from.ensures ∙ noted.1 in
    let became = rewrote pattern_set m x true n refl (subst (λ f. Applied (pattern_set.comes m x) (is_some f) m n) c.in-Ok-Some.field-0-is c.in-Ok-Some.ensures.ok) in
    let at : Rewritten x c.in-Some-preceding_of.before m n = record {
      distinct = g.R.GreedyRewriter.distinct m c.is_wellformed.ensures;
      orderly = (entries_lawful_of c.args.entries.now c.requires.ruled).orderly m (g.R.GreedyRewriter.distinct m c.is_wellformed.ensures) (g.R.GreedyRewriter.below m c.is_wellformed.ensures) x n became;
      nearby = c.in-Some-preceding_of.ensures.some;
    } in
    subst (λ p. Rewritten x c.in-Some-preceding_of.before p n) (sym was) at

pub is_apart-apart-requires : goal.is_apart-apart-requires
is_apart-apart-requires g c = c.in-Some.ensures.work.falls

pub preceding_of-requires-clause-near : goal.preceding_of-requires-clause-near
preceding_of-requires-clause-near g c =
    subst (λ p. (c.pop.new.work.passed ≡ p) ⊎ (precedes p c.in-Some.op (g.R.GreedyRewriter.held c.waiting.bench).tree ≡ true)) (sym c.waiting.invariant.1.1.1.1.1) c.in-Some.ensures.nearby

pub renew-requires-clause-apart : goal.renew-requires-clause-apart
renew-requires-clause-apart g c = λ e.
    let m = g.R.GreedyRewriter.held c.waiting.bench in
    let noted = c.in-Ok-Some.ensures.noted (λ i. c.requires.marked (sym c.waiting.invariant.1.0 ∙ i)) in
    let was : g.R.GreedyRewriter.before c.apply_first.new.self c.journal_len-from.result ≡ m = ap (g.R.GreedyRewriter.before c.apply_first.new.self) c.journal_len-from.ensures ∙ noted.1 in
    subst (λ (p : Module). AreApart c.in-Some.op c.pop.new.work.again.items p.tree) (sym was) (c.is_apart-apart.ensures e)

pub returns-in-Ok-clause-ok : goal.returns-in-Ok-clause-ok
returns-in-Ok-clause-ok g c =
    let pattern_set = model_of c.args.entries.now in
    let m = g.R.GreedyRewriter.held c.waiting.bench in
    let n = g.R.GreedyRewriter.held c.apply_first.new.self in
    let w = c.waiting.work in
    let v = c.pop.new.work in
    let h = c.waiting.invariant.0 in
    let r : Right pattern_set w.passed w.again.items m = subst (λ p. Right pattern_set w.passed w.again.items p) (sym h) c.waiting.invariant.1.1.0 in
    subst (λ p. Applied (next_by pattern_set p) true p n) h
    (said pattern_set m c.in-Some.op w.passed w.again.items v.passed v.again.items r c.in-Some.ensures true n refl (subst (λ f. Applied (pattern_set.comes m c.in-Some.op) (is_some f) m n) c.in-Ok-Some.field-0-is c.in-Ok-Some.ensures.ok))

pub returns-in-Ok-clause-right : goal.returns-in-Ok-clause-right
returns-in-Ok-clause-right g c done =
    let pattern_set = model_of c.args.entries.now in
    let m = g.R.GreedyRewriter.held c.waiting.bench in
    let w = c.waiting.work in
    let v = c.pop.new.work in
    let h = c.waiting.invariant.0 in
    let r : Right pattern_set w.passed w.again.items m = subst (λ p. Right pattern_set w.passed w.again.items p) (sym h) c.waiting.invariant.1.1.0 in
    let noted = c.in-Ok-Some.ensures.noted (λ e. c.requires.marked (sym c.waiting.invariant.1.0 ∙ e)) in
    let was : g.R.GreedyRewriter.before c.apply_first.new.self c.journal_len-from.result ≡ m = ap (g.R.GreedyRewriter.before c.apply_first.new.self) c.journal_len-from.ensures ∙ noted.1 in
    c.in-Ok.ensures.ok pattern_set (entries_lawful_of c.args.entries.now c.requires.ruled).away
    (subst (λ p. CoversBut pattern_set c.in-Some.op v.passed v.again.items p) (sym was) (took pattern_set m c.in-Some.op w.passed w.again.items v.passed v.again.items r c.in-Some.ensures))

pub returns-in-Err-clause-refused : goal.returns-in-Err-clause-refused
returns-in-Err-clause-refused g c =
    let pattern_set = model_of c.args.entries.now in
    let m = g.R.GreedyRewriter.held c.waiting.bench in
    let w = c.waiting.work in
    let v = c.pop.new.work in
    let h = c.waiting.invariant.0 in
    let r : Right pattern_set w.passed w.again.items m = subst (λ p. Right pattern_set w.passed w.again.items p) (sym h) c.waiting.invariant.1.1.0 in
    subst (λ p. Refuses (next_by pattern_set p) (g.R.GreedyRewriter.full c.apply_first.new.self) c.in-Err.refusal) h
    (said_refuses pattern_set m c.in-Some.op w.passed w.again.items v.passed v.again.items r c.in-Some.ensures (g.R.GreedyRewriter.full c.apply_first.new.self) c.in-Err.refusal c.in-Err.ensures.refused)

pub returns-clause-ok : goal.returns-clause-ok
returns-clause-ok g c =
    let pattern_set = model_of c.args.entries.now in
    let m = g.R.GreedyRewriter.held c.waiting.bench in
    let w = c.waiting.work in
    let h = c.waiting.invariant.0 in
    let r : Right pattern_set w.passed w.again.items m = subst (λ p. Right pattern_set w.passed w.again.items p) (sym h) c.waiting.invariant.1.1.0 in
    let e : next_by pattern_set m ≡ none = all_none pattern_set m w.passed w.again.items r c.in_default.ensures in
    subst (λ p. Applied (next_by pattern_set p) false p m) h (subst (λ a. Applied a false m m) (sym e) (refl, refl))

pub returns-in-Ok-clause-onward : goal.returns-in-Ok-clause-onward
returns-in-Ok-clause-onward g c = g.R.GreedyRewriter.through _ _ _ c.waiting.invariant.1.1.1.0 c.apply_first.ensures.onward

pub returns-in-Err-renew-clause-onward : goal.returns-in-Err-renew-clause-onward
returns-in-Err-renew-clause-onward g c = g.R.GreedyRewriter.through _ _ _ c.waiting.invariant.1.1.1.0 c.apply_first.ensures.onward

pub returns-in-Err-clause-onward : goal.returns-in-Err-clause-onward
returns-in-Err-clause-onward g c = g.R.GreedyRewriter.through _ _ _ c.waiting.invariant.1.1.1.0 c.apply_first.ensures.onward

pub waiting-preserved-in-Ok-None : goal.waiting-preserved-in-Ok-None
waiting-preserved-in-Ok-None g c =
    let pattern_set = model_of c.args.entries.now in
    let m = g.R.GreedyRewriter.held c.waiting.bench in
    let n = g.R.GreedyRewriter.held c.apply_first.new.self in
    let w = c.waiting.work in
    let v = c.pop.new.work in
    let h = c.waiting.invariant.0 in
    let r : Right pattern_set w.passed w.again.items m = subst (λ p. Right pattern_set w.passed w.again.items p) (sym h) c.waiting.invariant.1.1.0 in
    let q = said_none pattern_set m c.in-Some.op w.passed w.again.items v.passed v.again.items r c.in-Some.ensures false n refl (subst (λ f. Applied (pattern_set.comes m c.in-Some.op) (is_some f) m n) c.in-Ok-None.field-0-is c.in-Ok-None.ensures.ok) in (
      q.1 ∙ h,
      (
        c.apply_first.ensures.marks ∙ c.waiting.invariant.1.0,
        (
          subst (λ p. Right pattern_set v.passed v.again.items p) h (took_none pattern_set m c.in-Some.op w.passed w.again.items v.passed v.again.items r c.in-Some.ensures q.0),
          (
            g.R.GreedyRewriter.through _ _ _ c.waiting.invariant.1.1.1.0 c.apply_first.ensures.onward,
            (noted_more _ _ _ c.waiting.invariant.1.1.1.1.0 c.apply_first.ensures.journal, refl),
          ),
        ),
      ),
    )

pub returns-in-Ok-clause-journal : goal.returns-in-Ok-clause-journal
returns-in-Ok-clause-journal g c = noted_more _ _ _ c.waiting.invariant.1.1.1.1.0 c.apply_first.ensures.journal

pub returns-in-Err-renew-clause-journal : goal.returns-in-Err-renew-clause-journal
returns-in-Err-renew-clause-journal g c = noted_more _ _ _ c.waiting.invariant.1.1.1.1.0 c.apply_first.ensures.journal

pub returns-in-Err-clause-journal : goal.returns-in-Err-clause-journal
returns-in-Err-clause-journal g c = noted_more _ _ _ c.waiting.invariant.1.1.1.1.0 c.apply_first.ensures.journal

pub returns-clause-journal : goal.returns-clause-journal
returns-clause-journal g c = c.waiting.invariant.1.1.1.1.0

pub waiting-preserved : goal.waiting-preserved
waiting-preserved g c =
    let pattern_set = model_of c.args.entries.now in
    let m = g.R.GreedyRewriter.held c.waiting.bench in
    let w = c.waiting.work in
    let v = c.pop.new.work in
    let h = c.waiting.invariant.0 in
    let r : Right pattern_set w.passed w.again.items m = subst (λ p. Right pattern_set w.passed w.again.items p) (sym h) c.waiting.invariant.1.1.0 in
    let none_there : pattern_set.comes m c.in-Some.op ≡ none = subst (λ y. pattern_set.comes m y ≡ none) (sym c.in_default-preceding_of.ensures.none) ((entries_lawful_of c.args.entries.now c.requires.ruled).root m (g.R.GreedyRewriter.distinct m c.is_wellformed.ensures)) in (
      h,
      (
        c.waiting.invariant.1.0,
        (
          subst (λ p. Right pattern_set v.passed v.again.items p) h (took_none pattern_set m c.in-Some.op w.passed w.again.items v.passed v.again.items r c.in-Some.ensures none_there),
          (c.waiting.invariant.1.1.1.0, (c.waiting.invariant.1.1.1.1.0, refl)),
        ),
      ),
    )

pub returns-in-Ok-clause-applied : goal.returns-in-Ok-clause-applied
returns-in-Ok-clause-applied g c =
    let pattern_set = model_of c.args.entries.now in
    let m = g.R.GreedyRewriter.held c.waiting.bench in
    let n = g.R.GreedyRewriter.held c.apply_first.new.self in
    let w = c.waiting.work in
    let v = c.pop.new.work in
    let x = c.in-Some.op in
    let h = c.waiting.invariant.0 in
    let r : Right pattern_set w.passed w.again.items m = subst (λ p. Right pattern_set w.passed w.again.items p) (sym h) c.waiting.invariant.1.1.0 in
    let became = rewrote pattern_set m x true n refl (subst (λ f. Applied (pattern_set.comes m x) (is_some f) m n) c.in-Ok-Some.field-0-is c.in-Ok-Some.ensures.ok) in
    let fires : Some c.in-Ok-Some.by ≡ pattern_set.fires m x = sym c.in-Ok-Some.field-0-is ∙ c.in-Ok-Some.ensures.applied in
    subst (λ p. Some (record { by = c.in-Ok-Some.by; op = x; from = c.next_id-next.result; until = c.next_id.result; stays = c.in_tree-stays.result }) ≡ applied_next pattern_set p) h
    (reported_as c.in-Ok-Some.by x m n c.next_id-next.result c.next_id.result c.in_tree-stays.result c.next_id-next.ensures c.next_id.ensures c.in_tree-stays.ensures
    ∙ sym (notified_there pattern_set (entries_lawful_of c.args.entries.now c.requires.ruled).applied m x w.passed w.again.items v.passed v.again.items r c.in-Some.ensures c.in-Ok-Some.by n fires became))

pub returns-clause-applied : goal.returns-clause-applied
returns-clause-applied g c =
    let pattern_set = model_of c.args.entries.now in
    let m = g.R.GreedyRewriter.held c.waiting.bench in
    let w = c.waiting.work in
    let h = c.waiting.invariant.0 in
    let r : Right pattern_set w.passed w.again.items m = subst (λ p. Right pattern_set w.passed w.again.items p) (sym h) c.waiting.invariant.1.1.0 in
    let e : next_by pattern_set m ≡ none = all_none pattern_set m w.passed w.again.items r c.in_default.ensures in
    subst (λ p. None ≡ applied_next pattern_set p) h (sym (reported_none pattern_set (entries_lawful_of c.args.entries.now c.requires.ruled).applied m e))
