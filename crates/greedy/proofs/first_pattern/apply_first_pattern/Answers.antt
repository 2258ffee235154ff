use Rattle.std.proofs.Common.{◌∙◌, ◌+◌, refl, ap, sym, subst, false, Some, arith}
use Rattle.ir_event.specs.Modules.{Module}
use Rattle.patterns_base.specs.Canonicalization.{or_else}
use Rattle.patterns.specs.Applied.{RewriteOutcome, IsReason}
use Rattle.patterns.specs.Held.{module_held}
use Rattle.patterns.proofs.Carrying.{journaled_none}
use Rattle.greedy.specs.PatternSet.{rule_or_pattern_of, rewrite_by_entry, patterns_of, by_or, first_applicable_rewrite, first_matching_entry, traced_as}
use Rattle.greedy.proofs.Attempting.{applied_more, comes_here, fires_here, gave_all, gave_first, gave_none, journaled_more, none_comes, none_fires, long, noted_after, noted_of, reason_first, tail, reported_first}
use Rattle.greedy.proofs.first_pattern.apply_first_pattern.Goals as goal

pub candidates-init : goal.candidates-init
candidates-init g c = (refl, (refl, (c.is_wellformed.ensures.context.holds, (journaled_none g.L.Analysis.meaning c.args.bench.now, (refl, (refl, omega arith))))))

pub returns-in-Ok-true-clause-ok : goal.returns-in-Ok-true-clause-ok
returns-in-Ok-true-clause-ok g c =
    let v = c.candidates.invariant in
    let m = module_held c.args.bench.now.transaction in
    let first = c.first-item.result in
    gave_all _ _ _ m m _ (sym (comes_here c.candidates.rest.now first _ c.in-len1-up.len_at_least c.first-item.is m c.args.op) ∙ v.1.1.1.1.0) refl
    (gave_first (rewrite_by_entry (rule_or_pattern_of first) m c.args.op) (first_applicable_rewrite (patterns_of (tail c.candidates.rest.now)) m c.args.op) c.in-Ok-true.field-0 m _ c.in-Ok-true.field-0-test
    (subst (λ (n : Module). RewriteOutcome (rewrite_by_entry (rule_or_pattern_of first) n c.args.op) c.in-Ok-true.field-0 n (module_held c.apply_pattern-done.new.bench.transaction)) v.0 c.in-Ok-true.ensures.ok))

pub returns-in-Ok-true-clause-applied : goal.returns-in-Ok-true-clause-applied
returns-in-Ok-true-clause-applied g c =
    let v = c.candidates.invariant in
    let m = module_held c.args.bench.now.transaction in
    let first = c.first-item.result in
    ap Some c.applied_pattern-reported.ensures
    ∙ sym (reported_first (rewrite_by_entry (rule_or_pattern_of first) m c.args.op) (traced_as c.candidates.place (rule_or_pattern_of first)) (first_matching_entry (c.candidates.place + 1) (patterns_of (tail c.candidates.rest.now)) m c.args.op) c.in-Ok-true.field-0 m _ c.in-Ok-true.field-0-test
    (subst (λ (n : Module). RewriteOutcome (rewrite_by_entry (rule_or_pattern_of first) n c.args.op) c.in-Ok-true.field-0 n (module_held c.apply_pattern-done.new.bench.transaction)) v.0 c.in-Ok-true.ensures.ok))
    ∙ sym (fires_here c.candidates.rest.now first _ c.in-len1-up.len_at_least c.first-item.is m c.args.op c.candidates.place) ∙ v.1.1.1.1.1.0

pub returns-in-Ok-true-clause-stays : goal.returns-in-Ok-true-clause-stays
returns-in-Ok-true-clause-stays g c = let v = c.candidates.invariant in applied_more g.L.Analysis.meaning _ _ _ v.1.1.0 v.1.1.1.0 v.1.0 c.in-Ok-true.ensures.stays

pub returns-in-Ok-true-clause-journal : goal.returns-in-Ok-true-clause-journal
returns-in-Ok-true-clause-journal g c = let v = c.candidates.invariant in journaled_more g.L.Analysis.meaning _ _ _ v.1.1.0 v.1.1.1.0 c.in-Ok-true.ensures.journal

pub returns-in-Ok-true-clause-noted : goal.returns-in-Ok-true-clause-noted
returns-in-Ok-true-clause-noted g c = let v = c.candidates.invariant in noted_of g.L.Analysis.meaning _ _ (journaled_more g.L.Analysis.meaning _ _ _ v.1.1.0 v.1.1.1.0 c.in-Ok-true.ensures.journal)

pub returns-in-Err-clause-refused : goal.returns-in-Err-clause-refused
returns-in-Err-clause-refused g c =
    let v = c.candidates.invariant in
    let m = module_held c.args.bench.now.transaction in
    let first = c.first-item.result in
    subst (λ w. IsReason w c.args.op m c.apply_pattern-done.new.bench.transaction.ctx c.in-Err.refusal) (sym (comes_here c.candidates.rest.now first _ c.in-len1-up.len_at_least c.first-item.is m c.args.op) ∙ v.1.1.1.1.0)
    (reason_first (rewrite_by_entry (rule_or_pattern_of first) m c.args.op) (first_applicable_rewrite (patterns_of (tail c.candidates.rest.now)) m c.args.op) c.args.op m c.apply_pattern-done.new.bench.transaction.ctx c.in-Err.refusal
    (subst (λ (n : Module). IsReason (rewrite_by_entry (rule_or_pattern_of first) n c.args.op) c.args.op n c.apply_pattern-done.new.bench.transaction.ctx c.in-Err.refusal) v.0 c.in-Err.ensures.refused))

pub returns-in-Err-clause-stays : goal.returns-in-Err-clause-stays
returns-in-Err-clause-stays g c = let v = c.candidates.invariant in applied_more g.L.Analysis.meaning _ _ _ v.1.1.0 v.1.1.1.0 v.1.0 c.in-Err.ensures.stays

pub returns-in-Err-clause-noted : goal.returns-in-Err-clause-noted
returns-in-Err-clause-noted g c = let v = c.candidates.invariant in noted_after g.L.Analysis.meaning c.args.bench.now c.candidates.bench c.apply_pattern-done.new.bench v.1.1.0 v.1.1.1.0 c.in-Err.ensures.journal

pub candidates-preserved : goal.candidates-preserved
candidates-preserved g c =
    let v = c.candidates.invariant in
    let m = module_held c.args.bench.now.transaction in
    let first = c.first-item.result in
    let q = gave_none (rewrite_by_entry (rule_or_pattern_of first) m c.args.op) c.in-Ok-false.field-0 m (module_held c.apply_pattern-done.new.bench.transaction) c.in-Ok-false.field-0-test
    (subst (λ (n : Module). RewriteOutcome (rewrite_by_entry (rule_or_pattern_of first) n c.args.op) c.in-Ok-false.field-0 n (module_held c.apply_pattern-done.new.bench.transaction)) v.0 c.in-Ok-false.ensures.ok) in (
      q.1,
      (
        c.in-Ok-false.ensures.stays.opens ∙ v.1.0,
        (
          c.is_wellformed-in-len1-up.ensures.context.holds,
          (
            journaled_more g.L.Analysis.meaning _ _ _ v.1.1.0 v.1.1.1.0 c.in-Ok-false.ensures.journal,
            (
              sym (ap (λ w. or_else w (first_applicable_rewrite (patterns_of (tail c.candidates.rest.now)) m c.args.op)) q.0) ∙ sym (comes_here c.candidates.rest.now first _ c.in-len1-up.len_at_least c.first-item.is m c.args.op) ∙ v.1.1.1.1.0,
              (
                sym (ap (λ w. by_or w (traced_as c.candidates.place (rule_or_pattern_of first)) (first_matching_entry (c.candidates.place + 1) (patterns_of (tail c.candidates.rest.now)) m c.args.op)) q.0) ∙ sym (fires_here c.candidates.rest.now first _ c.in-len1-up.len_at_least c.first-item.is m c.args.op c.candidates.place) ∙ v.1.1.1.1.1.0,
                long c.candidates.rest.now c.candidates.place _ c.in-len1-up.len_at_least v.1.1.1.1.1.1,
              ),
            ),
          ),
        ),
      ),
    )

pub returns-clause-ok : goal.returns-clause-ok
returns-clause-ok g c =
    let v = c.candidates.invariant in
    let m = module_held c.args.bench.now.transaction in
    subst (λ w. RewriteOutcome w false m (module_held c.candidates.bench.transaction)) (sym (none_comes c.candidates.rest.now m c.args.op (omega (arith, c.in_default.len_below))) ∙ v.1.1.1.1.0) (refl, v.0)

pub returns-clause-applied : goal.returns-clause-applied
returns-clause-applied g c =
    let v = c.candidates.invariant in
    let m = module_held c.args.bench.now.transaction in
    sym (none_fires c.candidates.place c.candidates.rest.now m c.args.op (omega (arith, c.in_default.len_below))) ∙ v.1.1.1.1.1.0
