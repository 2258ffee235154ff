use Rattle.std.proofs.Common.{◌≡◌, ◌∙◌, List, ℕ, sym, ap, subst, false, None, is_none}
use Rattle.user_patterns_check.specs.Cases.{AreBelow, first_failing}
use Rattle.user_patterns_check.proofs.Found.{fails}
use Rattle.user_patterns_check.specs.Checks.{counts, first_broken, keeps}
use Rattle.user_patterns_check.specs.Families.{AreWidths, bounds, few_at, kept_at, is_vacuous_at, widths_at}
use Rattle.user_patterns_check.proofs.Verdicts.{all_kept, all_silent, broken_widths, some_notified, too_many}
use Rattle.user_patterns_check.proofs.check.check.Goals as goal

pub returns-in-Some-2-clause-verdict : goal.returns-in-Some-2-clause-verdict
returns-in-Some-2-clause-verdict g c =
    let f = g.F.Family.family c.args.pattern.now in
    let found = rw c.in-Some-2.is at c.in_ok-counterexample.ensures in
    let listed = rw c.in-Some.is at c.in_ok-bounds.ensures in
    let at : c.deref.result.now ≡ bounds c.args.types c.args.most = c.deref.ensures.value ∙ listed in
    too_many f c.args.types c.args.most c.requires c.in-Some-2.field-0.items (sym (found ∙ ap (first_failing (few_at f)) at))

pub broken_at-requires : goal.broken_at-requires
broken_at-requires g c =
    let f = g.F.Family.family c.args.pattern.now in
    let found = rw c.in-Some-3.is at c.in_ok-numbers.ensures in
    let listed = rw c.in-Some.is at c.in_ok-bounds.ensures in
    let at : c.deref-2.result.now ≡ bounds c.args.types c.args.most = c.deref-2.ensures.value ∙ listed in
    let w : c.deref-in-Some-3-2.result.now ≡ widths_at c.in-Some-3.numbers.items = c.deref-in-Some-3-2.ensures.value ∙ c.in_ok-widths.ensures ∙ ap widths_at c.deref-in-Some-3.ensures.value in
    let b = broken_widths f c.args.types c.args.most c.requires c.in-Some-3.numbers.items (sym (found ∙ ap (first_failing (kept_at f)) at)) in
    subst (λ (ws : List ℕ). is_none (first_broken (f ws)) ≡ false) (sym w) b.1

pub returns-in-Some-3-clause-verdict : goal.returns-in-Some-3-clause-verdict
returns-in-Some-3-clause-verdict g c =
    let f = g.F.Family.family c.args.pattern.now in
    let found = rw c.in-Some-3.is at c.in_ok-numbers.ensures in
    let listed = rw c.in-Some.is at c.in_ok-bounds.ensures in
    let at : c.deref-2.result.now ≡ bounds c.args.types c.args.most = c.deref-2.ensures.value ∙ listed in
    let w : c.in_ok-widths.widths.items ≡ widths_at c.in-Some-3.numbers.items = c.in_ok-widths.ensures ∙ ap widths_at c.deref-in-Some-3.ensures.value in
    let b = broken_widths f c.args.types c.args.most c.requires c.in-Some-3.numbers.items (sym (found ∙ ap (first_failing (kept_at f)) at)) in
    let t = fails (keeps (f c.deref-in-Some-3-2.result.now)) (counts (f c.deref-in-Some-3-2.result.now)) c.in_ok-values.values.items c.in_ok-values.ensures in
    let s = subst (λ (ws : List ℕ). AreBelow (counts (f ws)) c.in_ok-values.values.items × (keeps (f ws) c.in_ok-values.values.items ≡ false)) c.deref-in-Some-3-2.ensures.value t in
    (subst (λ (ws : List ℕ). AreWidths c.args.types c.args.most ws) (sym w) b.0, s.0, s.1)

pub returns-in-None-clause-verdict : goal.returns-in-None-clause-verdict
returns-in-None-clause-verdict g c =
    let f = g.F.Family.family c.args.pattern.now in
    let listed = rw c.in-Some.is at c.in_ok-bounds.ensures in
    let few = rw c.in_default-2.is at c.in_ok-counterexample.ensures in
    let kept = rw c.in_default-3.is at c.in_ok-numbers.ensures in
    let quiet = rw c.in-None.is at c.in_ok-counterexample-2.ensures in
    let few_all : first_failing (few_at f) (bounds c.args.types c.args.most) ≡ None = sym (few ∙ ap (first_failing (few_at f)) (c.deref.ensures.value ∙ listed)) in
    λ ws a. (
      all_kept f c.args.types c.args.most c.requires few_all (sym (kept ∙ ap (first_failing (kept_at f)) (c.deref-2.ensures.value ∙ listed))) ws a,
      all_silent f c.args.types c.args.most c.requires few_all (sym (quiet ∙ ap (first_failing (is_vacuous_at f)) (c.deref-3.ensures.value ∙ listed))) ws a,
    )

pub returns-clause-verdict : goal.returns-clause-verdict
returns-clause-verdict g c =
    let f = g.F.Family.family c.args.pattern.now in
    let listed = rw c.in-Some.is at c.in_ok-bounds.ensures in
    let few = rw c.in_default-2.is at c.in_ok-counterexample.ensures in
    let kept = rw c.in_default-3.is at c.in_ok-numbers.ensures in
    let loud = rw c.in-Some-4.is at c.in_ok-counterexample-2.ensures in
    let few_all : first_failing (few_at f) (bounds c.args.types c.args.most) ≡ None = sym (few ∙ ap (first_failing (few_at f)) (c.deref.ensures.value ∙ listed)) in (
      all_kept f c.args.types c.args.most c.requires few_all (sym (kept ∙ ap (first_failing (kept_at f)) (c.deref-2.ensures.value ∙ listed))),
      some_notified f c.args.types c.args.most c.requires c.in-Some-4.field-0.items (sym (loud ∙ ap (first_failing (is_vacuous_at f)) (c.deref-3.ensures.value ∙ listed))),
    )
