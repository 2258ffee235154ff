use Rattle.std.proofs.Common.{rules, arith, false, ◌≡◌, ◌∙◌, refl, sym, subst, true, ℕ, List, [], ◌∷◌, ◌++◌, ap, slice_index_or, Ok, Err}
use Rattle.patterns_base.specs.declared.rule.Rule.TheVariants.{EraseDead}
use Rattle.conversion_base.specs.Rewrites.{rewrite_of}
use Rattle.conversion_base.specs.Legalization.{Outcome, after_rule as rule_outcome, trailing, each_of, legalization_of, made_since, standing}
use Rattle.conversion.specs.States.{Applied, Comes, ComesAfter, applied_since}
use Rattle.conversion_base.specs.Rule.{Rule}
use Rattle.conversion_base.specs.declared.applied_rule.AppliedRule.{AppliedRule}
use Rattle.conversion_base.specs.RuleNames.{is_converting}
use Rattle.conversion_base.specs.Targets.{Aim, IsAimIn, target_model}
use Rattle.conversion.proofs.Aims.{aim_known, aim_stays}
use Rattle.conversion.proofs.Leading.{leads_more, leads_none}
use Rattle.conversion.proofs.Trying.{Trying, applied_once, goes_down, leads_whole, making_fails, making_more, making_stops, tried_whole, trying_more, trying_rule, trying_stops, trying_well}
use Rattle.conversion.proofs.legalise.+legalise.Goals as goal
use Rattle.ir_event.proofs.of_types.Truths.{rest_at}

-- the first rule of a list that isn't empty
abbrev first : List Rule → Rule
first xs = slice_index_or xs 0 EraseDead

pub after_rule-each_made-requires : goal.after_rule-each_made-requires
after_rule-each_made-requires g t c κs within =
    let state = g.B.ConversionRewriter.state in
    let aim : IsAimIn (state c.apply_rule.new.self).things c.args.target.now = aim_known (state c.args.bench.now).things (state c.apply_rule.new.self).things c.args.target.now c.apply_rule.ensures.leads.grows c.requires.aim in
    search rules

pub after_rule-returns-in-Ok-true-clause-comes : goal.after_rule-returns-in-Ok-true-clause-comes
after_rule-returns-in-Ok-true-clause-comes g t c =
    let state = g.B.ConversionRewriter.state in
    let start = state c.args.bench.now in
    let here = state c.apply_rule.new.self in
    let next = state c.each_made.new.bench in
    let below = c.args.below in
    let go = legalization_of (target_model start.things c.args.target.now) below in
    let a = rewrite_of c.args.rule start.held c.args.op in
    let did = subst (λ b. Applied a b start.held here.held) c.in-Ok-true.field-0-test c.in-Ok-true.ensures.answers in
    let same = aim_stays start.things here.things c.args.target.now c.apply_rule.ensures.leads.grows c.requires.aim in
    let r = c.args.rule in
    let x = c.args.op in
    let aimed = subst (λ (b : Aim). ComesAfter (trailing (applied_since r x c.next_id-from.result here.held ∷ []) false (each_of (legalization_of b below) (made_since c.next_id-from.result here.held) here.held)) c.each_made.result next) same c.each_made.ensures.comes in
    let since = subst (λ (n : ℕ). ComesAfter (trailing (applied_since r x n here.held ∷ []) false (each_of go (made_since n here.held) here.held)) c.each_made.result next) c.next_id-from.ensures aimed in
    subst (λ (o : Outcome). ComesAfter o c.each_made.result next) (applied_once go r x a start.held here.held did) since

pub each_made-legalise-requires : goal.each_made-legalise-requires
each_made-legalise-requires g t c κs within =
    let state = g.B.ConversionRewriter.state in
    let aim : IsAimIn (state c.made.bench).things c.args.target.now = aim_known (state c.args.bench.now).things (state c.made.bench).things c.args.target.now c.made.invariant.1.grows c.requires.aim in
    search rules

pub each_made-returns-then-not-legalization-clause-comes : goal.each_made-returns-then-not-legalization-clause-comes
each_made-returns-then-not-legalization-clause-comes g t c =
    let state = g.B.ConversionRewriter.state in
    let start = state c.args.bench.now in
    let here = state c.made.bench in
    let next = state c.legalise.new.bench in
    let go = legalization_of (target_model start.things c.args.target.now) c.args.below in
    let same = aim_stays start.things here.things c.args.target.now c.made.invariant.1.grows c.requires.aim in
    let o = subst (λ (x : ℕ). Comes (standing go here.held x) (Ok c.in-Ok-legalise.legalization) here next) c.new.ensures (subst (λ (a : Aim). Comes (standing (legalization_of a c.args.below) here.held c.new.result) (Ok c.in-Ok-legalise.legalization) here next) same c.in-Ok-legalise.ensures.comes) in
    making_fails go _ c.made.id c.next_id-end.result here next c.made.applied.items c.made.limit_reached c.in-Ok-legalise.legalization c.joined-legalization.result c.made-test.true c.made.invariant.0 o
    c.joined-legalization.ensures.legal c.joined-legalization.ensures.limit_reached c.if-not-legalization.true

pub each_made-returns-then-not-legalization-clause-leads : goal.each_made-returns-then-not-legalization-clause-leads
each_made-returns-then-not-legalization-clause-leads g t c =
    leads_more g.B.ConversionRewriter.state g.B.ConversionRewriter.transaction g.B.ConversionRewriter.led g.B.ConversionRewriter.led_more c.args.bench.now c.made.bench c.legalise.new.bench c.made.invariant.1 c.in-Ok-legalise.ensures.leads

pub each_made-returns-in-Err-legalise-clause-comes : goal.each_made-returns-in-Err-legalise-clause-comes
each_made-returns-in-Err-legalise-clause-comes g t c =
    let state = g.B.ConversionRewriter.state in
    let start = state c.args.bench.now in
    let here = state c.made.bench in
    let next = state c.legalise.new.bench in
    let go = legalization_of (target_model start.things c.args.target.now) c.args.below in
    let same = aim_stays start.things here.things c.args.target.now c.made.invariant.1.grows c.requires.aim in
    let o = subst (λ (x : ℕ). Comes (standing go here.held x) (Err c.in-Err-legalise.refusal) here next) c.new.ensures (subst (λ (a : Aim). Comes (standing (legalization_of a c.args.below) here.held c.new.result) (Err c.in-Err-legalise.refusal) here next) same c.in-Err-legalise.ensures.comes) in
    making_stops go _ c.made.id c.next_id-end.result here next c.made.applied.items c.made.limit_reached c.in-Err-legalise.refusal c.made-test.true c.made.invariant.0 o

pub each_made-made-preserved : goal.each_made-made-preserved
each_made-made-preserved g t c =
    let state = g.B.ConversionRewriter.state in
    let start = state c.args.bench.now in
    let here = state c.made.bench in
    let next = state c.legalise.new.bench in
    let a = target_model start.things c.args.target.now in
    let go = legalization_of a c.args.below in
    let same = aim_stays start.things here.things c.args.target.now c.made.invariant.1.grows c.requires.aim in
    let o = subst (λ (x : ℕ). Comes (standing go here.held x) (Ok c.in-Ok-legalise.legalization) here next) c.new.ensures (subst (λ (a : Aim). Comes (standing (legalization_of a c.args.below) here.held c.new.result) (Ok c.in-Ok-legalise.legalization) here next) same c.in-Ok-legalise.ensures.comes) in (
      making_more go _ c.made.id c.next_id-end.result here next c.made.applied.items c.append.new.applied.items c.made.limit_reached c.in-Ok-legalise.legalization c.joined-legalization.result c.made-test.true c.made.invariant.0 o
          c.joined-legalization.ensures.legal c.joined-legalization.ensures.applied c.joined-legalization.ensures.limit_reached c.if-not-legalization.false (c.in_default.ensures.ok ∙ ap (λ (ns : List AppliedRule). c.made.applied.items ++ ns) c.deref.ensures.value),
      leads_more state g.B.ConversionRewriter.transaction g.B.ConversionRewriter.led g.B.ConversionRewriter.led_more c.args.bench.now c.made.bench c.legalise.new.bench c.made.invariant.1 c.in-Ok-legalise.ensures.leads,
    )

pub first_rule-try_rule-requires : goal.first_rule-try_rule-requires
first_rule-try_rule-requires g t c κs within =
    let state = g.B.ConversionRewriter.state in
    let start = state c.args.bench.now in
    let here = state c.rules.bench in
    let xs = c.rules.rest.now in
    let go = legalization_of (target_model start.things c.args.target.now) c.args.below in
    let h = subst (λ (ys : List Rule). Trying go c.args.op c.args.target.now.rules ys start here c.rules.limit_reached) (rest_at xs (first xs) EraseDead c.in-len1-up.len_at_least refl) c.rules.invariant.0 in
    let aim : IsAimIn here.things c.args.target.now = aim_known start.things here.things c.args.target.now c.rules.invariant.1.grows c.requires.aim in
    let rule : is_converting (first xs) ≡ true = trying_rule go c.args.op c.args.target.now.rules start (first xs) _ here c.rules.limit_reached h in
    search rules

pub first_rule-returns-then-legalization-clause-comes : goal.first_rule-returns-then-legalization-clause-comes
first_rule-returns-then-legalization-clause-comes g t c =
    let state = g.B.ConversionRewriter.state in
    let start = state c.args.bench.now in
    let here = state c.rules.bench in
    let next = state c.try_rule.new.bench in
    let xs = c.rules.rest.now in
    let r = first xs in
    let go = legalization_of (target_model start.things c.args.target.now) c.args.below in
    let same = aim_stays start.things here.things c.args.target.now c.rules.invariant.1.grows c.requires.aim in
    let h = subst (λ (ys : List Rule). Trying go c.args.op c.args.target.now.rules ys start here c.rules.limit_reached) (rest_at xs (first xs) EraseDead c.in-len1-up.len_at_least refl) c.rules.invariant.0 in
    let o = subst (λ (a : Aim). Comes (rule_outcome (legalization_of a c.args.below) r c.args.op here.held (rewrite_of r here.held c.args.op)) (Ok c.in-Ok.legalization) here next) same c.in-Ok.ensures.comes in
    trying_well go c.args.op c.args.target.now.rules start r _ here next c.rules.limit_reached c.in-Ok.legalization c.joined-legalization.result h o
    c.joined-legalization.ensures.legal c.joined-legalization.ensures.applied c.joined-legalization.ensures.limit_reached c.if-legalization.true

pub first_rule-returns-in-Err-clause-comes : goal.first_rule-returns-in-Err-clause-comes
first_rule-returns-in-Err-clause-comes g t c =
    let state = g.B.ConversionRewriter.state in
    let start = state c.args.bench.now in
    let here = state c.rules.bench in
    let next = state c.try_rule.new.bench in
    let xs = c.rules.rest.now in
    let r = first xs in
    let go = legalization_of (target_model start.things c.args.target.now) c.args.below in
    let same = aim_stays start.things here.things c.args.target.now c.rules.invariant.1.grows c.requires.aim in
    let h = subst (λ (ys : List Rule). Trying go c.args.op c.args.target.now.rules ys start here c.rules.limit_reached) (rest_at xs (first xs) EraseDead c.in-len1-up.len_at_least refl) c.rules.invariant.0 in
    let o = subst (λ (a : Aim). Comes (rule_outcome (legalization_of a c.args.below) r c.args.op here.held (rewrite_of r here.held c.args.op)) (Err c.in-Err.refusal) here next) same c.in-Err.ensures.comes in
    trying_stops go c.args.op c.args.target.now.rules start r _ here next c.rules.limit_reached c.in-Err.refusal h o

pub first_rule-rules-preserved : goal.first_rule-rules-preserved
first_rule-rules-preserved g t c =
    let state = g.B.ConversionRewriter.state in
    let start = state c.args.bench.now in
    let here = state c.rules.bench in
    let next = state c.try_rule.new.bench in
    let xs = c.rules.rest.now in
    let r = first xs in
    let go = legalization_of (target_model start.things c.args.target.now) c.args.below in
    let same = aim_stays start.things here.things c.args.target.now c.rules.invariant.1.grows c.requires.aim in
    let h = subst (λ (ys : List Rule). Trying go c.args.op c.args.target.now.rules ys start here c.rules.limit_reached) (rest_at xs (first xs) EraseDead c.in-len1-up.len_at_least refl) c.rules.invariant.0 in
    let o = subst (λ (a : Aim). Comes (rule_outcome (legalization_of a c.args.below) r c.args.op here.held (rewrite_of r here.held c.args.op)) (Ok c.in-Ok.legalization) here next) same c.in-Ok.ensures.comes in (
      trying_more go c.args.op c.args.target.now.rules start r _ here next c.rules.limit_reached c.in-Ok.legalization c.joined-legalization.result h o
          c.joined-legalization.ensures.legal c.joined-legalization.ensures.limit_reached c.if-legalization.false,
      leads_more state g.B.ConversionRewriter.transaction g.B.ConversionRewriter.led g.B.ConversionRewriter.led_more c.args.bench.now c.rules.bench c.try_rule.new.bench c.rules.invariant.1 c.in-Ok.ensures.leads,
    )

pub legalise-returns-clause-comes : goal.legalise-returns-clause-comes
legalise-returns-clause-comes g t c =
    let state = g.B.ConversionRewriter.state in
    let start = state c.args.bench.now in
    let a = target_model start.things c.args.target.now in
    let down = goes_down a c.args.below start.held c.args.op (sym c.in_tree.ensures ∙ c.if-not-in_tree.false) (sym c.is_legal.ensures ∙ c.if-is_legal.false) (omega (arith, c.if-below-eq0.false)) in
    rw (← down) c.first_rule.ensures.comes

pub try_rule-returns-clause-comes : goal.try_rule-returns-clause-comes
try_rule-returns-clause-comes g t c =
    let state = g.B.ConversionRewriter.state in
    tried_whole (λ d m. rule_outcome (legalization_of (target_model d c.args.target.now) c.args.below) c.args.rule c.args.op m (rewrite_of c.args.rule m c.args.op))
    c.after_rule-legalization.result (state c.args.bench.now) (state c.step.new.self) (state c.after_rule-legalization.new.bench) (state c.close.new.bench) c.in_default.ensures.ok c.after_rule-legalization.ensures.leads.marks c.after_rule-legalization.ensures.comes
    c.is_well.result c.is_well.ensures c.close.ensures.closed

pub try_rule-returns-clause-leads : goal.try_rule-returns-clause-leads
try_rule-returns-clause-leads g t c =
    let state = g.B.ConversionRewriter.state in
    leads_whole state g.B.ConversionRewriter.transaction g.B.ConversionRewriter.led g.B.ConversionRewriter.led_more c.args.bench.now c.step.new.self c.after_rule-legalization.new.bench c.close.new.bench c.in_default.ensures.ok c.step.ensures.led c.after_rule-legalization.ensures.leads c.close.ensures.led
    c.is_well.result c.close.ensures.closed c.step.ensures.none c.in_default.ensures.opened c.close.ensures.dropped

pub after_rule-returns-in-Ok-true-clause-leads : goal.after_rule-returns-in-Ok-true-clause-leads
after_rule-returns-in-Ok-true-clause-leads g t c = leads_more g.B.ConversionRewriter.state g.B.ConversionRewriter.transaction g.B.ConversionRewriter.led g.B.ConversionRewriter.led_more c.args.bench.now c.apply_rule.new.self c.each_made.new.bench c.apply_rule.ensures.leads c.each_made.ensures.leads

pub each_made-returns-in-Err-legalise-clause-leads : goal.each_made-returns-in-Err-legalise-clause-leads
each_made-returns-in-Err-legalise-clause-leads g t c = leads_more g.B.ConversionRewriter.state g.B.ConversionRewriter.transaction g.B.ConversionRewriter.led g.B.ConversionRewriter.led_more c.args.bench.now c.made.bench c.legalise.new.bench c.made.invariant.1 c.in-Err-legalise.ensures.leads

pub first_rule-returns-then-legalization-clause-leads : goal.first_rule-returns-then-legalization-clause-leads
first_rule-returns-then-legalization-clause-leads g t c = leads_more g.B.ConversionRewriter.state g.B.ConversionRewriter.transaction g.B.ConversionRewriter.led g.B.ConversionRewriter.led_more c.args.bench.now c.rules.bench c.try_rule.new.bench c.rules.invariant.1 c.in-Ok.ensures.leads

pub first_rule-returns-in-Err-clause-leads : goal.first_rule-returns-in-Err-clause-leads
first_rule-returns-in-Err-clause-leads g t c = leads_more g.B.ConversionRewriter.state g.B.ConversionRewriter.transaction g.B.ConversionRewriter.led g.B.ConversionRewriter.led_more c.args.bench.now c.rules.bench c.try_rule.new.bench c.rules.invariant.1 c.in-Err.ensures.leads

pub each_made-returns-in-Err-append-clause-leads : goal.each_made-returns-in-Err-append-clause-leads
each_made-returns-in-Err-append-clause-leads g t c = leads_more g.B.ConversionRewriter.state g.B.ConversionRewriter.transaction g.B.ConversionRewriter.led g.B.ConversionRewriter.led_more c.args.bench.now c.made.bench c.legalise.new.bench c.made.invariant.1 c.in-Ok-legalise.ensures.leads

pub each_made-returns-in-Err-clause-leads : goal.each_made-returns-in-Err-clause-leads
each_made-returns-in-Err-clause-leads g t c = leads_none g.B.ConversionRewriter.state g.B.ConversionRewriter.transaction g.B.ConversionRewriter.led g.B.ConversionRewriter.led_none c.args.bench.now
