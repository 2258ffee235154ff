use Rattle.std.proofs.Common.{◌∙◌, ap, refl, arith, List, ℕ, [], ◌∷◌, ◌++◌}
use Rattle.user_patterns_check.proofs.Found.{tried_alone, none_yet, uncons, then_found, then_none, then_ended, popped}
use Rattle.user_patterns_check.proofs.search.+goes_on.Goals as goal

pub returns-in_default : goal.returns-in_default
returns-in_default g t c = tried_alone (g.C.Claim.holds c.args.claim.now) c.args.values.now.items c.args.bounds.now _ _ c.in_default.len_below c.as_slice.ensures.value c.in_ok-holds.ensures

pub values-init : goal.values-init
values-init g t c = (refl, none_yet _, omega arith)

pub returns-then-found : goal.returns-then-found
returns-then-found g t c =
    then_found (g.C.Claim.holds c.args.claim.now) c.args.values.now.items _ c.args.bounds.now _ _ _ (uncons c.args.bounds.now c.in-len1-up.len_at_least) refl _ _ c.in_ok-found.found
    (c.in_ok-push.ensures.items ∙ ap (λ (xs : List ℕ). xs ++ (c.values.value ∷ [])) c.values.invariant.0) c.values.invariant.1 c.values-test.true c.if-found.true c.in_ok-found.ensures

pub values-preserved : goal.values-preserved
values-preserved g t c =
    let n = then_none (g.C.Claim.holds c.args.claim.now) c.args.values.now.items _ c.args.bounds.now _ _ _ (uncons c.args.bounds.now c.in-len1-up.len_at_least) refl _ _ c.in_ok-found.found
    (c.in_ok-push.ensures.items ∙ ap (λ (xs : List ℕ). xs ++ (c.values.value ∷ [])) c.values.invariant.0) c.values.invariant.1 c.if-found.false c.in_ok-found.ensures in
    (popped c.args.values.now.items _ _ c.values.value _ n.1 c.goes_on.new.values.ok.0 c.pop.ensures.rest, n.0, omega (arith, c.values-test.true))

pub returns : goal.returns
returns g t c =
    then_ended (g.C.Claim.holds c.args.claim.now) c.args.values.now.items _ c.args.bounds.now _ _ _ (uncons c.args.bounds.now c.in-len1-up.len_at_least) refl _
    c.values.invariant.0 c.values.invariant.1 c.values.invariant.2 c.values-test.false
