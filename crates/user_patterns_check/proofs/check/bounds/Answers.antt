use Rattle.std.proofs.Common.{◌∙◌, ◌++◌, ◌-◌, List, ℕ, arith, ap, sym, replicate}
use Rattle.user_patterns_check.proofs.Products.{exceeds, factor_out, one_less}
use Rattle.user_patterns_check.proofs.check.bounds.Goals as goal

pub returns-then-product-gt16777216 : goal.returns-then-product-gt16777216
returns-then-product-gt16777216 c = exceeds c.types.product c.args.most c.types.left _ _ c.types-test.true c.types.invariant.1 c.if-product-gt16777216.true

pub types-preserved : goal.types-preserved
types-preserved c = (
  ap (λ (xs : List ℕ). xs ++ replicate (c.types.left - 1) c.args.most) c.in_ok-push.ensures.items ∙ one_less c.types.bounds.items _ c.types.left c.args.most c.types-test.true c.types.invariant.0,
  sym (factor_out c.types.product c.args.most c.types.left c.types-test.true) ∙ c.types.invariant.1,
  omega (arith, c.if-product-gt16777216.false),
)
