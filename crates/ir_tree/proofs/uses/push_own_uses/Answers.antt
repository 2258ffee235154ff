use Rattle.std.proofs.Common.{◌≡◌, ◌∙◌, ap, refl, ◌++◌, ◌∷◌, [], ◌+◌, ℕ, List, Bool, true, false, cond, drop}
use Rattle.ir_tree.specs.Uses.{operand_uses, same_value}
use Rattle.ir_tree.specs.declared.value.Value.{Value}
use Rattle.ir_tree.proofs.Steps.{made_next, made_all}
use Rattle.ir_tree.proofs.uses.push_own_uses.Goals as goal

-- the uses by a list of operands are those by its first operand, followed by those by the rest
first_uses : (v : Value) (x k : ℕ) (w : Value) (ws : List Value) → operand_uses v x k (w ∷ []) ++ operand_uses v x (k + 1) ws ≡ operand_uses v x k (w ∷ ws)
first_uses v x k w ws = by_cases (same_value v w)
  where
    by_cases : (b : Bool) → cond b ((x, k) ∷ []) [] ++ operand_uses v x (k + 1) ws ≡ cond b ((x, k) ∷ operand_uses v x (k + 1) ws) (operand_uses v x (k + 1) ws)
    by_cases true = refl
    by_cases false = refl

pub loop-number-preserved : goal.loop-number-preserved
loop-number-preserved c =
    let v = c.args.value.now in
    let user = c.args.user in
    let xs = c.deref-operand-items.result.now in
    let n = c.loop-number.number in
    let w = c.operand-item.result in
    let todo = λ (n : ℕ) (xs : List Value). operand_uses v user n xs in
    made_next todo xs n w (operand_uses v user n (w ∷ [])) c.loop-number.out.items c.push_use.new.out.items (c.args.out.now.items ++ todo 0 xs)
    c.loop-number-test.true c.operand-item.is c.in_ok-push_use.ensures (first_uses v user n w (drop (n + 1) xs)) c.loop-number.invariant

pub returns : goal.returns
returns c =
    let xs = c.deref-operand-items.result.now in
    let todo = λ (n : ℕ) (xs : List Value). operand_uses c.args.value.now c.args.user n xs in
    made_all todo xs c.loop-number.number c.loop-number.out.items (c.args.out.now.items ++ todo 0 xs) refl c.loop-number-test.false c.loop-number.invariant
    ∙ ap (λ xs. c.args.out.now.items ++ todo 0 xs) c.deref-operand-items.ensures.value
