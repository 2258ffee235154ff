use Rattle.std.proofs.Common.{◌∙◌, ap, refl, is_some, filter, ◌++◌, take, drop, length, ◌-◌, ℕ, Bool, List}
use Rattle.listeners.specs.Marks.{left_at}
use Rattle.listeners.proofs.Steps.{from_item, keeps_if}
use Rattle.listeners.proofs.list.those_left.Goals as goal

pub loop-rest-preserved : goal.loop-rest-preserved
loop-rest-preserved c =
    let f : ℕ → Bool = λ x. is_some (left_at c.args.left.now x) in
    let rest = c.loop-rest.rest.now in
    let out = c.loop-rest.out.items in
    let more : List ℕ = take (length rest - 1) (drop 1 rest) in
    let whole = from_item rest c.op-item.result _ _ c.in-len1-up.len_at_least c.op-item.is refl in
    ap (λ (l : List ℕ). l ++ filter f more) c.in_ok-push_left.ensures ∙ keeps_if f c.op-item.result out more ∙ ap (λ (l : List ℕ). out ++ filter f l) whole ∙ c.loop-rest.invariant
