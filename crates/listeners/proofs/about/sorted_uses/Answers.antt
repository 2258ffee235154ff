use Rattle.std.proofs.Common.{◌≡◌, ◌∙◌, ◌++◌, ap, [], rules}
use Rattle.listeners.specs.Keys.{keys_of}
use Rattle.listeners.proofs.Sorted.{sorted_keys_of}
use Rattle.listeners.proofs.about.sorted_uses.Goals as goal

pub returns : goal.returns
returns c =
    let made = c.in_ok-push_all_uses.ensures in
    let empty : c.new-keys.result.items ≡ [] = search rules in
    (made.0, made.1, sorted_keys_of made.0 _ _ (made.2 ∙ ap (λ l. l ++ keys_of made.0) empty) c.sort_unstable.ensures.permutation c.sort_unstable.ensures.sorted)
