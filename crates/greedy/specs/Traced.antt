-- Joined lists of rewrites.
use Rattle.std.specs.Prelude.{◌≡◌, ◌++◌, List, []}
use Rattle.std.proofs.Common.{ap, sym, ◌∙◌, append-nil, append_assoc}
use Rattle.greedy.specs.declared.applied_rewrite.AppliedRewrite.{AppliedRewrite}

pub untouched_items : (xs : List AppliedRewrite) → xs ≡ xs ++ []
untouched_items xs = sym (append-nil xs)

pub joined_items : (fs gs xs ys zs : List AppliedRewrite) → ys ≡ xs ++ fs → zs ≡ ys ++ gs → zs ≡ xs ++ (fs ++ gs)
joined_items fs gs xs ys zs f g = g ∙ ap (λ l. l ++ gs) f ∙ append_assoc xs fs gs
