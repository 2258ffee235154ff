use Rattle.std.proofs.Common.{◌≡◌, ◌∙◌, ◌-◌, ◌<◌, ◌++◌, ◌∷◌, [], ap, subst, None, take, length, ℕ, List}
use Rattle.std.specs.List.{remove}
use Rattle.ir_tree_laws.specs.trees.Edits.{drop_entry}
use Rattle.ir_tree_laws.specs.trees.Meaning.{key_before_in}
use Rattle.ir_store_arena.specs.Slots.{slots_of, with_change}
use Rattle.ir_store_arena.proofs.Changed.{remove_shows}
use Rattle.ir_store_arena.proofs.dictionary.Dictionary.remove.Goals as goal

pub returns : goal.returns
returns c =
    let before = key_before_in c.args.ctx.now in
    let P : List (ℕ × ℕ) → Type 0 = λ z. (c.in-Some.at < length z) × (drop_entry before c.args.key z ≡ remove z c.in-Some.at) in
    let found = subst P (c.split_at.ensures.front ∙ ap (take c.self.inside.len) c.as_slice.ensures) c.in-Some.ensures in
    let attr = c.remove-key.result.1 in
    ap (slots_of (c.self.inside.len - 1)) (c.in-Ok.ensures.ok ∙ ap (λ z. z ++ (c.args.key, attr) ∷ []) c.remove-key.ensures.items)
    ∙ remove_shows before c.args.key c.self.inside.len c.in-Some.at c.self.inside.items.items c.self.invariant attr found.0 found.1
    ∙ ap (with_change before c.args.key None) c.self.view_is
