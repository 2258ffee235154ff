use Rattle.std.proofs.Common.{◌∙◌, ◌+◌, ℕ, ap, length, set, subst, Some, take, drop}
use Rattle.std.proofs.lemmas.List.{take_at, length-set}
use Rattle.ir_tree_laws.specs.trees.Meaning.{key_before_in}
use Rattle.ir_store_arena.specs.Slots.{slots_of, with_change}
use Rattle.ir_store_arena.proofs.Changed.{set_shows, insert_shows}
use Rattle.ir_store_arena.proofs.Lookups.{Found, Free}
use Rattle.ir_store_arena.proofs.dictionary.Dictionary.set.Goals as goal

pub returns-in-Ok-clause-set : goal.returns-in-Ok-clause-set
returns-in-Ok-clause-set c =
    let before = key_before_in c.args.ctx.now in
    let found = subst (Found before c.args.key c.in-Ok.at) (c.split_at.ensures.front ∙ ap (take c.self.inside.len) c.as_slice.ensures) c.in-Ok.ensures in
    let shown = c.deref_mut.result.now in
    let all = c.forget.new.items.items in
    let entry : ℕ × ℕ = (c.args.key, c.args.attr) in
    let new = set shown c.in-Ok.at entry in
    let whole = take_at new (drop (length new) all) (length all) (length-set shown c.in-Ok.at entry ∙ ap length c.deref_mut.ensures.value) ∙ ap (λ z. set z c.in-Ok.at entry) c.deref_mut.ensures.value in
    ap (slots_of c.self.inside.len) whole
    ∙ set_shows before c.args.key c.self.inside.len c.in-Ok.at c.self.inside.items.items c.self.invariant c.args.attr c.forget.new.items.items
    c.forget.ensures.len c.forget.ensures.present c.forget.ensures.gone found.0 (found.1 c.args.attr)
    ∙ ap (with_change before c.args.key (Some c.args.attr)) c.self.view_is

pub returns-in-Ok-insert-clause-set : goal.returns-in-Ok-insert-clause-set
returns-in-Ok-insert-clause-set c =
    let before = key_before_in c.args.ctx.now in
    let free = subst (Free before c.args.key c.in-Err.at) (c.split_at.ensures.front ∙ ap (take c.self.inside.len) c.as_slice.ensures) c.in-Err.ensures in
    ap (slots_of (c.self.inside.len + 1)) c.in-Ok-insert.ensures.ok
    ∙ insert_shows before c.args.key c.self.inside.len c.in-Err.at c.self.inside.items.items c.self.invariant c.args.attr c.forget.new.items.items
    c.forget.ensures.len c.forget.ensures.present c.forget.ensures.gone free.0 (free.1 c.args.attr)
    ∙ ap (with_change before c.args.key (Some c.args.attr)) c.self.view_is
