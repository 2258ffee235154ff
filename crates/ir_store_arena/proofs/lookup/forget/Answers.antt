use Rattle.std.proofs.Common.{◌≡◌, ◌∙◌, ap, subst, ◌<◌, take, drop, length, ℕ, List, inr, arith}
use Rattle.std.specs.List.{remove}
use Rattle.ir_store_arena.specs.Slots.{keys, keep_gone}
use Rattle.ir_store_arena.proofs.Changed.{forget_shows, forget_keeps, forget_long}
use Rattle.ir_store_arena.proofs.lookup.forget.Goals as goal

pub returns-clause-gone : goal.returns-clause-gone
returns-clause-gone c =
    let P : List (ℕ × ℕ) → Type 0 = λ z. (c.in-Some.at < length z) × (keep_gone c.args.key (keys z) ≡ keys (remove z c.in-Some.at)) in
    let found = subst P (c.split_at.ensures.back ∙ ap (drop c.args.len) c.as_slice.ensures) c.in-Some.ensures in
    ap (λ z. keys (drop c.args.len z)) c.remove-slot.ensures.items
    ∙ forget_shows c.args.key c.args.len c.in-Some.at c.args.items.now.items c.requires found.1

pub returns-clause-len : goal.returns-clause-len
returns-clause-len c = omega (arith, ap length c.remove-slot.ensures.items, forget_long c.args.len c.in-Some.at c.args.items.now.items c.requires)

pub returns-clause-present : goal.returns-clause-present
returns-clause-present c = ap (take c.args.len) c.remove-slot.ensures.items ∙ forget_keeps c.args.len c.in-Some.at c.args.items.now.items c.requires

pub returns-clause-kept : goal.returns-clause-kept
returns-clause-kept c = inr (omega (arith, c.remove-slot.ensures.len, c.remove-slot.ensures.capacity, c.len-count.ensures.value, c.len-count.ensures.fits))

pub returns-clause-headroom : goal.returns-clause-headroom
returns-clause-headroom c = λ _. omega (arith, c.remove-slot.ensures.len, c.remove-slot.ensures.capacity, c.len-count.ensures.value, c.len-count.ensures.fits)
