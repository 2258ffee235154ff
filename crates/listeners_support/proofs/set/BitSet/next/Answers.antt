use Rattle.std.proofs.Common.{ℕ, ◌+◌, ◌*◌, ◌/◌, List, subst}
use Rattle.listeners_support.specs.Bits.{IsFirst, IsNext}
use Rattle.listeners_support.proofs.Indexes.{NearNone, found_far, never}
use Rattle.listeners_support.proofs.set.BitSet.next.Goals as goal

pub returns-in-Some-first_near : goal.returns-in-Some-first_near
returns-in-Some-first_near c =
    let words = c.self.inside.words.items in
    let groups = c.self.inside.groups.items in
    let from = c.args.from in
    let near = subst (λ (z : List ℕ). NearNone z from) c.deref.ensures.value (c.in_default.ensures) in
    let far = subst (λ (z : List ℕ). IsFirst z (from / 64 + 1) c.in-Some-first.word) c.deref-2.ensures.value (c.in-Some-first.ensures) in
    let last = subst (λ (z : List ℕ). IsFirst z (c.in-Some-first.word * 64) c.in-Some-first_near.number) c.deref-3.ensures.value (c.in-Some-first_near.ensures) in
    subst (λ (z : List ℕ). IsNext z from c.in-Some-first_near.number) c.self.view_is (found_far words groups c.self.invariant from near c.in-Some-first.word c.in-Some-first_near.number far last)

pub returns-in-None : goal.returns-in-None
returns-in-None c =
    let words = c.self.inside.words.items in
    let groups = c.self.inside.groups.items in
    let from = c.args.from in
    let near = subst (λ (z : List ℕ). NearNone z from) c.deref.ensures.value (c.in_default.ensures) in
    let far = subst (λ (z : List ℕ). IsFirst z (from / 64 + 1) c.in-Some-first.word) c.deref-2.ensures.value (c.in-Some-first.ensures) in
    let last = subst (λ (z : List ℕ). NearNone z (c.in-Some-first.word * 64)) c.deref-3.ensures.value (c.in-None.ensures) in
    absurd (never words groups c.self.invariant from near c.in-Some-first.word far last)
