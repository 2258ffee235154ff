use Rattle.std.proofs.Common.{◌≡◌, ◌∙◌, ap, subst, [], ◌∷◌, ◌++◌, List, ℕ, map}
use Rattle.std.proofs.lemmas.List.{map-append}
use Rattle.listeners_symbols.specs.Lines.{numbers_at}
use Rattle.listeners.specs.Marks.{IsDefinition, Reaches, IsUnder, left_at, queue_of}
use Rattle.listeners.specs.Marking.{Marks, Considered}
use Rattle.listeners.proofs.Taken.{popped}
use Rattle.listeners.proofs.marking.settle.Goals as goal

pub pending-preserved : goal.pending-preserved
pending-preserved c start =
    let roles = numbers_at c.args.roles.now in
    let ds = c.args.definitions.now in
    let P = IsDefinition roles in
    let U = IsUnder roles in
    let R = Reaches roles ds in
    let ws = c.in-Some.waiting.items in
    let q = queue_of c.pop.new.self in
    let left = left_at c.pending.left in
    let last : queue_of c.pending.pending ≡ q ++ ws ∷ [] = ap (map (λ v. v.items)) c.in-Some.ensures.items ∙ map-append (λ v. v.items) c.pop.new.self.items (c.in-Some.waiting ∷ []) in
    let now = popped P U R ws q left (subst (λ (z : List (List ℕ)). Marks P U R [] z left) last (c.pending.invariant start)) in
    let step = subst (λ (z : List ℕ). Considered P U R z q left (queue_of c.consider_each.new.pending) (left_at c.consider_each.new.left)) c.deref.ensures.value c.in_ok-consider_each.ensures.considered in
    step.keeps [] now
