use Rattle.std.proofs.Common.{◌∙◌, ap, refl, [], ◌∷◌, ◌++◌, append_assoc}
use Rattle.listeners_symbols.specs.Lines.{numbers_at}
use Rattle.listeners.specs.Marks.{IsDefinition, Reaches, IsUnder, left_at, queue_of}
use Rattle.listeners.proofs.Taken.{considered_more}
use Rattle.listeners.proofs.Steps.{from_item, le_trans}
use Rattle.listeners.proofs.marking.consider_each.Goals as goal

pub loop-rest-preserved : goal.loop-rest-preserved
loop-rest-preserved c =
    let roles = numbers_at c.args.roles.now in
    let ds = c.args.definitions.now in
    let inv = c.loop-rest.invariant in
    let op = c.op-item.result in
    let rest = c.loop-rest.rest.now in
    let whole = from_item rest op _ _ c.in-len1-up.len_at_least c.op-item.is refl in (
      (
        inv.0.0 ++ op ∷ [],
        append_assoc inv.0.0 (op ∷ []) _ ∙ ap (λ l. inv.0.0 ++ l) whole ∙ inv.0.1,
        considered_more (IsDefinition roles) (IsUnder roles) (Reaches roles ds) inv.0.0 (op ∷ []) (queue_of c.args.pending.now) (queue_of c.loop-rest.pending) (queue_of c.consider.new.pending) (left_at c.args.left.now) (left_at c.loop-rest.left) (left_at c.consider.new.left) inv.0.2 c.in_ok-consider.ensures.considered,
      ),
      le_trans _ _ _ inv.1 c.in_ok-consider.ensures.size,
    )
