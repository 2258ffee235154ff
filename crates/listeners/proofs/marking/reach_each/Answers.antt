use Rattle.std.proofs.Common.{ap, map, refl, subst, ◌++◌, eqb, List, ℕ}
use Rattle.listeners_symbols.specs.Table.{reference_of}
use Rattle.listeners_symbols.specs.Lines.{numbers_at}
use Rattle.listeners.specs.Unreached.{prefixes}
use Rattle.listeners.specs.Marks.{IsDefinition, Reaches, RemovedIn, IsUnder, left_at, queue_of}
use Rattle.listeners.proofs.Taken.{removed_more}
use Rattle.listeners.proofs.Steps.{from_item, le_trans, target_step}
use Rattle.listeners.proofs.marking.reach_each.Goals as goal

pub loop-rest-preserved : goal.loop-rest-preserved
loop-rest-preserved c =
    let roles = numbers_at c.args.roles.now in
    let ds = c.args.definitions.now in
    let table = c.args.table.now in
    let inv = c.loop-rest.invariant in
    let rest = c.loop-rest.rest.now in
    let p = reference_of c.reference-item.result in
    let whole = from_item rest c.reference-item.result _ _ c.in-len1-up.len_at_least c.reference-item.is refl in
    let taken = subst (λ (l : List ℕ). RemovedIn roles ds (prefixes eqb roles ds table l) c.loop-rest.pending c.loop-rest.left c.reach.new.pending c.reach.new.left) c.deref.ensures.value c.in_ok-reach.ensures.removed in (
      (
        inv.0.0 ++ prefixes eqb roles ds table p.1,
        target_step roles ds table _ p _ (map reference_of rest) inv.0.0 (ap (map reference_of) whole) inv.0.1,
        removed_more (IsDefinition roles) (IsUnder roles) (Reaches roles ds) inv.0.0 (prefixes eqb roles ds table p.1) (queue_of c.args.pending.now) (queue_of c.loop-rest.pending) (queue_of c.reach.new.pending) (left_at c.args.left.now) (left_at c.loop-rest.left) (left_at c.reach.new.left) inv.0.2 taken,
      ),
      le_trans _ _ _ inv.1 c.in_ok-reach.ensures.size,
    )
