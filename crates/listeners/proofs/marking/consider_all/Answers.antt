use Rattle.std.proofs.Common.{◌∙◌, ap, sym, subst, [], ◌∷◌, ◌++◌, append-nil, append_assoc, List, ℕ}
use Rattle.std.specs.Map.{keys_of}
use Rattle.listeners_symbols.specs.Lines.{numbers_at}
use Rattle.listeners.specs.Marks.{ConsideredIn, IsDefinition, Reaches, IsUnder, left_at, queue_of}
use Rattle.listeners.proofs.Silent.{considered_others, reported_or_quiet}
use Rattle.listeners.proofs.Taken.{considered_more}
use Rattle.listeners.proofs.marking.consider_all.Goals as goal

pub loop-op-preserved : goal.loop-op-preserved
loop-op-preserved c =
    let roles = numbers_at c.args.roles.now in
    let ds = c.args.definitions.now in
    let inv = c.loop-op.invariant in
    let op = c.in-Some.op.now in (
      inv.0 ++ op ∷ [],
      append_assoc inv.0 (op ∷ []) c.next.new.self ∙ ap (λ l. inv.0 ++ l) (sym c.in-Some.ensures.steps) ∙ inv.1,
      considered_more (IsDefinition roles) (IsUnder roles) (Reaches roles ds) inv.0 (op ∷ []) (queue_of c.args.pending.now) (queue_of c.loop-op.pending) (queue_of c.consider.new.pending) (left_at c.args.left.now) (left_at c.loop-op.left) (left_at c.consider.new.left) inv.2 c.in_ok-consider.ensures.considered,
    )

pub returns : goal.returns
returns c =
    let m = c.args.roles.now in
    let roles = numbers_at m in
    let ds = c.args.definitions.now in
    let inv = c.loop-op.invariant in
    let all = sym (append-nil inv.0) ∙ ap (λ l. inv.0 ++ l) (sym c.in-None.ensures.steps.0) ∙ inv.1 in
    considered_others (IsDefinition roles) (IsUnder roles) (Reaches roles ds) (keys_of m.all.entries) m.symbol_ops.keys (queue_of c.args.pending.now) (queue_of c.loop-op.pending) (left_at c.args.left.now) (left_at c.loop-op.left)
    (reported_or_quiet m ds)
    (subst (λ (ys : List ℕ). ConsideredIn roles ds ys c.args.pending.now c.args.left.now c.loop-op.pending c.loop-op.left) all inv.2)
