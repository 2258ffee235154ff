use Rattle.std.proofs.Common.{subst, eqb, Option, ℕ}
use Rattle.listeners_symbols.specs.Lines.{numbers_at}
use Rattle.listeners.specs.Unreached.{reached_from}
use Rattle.listeners.specs.Marks.{IsAbove, IsDefinition, Reaches, IsUnder, left_at, queue_of}
use Rattle.listeners.proofs.Taken.{considered_waits, considered_reaches, considered_nothing}
use Rattle.listeners.proofs.Steps.{on_ok}
use Rattle.listeners.proofs.marking.consider.Goals as goal
use Rattle.ir_event.proofs.of_tree_laws.Reasoned.{some_there}

pub returns-then-refers_to_none-clause-considered : goal.returns-then-refers_to_none-clause-considered
returns-then-refers_to_none-clause-considered c =
    let roles = numbers_at c.args.roles.now in
    let ds = c.args.definitions.now in
    considered_nothing (IsDefinition roles) (IsUnder roles) (Reaches roles ds) c.args.op (reached_from eqb roles ds (roles c.args.op)) (queue_of c.args.pending.now) (left_at c.args.left.now) (λ x h. h) (c.refers_to_none.ensures ds c.if-refers_to_none.true)

pub returns-in-Some-clause-considered : goal.returns-in-Some-clause-considered
returns-in-Some-clause-considered c =
    let roles = numbers_at c.args.roles.now in
    let ds = c.args.definitions.now in
    let left = left_at c.args.left.now in
    let above = subst (λ (o : Option ℕ). IsAbove roles left c.args.op o) c.in-Some.is c.in_ok-definition.ensures in
    let ws = some_there (left c.in-Some.definition) above.1 in
    on_ok _ _ c.wait.result (λ f. considered_waits (IsDefinition roles) (IsUnder roles) (Reaches roles ds) c.args.op c.in-Some.definition ws.0 (queue_of c.args.pending.now) left (left_at c.wait.new.left) above.0 (f ws.0 ws.1)) c.wait.ensures.waiting

pub returns-in-None-clause-considered : goal.returns-in-None-clause-considered
returns-in-None-clause-considered c =
    let roles = numbers_at c.args.roles.now in
    let ds = c.args.definitions.now in
    let left = left_at c.args.left.now in
    let none = subst (λ (o : Option ℕ). IsAbove roles left c.args.op o) c.in-None.is c.in_ok-definition.ensures in
    on_ok _ _ c.reach_from.result (λ d. considered_reaches (IsDefinition roles) (IsUnder roles) (Reaches roles ds) c.args.op (reached_from eqb roles ds (roles c.args.op)) (queue_of c.args.pending.now) (queue_of c.reach_from.new.pending) left (left_at c.reach_from.new.left) none (λ x h. h) (λ x h. h) d) c.reach_from.ensures.removed
