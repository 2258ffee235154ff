use Rattle.std.proofs.Common.{◌∙◌, sym}
use Rattle.listeners_symbols.specs.Listeners.{kept_at}
use Rattle.listeners_symbols.specs.Lines.{defined_by}
use Rattle.listeners_symbols.proofs.Telling.{definitions_reported, none_listed, one_listed}
use Rattle.listeners_symbols.proofs.definitions.listed.Goals as goal

pub loop-op-preserved : goal.loop-op-preserved
loop-op-preserved c =
    one_listed defined_by (kept_at c.args.roles.now) c.in-Some.op.now c.next.new.self c.loop-op.op-iterator c.loop-op.out.items c.push_definition_at.new.out.items _ (sym c.in-Some.ensures.steps) c.in_ok-push_definition_at.ensures c.loop-op.invariant

pub returns : goal.returns
returns c =
    none_listed defined_by (kept_at c.args.roles.now) c.loop-op.op-iterator c.loop-op.out.items _ c.in-None.ensures.steps.0 c.loop-op.invariant
    ∙ definitions_reported c.args.roles.now c.ordered.ensures.all c.ordered.ensures.symbol_ops
