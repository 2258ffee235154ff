use Rattle.std.proofs.Common.{◌∙◌, ap, sym, ℕ, List, eqb}
use Rattle.listeners_symbols.specs.Symbols.{is_among}
use Rattle.listeners_symbols.specs.Listeners.{kept_at}
use Rattle.listeners_symbols.specs.Lines.{undefined_by}
use Rattle.listeners_symbols.specs.Telling.{contributions}
use Rattle.listeners_symbols.proofs.NamesAdded.{none_named, one_named}
use Rattle.listeners_symbols.proofs.Telling.{names_reported}
use Rattle.listeners_symbols.proofs.names.undefined_names.Goals as goal

pub loop-op-preserved : goal.loop-op-preserved
loop-op-preserved c =
    let kept = kept_at c.args.roles.now in
    one_named kept c.in-Some.op.now c.next.new.self c.loop-op.op-iterator c.loop-op.names c.add_name_at.new.names (is_among eqb (contributions undefined_by kept c.args.roles.now.naming.keys)) (sym c.in-Some.ensures.steps) c.in_ok-add_name_at.ensures c.loop-op.invariant

pub returns : goal.returns
returns c n =
    let kept = kept_at c.args.roles.now in
    none_named kept c.loop-op.op-iterator c.loop-op.names (is_among eqb (contributions undefined_by kept c.args.roles.now.naming.keys)) c.in-None.ensures.steps.0 c.loop-op.invariant n
    ∙ ap (λ (l : List ℕ). is_among eqb l n) (names_reported c.args.roles.now c.ordered.ensures.all c.ordered.ensures.naming)
