use Rattle.std.proofs.Common.{◌∙◌, sym, ap, subst, slice_get}
use Rattle.std.specs.Map.{keys_of}
use Rattle.std.specs.Option.{option_map}
use Rattle.ir_types.specs.Things.{ContextModel}
use Rattle.ir_types.specs.Sound.{Holds}
use Rattle.ir_types.proofs.Calls.{key_at}
use Rattle.ir_types.proofs.context.Context.attr_node.Goals as goal

pub returns-clause-kept : goal.returns-clause-kept
returns-clause-kept c =
    let holds : Holds c.args.self.now = subst Holds c.self.view_is c.self.invariant.holds in
    holds.attrs_kept c.args.id c.unwrap.result.0.now
    (ap (λ (d : ContextModel). slice_get d.attrs c.args.id) (sym c.self.view_is) ∙ ap (slice_get (keys_of c.self.inside.attrs.entries)) (sym c.number.ensures)
    ∙ key_at c.self.inside.attrs.entries c.number.result (c.unwrap.result.0.now, c.unwrap.result.1.now) (sym c.get_index.ensures.entry ∙ ap (option_map (λ p. (p.0.now, p.1.now))) c.unwrap.ensures))
