use Rattle.std.proofs.Common.{◌≡◌, ◌∙◌, ap, sym, ℕ, List, map, None}
use Rattle.ir_event.specs.types.Terms.{attr_term, name_term}
use Rattle.ir_event.specs.trees.Maps.{map_entry}
use Rattle.ir_event.specs.trees.Ids.{first_of}
use Rattle.listeners_symbols.specs.Roles.{name_in}
use Rattle.listeners_symbols.specs.Table.{head_meaning}
use Rattle.listeners_symbols.proofs.properties.name_of.Goals as goal

pub returns-in_default-clause-name : goal.returns-in_default-clause-name
returns-in_default-clause-name c =
    let ctx = c.args.ctx.now in
    let h = head_meaning ctx c.args.node.now.head in
    let named = (λ (es : List (ℕ × ℕ)). name_in (map (map_entry (name_term ctx) (attr_term ctx)) es)) in
    let none : name_in h.properties ≡ None = sym (ap named c.properties.ensures) ∙ sym c.in_default.ensures.name in
    c.name_in-in_default.ensures.name ∙ ap named c.attributes.ensures ∙ sym (ap (λ o. first_of o (name_in h.attributes)) none)
