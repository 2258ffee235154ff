use Rattle.std.proofs.Common.{◌∙◌, ap, sym, ◌||◌, eqb}
use Rattle.std.specs.Ordering.{nat_cmp}
use Rattle.std.specs.BTreeSet.{contains}
use Rattle.listeners_symbols.specs.Symbols.{is_among, name_unless}
use Rattle.listeners_symbols.proofs.NamesAdded.{one_more}
use Rattle.listeners_symbols.proofs.names.add_name.Goals as goal

pub returns : goal.returns
returns c n =
    let before = c.args.names.now in
    one_more c.in-Some.name before c.insert.new.self c.in_ok-insert.ensures.updates n
    ∙ sym (ap (λ l. contains nat_cmp before n || is_among eqb l n) (λ i. name_unless ((sym c.defines.ensures ∙ c.if-defines.false) i) (c.in-Some.is i)))
