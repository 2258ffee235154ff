use Rattle.std.proofs.Common.{◌≡◌, None, rules}
use Rattle.listeners_symbols.specs.Lines.{first_in}
use Rattle.listeners_symbols.proofs.Lines.{inserted_first}
use Rattle.listeners_symbols.proofs.definitions.add_first.Goals as goal

pub returns : goal.returns
returns c t n =
    let k = c.args.definition.now.0 in
    let none : first_in c.args.first.now k.0 k.1 ≡ None = search rules in
    inserted_first c.args.first.now c.insert.new.self k c.args.definition.now.1 (c.in_ok-insert.ensures.updates.0) none t n
