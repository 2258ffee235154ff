use Rattle.std.proofs.Common.{◌≡◌, subst}
use Rattle.std.specs.Prelude.{OnOk}
use Rattle.listeners_symbols.specs.Found.{found_meaning}
use Rattle.listeners_symbols.proofs.Meant.{dictionary_is}
use Rattle.listeners_symbols.proofs.references.add_dictionary.Goals as goal

pub returns-clause-added : goal.returns-clause-added
returns-clause-added c =
    let ctx = c.args.ctx.now in
    subst (λ l. OnOk c.add_entries.result (found_meaning ctx c.add_entries.new.out ≡ l)) (dictionary_is ctx c.args.entries.now (found_meaning ctx c.args.out.now)) c.add_entries.ensures.added
