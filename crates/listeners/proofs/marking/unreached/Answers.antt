use Rattle.std.proofs.Common.{subst, List, ℕ}
use Rattle.listeners_symbols.specs.Symbols.{DefinitionOf}
use Rattle.listeners_symbols.specs.Lines.{numbers_at}
use Rattle.listeners.specs.Marks.{IsDefinition, IsMarked, Reaches, IsUnder, left_at}
use Rattle.listeners.proofs.Taken.{marked_complete}
use Rattle.listeners.proofs.marking.unreached.Goals as goal

pub returns : goal.returns
returns c =
    let roles = numbers_at c.args.roles.now in
    let left = left_at c.mark.new.left in
    let go = c.in_ok-mark.ensures c.in_ok-left.ensures in
    subst (λ (ds : List (DefinitionOf ℕ)). IsMarked roles ds left) c.in_ok-definitions.ensures
    (record { sound = go.sound; complete = marked_complete (IsDefinition roles) (IsUnder roles) (Reaches roles c.in_ok-definitions.definitions) left go; only = go.only })
