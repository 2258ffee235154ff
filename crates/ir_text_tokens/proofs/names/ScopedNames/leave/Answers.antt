use Rattle.std.proofs.Common.{◌≡◌, ◌++◌, ◌∷◌, [], length, ap, ◌∙◌, arith}
use Rattle.ir_text_tokens.specs.Scopes.{left}
use Rattle.ir_text_tokens.proofs.Kept.{leaves, leaves_none}
use Rattle.ir_text_tokens.proofs.names.ScopedNames.leave.Goals as goal

pub returns-in-Some : goal.returns-in-Some
returns-in-Some g c =
    let e : c.self.inside.floors.items ≡ c.pop.new.self.items ++ c.in-Some.floor ∷ [] = rw c.in-Some.is at c.pop.ensures.items in
    leaves c.self.inside.entries.items c.cut.new.entries.items c.pop.new.self.items c.self.inside.floors.items c.in-Some.floor c.self.inside.first _ e c.cut.ensures.cut c.self.invariant.standing ∙ ap left c.self.view_is

pub returns-in_default : goal.returns-in_default
returns-in_default g c =
    let old : length c.self.inside.floors.items ≡ 0 = omega (arith, c.in_default.ensures.cases.0) in
    let new : length c.pop.new.self.items ≡ 0 = omega (arith, c.in_default.ensures.cases.1) in
    leaves_none c.self.inside.entries.items c.pop.new.self.items c.self.inside.floors.items c.self.inside.first old new ∙ ap left c.self.view_is
