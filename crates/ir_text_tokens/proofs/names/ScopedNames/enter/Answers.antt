use Rattle.std.proofs.Common.{◌≡◌, length, arith, refl}
use Rattle.ir_text_tokens.proofs.Kept.{enters}
use Rattle.ir_text_tokens.proofs.names.ScopedNames.enter.Goals as goal

pub returns-then-isolated-clause-ok : goal.returns-then-isolated-clause-ok
returns-then-isolated-clause-ok g c =
    let k : c.len-count.result ≡ length c.self.inside.entries.items = omega (arith, c.len-count.ensures) in
    rw (← c.self.view_is) (enters c.self.inside.entries.items c.self.inside.floors.items c.push.new.self.items c.self.inside.first c.len-count.result k c.in_ok-push.ensures.items c.args.isolated c.len-count.result (rw c.if-isolated.true refl))

pub returns-else-isolated-clause-ok : goal.returns-else-isolated-clause-ok
returns-else-isolated-clause-ok g c =
    let k : c.len-count.result ≡ length c.self.inside.entries.items = omega (arith, c.len-count.ensures) in
    rw (← c.self.view_is) (enters c.self.inside.entries.items c.self.inside.floors.items c.push.new.self.items c.self.inside.first c.len-count.result k c.in_ok-push.ensures.items c.args.isolated c.self.inside.first (rw c.if-isolated.false refl))
