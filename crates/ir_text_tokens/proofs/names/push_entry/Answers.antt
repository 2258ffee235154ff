use Rattle.std.proofs.Common.{◌≡◌, length, ap, ◌∙◌, arith}
use Rattle.ir_text_tokens.specs.Places.{joined}
use Rattle.ir_text_tokens.proofs.Kept.{agrees_push}
use Rattle.ir_text_tokens.proofs.names.push_entry.Goals as goal

pub returns-in-Ok-insert-clause-agrees : goal.returns-in-Ok-insert-clause-agrees
returns-in-Ok-insert-clause-agrees g c =
    let same : c.reserve.new.self.items ≡ c.args.entries.now.items = c.reserve.ensures.items in
    let count : c.len-place.result ≡ length c.reserve.new.self.items = omega (arith, c.len-place.ensures) in
    let place : c.len-place.result ≡ length c.args.entries.now.items = count ∙ ap length same in
    rw (c.push_reserved.ensures.items, same) (agrees_push c.args.latest.now c.insert.new.self c.args.entries.now.items _ c.requires (rw place at c.in-Ok-insert.ensures.updates.0) (c.joined-hidden.ensures ∙ ap joined c.in-Ok-insert.ensures.old))

pub returns-in-Ok-insert-clause-shadowed : goal.returns-in-Ok-insert-clause-shadowed
returns-in-Ok-insert-clause-shadowed g c = c.joined-hidden.ensures ∙ ap joined c.in-Ok-insert.ensures.old ∙ c.requires.found c.args.name
