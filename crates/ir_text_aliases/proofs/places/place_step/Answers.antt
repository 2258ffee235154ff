use Rattle.std.specs.Prelude.{reverse}
use Rattle.ir_text_aliases.proofs.Placing.{goes_on, stops}
use Rattle.ir_text_aliases.proofs.places.place_step.Goals as goal

pub returns-in-Ok-clause-ok : goal.returns-in-Ok-clause-ok
returns-in-Ok-clause-ok c =
    goes_on c.args.byte c.args.coming.now.items (reverse c.place_lexeme.new.coming.items) c.args.all.now c.args.tail.now c.in-Ok.rest.now
    c.requires.some c.requires.all c.in-Ok.ensures.ok.0 c.in-Ok.ensures.ok.1 c.in-Ok.ensures.ok.2

pub returns-in-Err-clause-err : goal.returns-in-Err-clause-err
returns-in-Err-clause-err c =
    stops c.args.byte c.args.coming.now.items c.args.all.now c.args.tail.now c.at.result c.in-Err.refusal
    c.requires.some c.requires.all c.in-Err.ensures.err c.at.ensures.refusal c.at.ensures.left
