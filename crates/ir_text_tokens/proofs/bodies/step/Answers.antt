use Rattle.ir_text_tokens.proofs.Walk.{closed}
use Rattle.ir_text_tokens.proofs.Ahead.{closed_ahead}
use Rattle.ir_text_tokens.proofs.bodies.step.Goals as goal

pub returns-then-byte-nearest-clause-ok : goal.returns-then-byte-nearest-clause-ok
returns-then-byte-nearest-clause-ok c = closed c.args.coming.now.items c.args.nearest c.args.byte c.args.all.now c.args.tail.now c.requires.all c.if-byte-nearest.true

pub returns-then-byte-nearest-clause-ahead : goal.returns-then-byte-nearest-clause-ahead
returns-then-byte-nearest-clause-ahead c = closed_ahead c.args.coming.now.items c.args.nearest c.args.byte c.args.all.now c.args.tail.now c.requires.all c.if-byte-nearest.true
