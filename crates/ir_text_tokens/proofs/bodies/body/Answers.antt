use Rattle.std.proofs.Common.{sym}
use Rattle.ir_text_tokens.proofs.Again.{within}
use Rattle.ir_text_tokens.proofs.bodies.body.Goals as goal

pub slice_bounds-result-count : goal.slice_bounds-result-count
slice_bounds-result-count c = within c.args.bytes.now c.in-Ok.rest.now (sym c.in-Ok.ensures)
