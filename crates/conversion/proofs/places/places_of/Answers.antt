use Rattle.std.proofs.Common.{nat_eq}
use Rattle.std.specs.HashMap.{get}
use Rattle.conversion.proofs.Waiting.{noting_done, noting_more}
use Rattle.conversion.proofs.places.places_of.Goals as goal

pub ops-preserved : goal.ops-preserved
ops-preserved c = noting_more c.args.ops.now c.ops.rest.now c.op-item.result c.ops.place (get nat_eq c.ops.places) (get nat_eq c.note.new.places) c.requires.distinct c.in-len1-up.len_at_least c.op-item.is c.ops.invariant c.in_ok-note.ensures

pub returns : goal.returns
returns c = noting_done c.args.ops.now c.ops.rest.now c.ops.place (get nat_eq c.ops.places) c.in_default.len_below c.ops.invariant
