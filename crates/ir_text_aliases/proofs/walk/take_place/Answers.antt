use Rattle.std.specs.Prelude.{reverse}
use Rattle.ir_text_aliases.proofs.Putting.{place_moved}
use Rattle.ir_text_aliases.proofs.walk.take_place.Goals as goal

pub returns-clause-moved : goal.returns-clause-moved
returns-clause-moved c =
    place_moved c.args.at.now.scanned c.after_place-at.result (reverse c.args.at.now.outer.items) c.args.byte c.args.all.now c.args.tail.now c.in-Ok.rest.now c.after_loc.result.now c.args.out.now.text.items
    c.args.out.now.marks.items c.push_mark.new.marks.items c.len_of-len.result
    c.requires.all c.in-Ok.ensures c.after_loc.ensures c.in_ok-push_mark.ensures c.len_of-len.ensures c.after_place-at.ensures
