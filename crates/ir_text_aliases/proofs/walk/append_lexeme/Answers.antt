use Rattle.std.specs.Prelude.{reverse}
use Rattle.ir_text_aliases.proofs.Putting.{lexeme_moved}
use Rattle.ir_text_aliases.proofs.walk.append_lexeme.Goals as goal

pub returns : goal.returns
returns c = record {
  moved =
      lexeme_moved c.args.at.now.scanned c.in_ok-at.field-0 (reverse c.args.at.now.outer.items) (reverse c.pass.new.outer.items) c.args.byte c.args.all.now c.args.tail.now c.after_lexeme-rest.result.now c.args.out.now.text.items c.write_bytes.new.out.items c.args.out.now.marks.items
      c.requires.all c.after_lexeme-rest.ensures c.in_ok-write_bytes.ensures c.in_ok-at.ensures.scanned c.in_ok-at.ensures.outer;
}
