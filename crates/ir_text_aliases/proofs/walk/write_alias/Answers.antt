use Rattle.std.proofs.Common.{refl, ◌∙◌}
use Rattle.std.specs.Prelude.{reverse}
use Rattle.ir_text_aliases.proofs.Putting.{alias_moved, alias_stuck}
use Rattle.ir_text_aliases.proofs.walk.write_alias.Goals as goal

pub returns-in-Err-clause-stuck : goal.returns-in-Err-clause-stuck
returns-in-Err-clause-stuck c = λ f e. (
  alias_stuck c.args.part.now c.args.values.now c.args.names.now.here c.args.at.now.scanned c.args.byte c.args.all.now c.args.tail.now c.args.rest.now c.args.out.now.text.items c.len_of-before.result c.in-Err.refusal c.at.result
      c.requires.all c.requires.rest c.in-Err.ensures.err c.len_of-before.ensures c.at.ensures.refusal c.at.ensures.left ∙ e,
  refl,
  refl,
)

pub returns-clause-moved : goal.returns-clause-moved
returns-clause-moved c = λ _.
    alias_moved c.args.part.now c.args.values.now c.args.names.now.here c.args.at.now.scanned c.after_alias_of-at.result (reverse c.args.at.now.outer.items) c.args.byte c.args.all.now c.args.tail.now c.args.rest.now
    c.args.out.now.text.items c.append_value.new.out.items c.in-Ok.value.now c.args.out.now.marks.items c.push_mark.new.marks.items c.len_of-before.result c.len_of.result
    c.requires.all c.requires.rest c.in-Ok.ensures.ok.0 c.in-Ok.ensures.ok.1 c.in_ok-append_value.ensures c.in_ok-push_mark.ensures c.len_of-before.ensures c.len_of.ensures c.after_alias_of-at.ensures
