use Rattle.std.proofs.Common.{length, sym, subst, ◌∙◌}
use Rattle.std.specs.Prelude.{reverse, IfOk, IfErr}
use Rattle.ir_text_aliases.specs.Walk.{move}
use Rattle.ir_text_aliases.specs.Steps.{Moved, Stuck}
use Rattle.ir_text_aliases.proofs.Moving.{goes_on, moved_shorter, stops_here, stuck_here}
use Rattle.ir_text_aliases.proofs.walk.turn.Goals as goal

pub returns-then-stops-clause-ends : goal.returns-then-stops-clause-ends
returns-then-stops-clause-ends c =
    stops_here c.args.part.now c.args.values.now c.args.names.now.here c.args.at.now.scanned (reverse c.args.at.now.outer.items) c.args.byte c.args.all.now c.args.tail.now c.args.out.now.text.items c.args.out.now.marks.items
    c.requires.all (sym c.stops.ensures ∙ c.if-stops.true)

pub returns-in-Ok-clause-on : goal.returns-in-Ok-clause-on
returns-in-Ok-clause-on c =
    goes_on c.args.part.now c.args.values.now c.args.names.now.here c.args.at.now.scanned c.step.new.at.scanned (reverse c.args.at.now.outer.items) (reverse c.step.new.at.outer.items) c.args.byte c.args.all.now c.args.tail.now c.in-Ok.rest.now
    c.args.out.now.text.items c.step.new.out.text.items c.args.out.now.marks.items c.step.new.out.marks.items
    c.requires.all (sym c.stops.ensures ∙ c.if-stops.false) (subst (λ s. IfOk s (λ r. Moved (move c.args.part.now c.args.values.now c.args.names.now.here c.args.at.now.scanned (reverse c.args.at.now.outer.items) (length c.args.out.now.text.items) c.args.byte c.args.tail.now) c.step.new.at.scanned (reverse c.step.new.at.outer.items) c.args.tail.now r.now c.args.out.now.text.items c.step.new.out.text.items c.args.out.now.marks.items c.step.new.out.marks.items)) c.in-Ok.is c.in_ok-rest.ensures.moved)

pub returns-in-Ok-clause-shorter : goal.returns-in-Ok-clause-shorter
returns-in-Ok-clause-shorter c =
    moved_shorter c.args.part.now c.args.values.now c.args.names.now.here c.args.at.now.scanned c.step.new.at.scanned (reverse c.args.at.now.outer.items) (reverse c.step.new.at.outer.items) (length c.args.out.now.text.items) c.args.byte c.args.tail.now c.in-Ok.rest.now
    c.args.out.now.text.items c.step.new.out.text.items c.args.out.now.marks.items c.step.new.out.marks.items (subst (λ s. IfOk s (λ r. Moved (move c.args.part.now c.args.values.now c.args.names.now.here c.args.at.now.scanned (reverse c.args.at.now.outer.items) (length c.args.out.now.text.items) c.args.byte c.args.tail.now) c.step.new.at.scanned (reverse c.step.new.at.outer.items) c.args.tail.now r.now c.args.out.now.text.items c.step.new.out.text.items c.args.out.now.marks.items c.step.new.out.marks.items)) c.in-Ok.is c.in_ok-rest.ensures.moved)

pub returns-in-Err-clause-ends : goal.returns-in-Err-clause-ends
returns-in-Err-clause-ends c =
    stuck_here c.args.part.now c.args.values.now c.args.names.now.here c.args.at.now.scanned (reverse c.args.at.now.outer.items) c.args.byte c.args.all.now c.args.tail.now
    c.args.out.now.text.items c.step.new.out.text.items c.args.out.now.marks.items c.step.new.out.marks.items c.in-Err.fault
    c.requires.all (sym c.stops.ensures ∙ c.if-stops.false) (subst (λ s. IfErr s (λ f. Stuck (move c.args.part.now c.args.values.now c.args.names.now.here c.args.at.now.scanned (reverse c.args.at.now.outer.items) (length c.args.out.now.text.items) c.args.byte c.args.tail.now) f c.args.out.now.text.items c.step.new.out.text.items c.args.out.now.marks.items c.step.new.out.marks.items)) c.in-Err.is c.in_ok-rest.ensures.stuck)
