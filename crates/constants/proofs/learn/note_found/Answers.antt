use Rattle.std.proofs.Common.{◌≡◌, true, sym, ap, ◌∙◌}
use Rattle.dialects_int.specs.Folds.{known_of}
use Rattle.constants.proofs.Learns.{learnt_noted}
use Rattle.constants.proofs.Learnable.{learnt_none}
use Rattle.constants.specs.Tables.{known_in}
use Rattle.constants.proofs.learn.note_found.Goals as goal

pub returns-in-Some : goal.returns-in-Some
returns-in-Some c ops none is =
    learnt_noted ops (c.note_on.result ≡ true) c.args.op _ (known_in c.args.table.now) (known_in c.note_on.new.table) c.args.trail.now.items c.note_on.new.trail.items none (sym is ∙ ap known_of c.in-Some.is) c.note_on.ensures

pub returns-in-None : goal.returns-in-None
returns-in-None c ops none is = learnt_none ops (true ≡ true) c.args.op (known_in c.args.table.now) c.args.trail.now.items (sym is ∙ ap known_of c.in-None.is)
