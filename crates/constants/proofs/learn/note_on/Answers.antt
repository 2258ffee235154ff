use Rattle.std.proofs.Common.{◌≡◌, true, false, rules}
use Rattle.constants.proofs.Learnable.{on_true_is, noted_pushed, note_refused}
use Rattle.constants.specs.Tables.{known_in}
use Rattle.constants.proofs.learn.note_on.Goals as goal

pub returns-then-not-note : goal.returns-then-not-note
returns-then-not-note c =
    let refused : c.note.result ≡ false = search rules in
    note_refused c.args.op _ (known_in c.args.table.now) (known_in c.note.new.table) c.args.trail.now.items (c.note.ensures.refused refused)

pub returns : goal.returns
returns c =
    let yes : c.note.result ≡ true = search rules in
    noted_pushed c.push.result c.args.op _ (known_in c.args.table.now) (known_in c.note.new.table) c.args.trail.now.items c.push.new.trail.items (on_true_is c.note.result _ yes c.note.ensures.noted) c.push.ensures
