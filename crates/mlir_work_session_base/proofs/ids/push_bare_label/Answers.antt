use Rattle.std.proofs.Common.{append-nil, sym}
use Rattle.mlir_work_session_base.proofs.Lines.{not_bare}
use Rattle.mlir_work_session_base.proofs.ids.push_bare_label.Goals as goal

pub returns-in-len1-up : goal.returns-in-len1-up
returns-in-len1-up c = rw (not_bare c.args.around c.args.ops.now c.in-len1-up.len_at_least) (sym (append-nil c.args.out.now.items))
