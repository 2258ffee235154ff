use Rattle.std.proofs.Common.{refl}
use Rattle.mlir_work_c_read.specs.Headers.{entries_of}
use Rattle.mlir_work_c_read.proofs.Giving.{given_all, given_on}
use Rattle.mlir_work_c_read.proofs.header.entries_of.Goals as goal

pub entries-preserved : goal.entries-preserved
entries-preserved c =
    given_on c.args.properties c.entries.rest.now _ _ c.entries.out.items c.push_given.new.out.items (entries_of c.args.properties c.args.entries.now) c.in-len1-up.len_at_least refl c.in_ok-push_given.ensures
    c.entries.invariant

pub returns : goal.returns
returns c =
    given_all c.args.properties c.entries.rest.now c.entries.out.items (entries_of c.args.properties c.args.entries.now) c.in_default.len_below c.entries.invariant
