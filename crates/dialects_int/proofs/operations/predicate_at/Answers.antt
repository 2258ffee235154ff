use Rattle.std.proofs.Common.{sym, arith, ◌≤◌, length}
use Rattle.std.proofs.lemmas.Option.{slice_get_past}
use Rattle.dialects_int.specs.Folds.{predicates}
use Rattle.dialects_int.proofs.operations.predicate_at.Goals as goal

pub returns-then-number-lt10 : goal.returns-then-number-lt10
unfolding predicates
returns-then-number-lt10 c = c.entry.ensures

pub returns-else-number-lt10 : goal.returns-else-number-lt10
unfolding predicates
returns-else-number-lt10 c =
    let few : length predicates ≤ c.args.number = omega arith in
    sym (slice_get_past predicates c.args.number few)
