use Rattle.std.proofs.Common.{◌≡◌, ap, sym, ◌∙◌, true, false, None, Some, rules, is_some}
use Rattle.listeners_support.specs.Map as idmap
use Rattle.effects.specs.Effects.{is_none}
use Rattle.effects.specs.Walks.{present}
use Rattle.effects.specs.RowMaps.{counts_or}
use Rattle.effects.proofs.Changes.{on_true_is}
use Rattle.effects.proofs.RowMaps.{counts_set, counts_stay, counts_after, zero_of, not_zero, none_of}
use Rattle.effects.proofs.row_map.write_counts.Goals as goal

pub returns-then-write-clause-counts : goal.returns-then-write-clause-counts
returns-then-write-clause-counts c y =
    let yes : c.write.result ≡ true = search rules in
    counts_set c.args.sums.now c.write.new.self c.args.id c.args.counts.now (on_true_is c.write.result _ yes c.write.ensures.updates) y

pub returns-then-are_zero-clause-counts : goal.returns-then-are_zero-clause-counts
returns-then-are_zero-clause-counts c y =
    let no : c.write.result ≡ false = search rules in
    let zero : is_none (present c.args.counts.now) ≡ true = search rules in
    counts_stay c.args.sums.now c.write.new.self c.args.id c.args.counts.now (c.write.ensures.none no) (none_of _ (sym c.write.ensures.had ∙ no)) (zero_of c.args.counts.now zero) y

pub returns-in-Ok-clause-counts : goal.returns-in-Ok-clause-counts
returns-in-Ok-clause-counts c y =
    let no : c.write.result ≡ false = search rules in
    counts_after c.args.sums.now c.write.new.self c.insert.new.self c.args.id c.args.counts.now (c.write.ensures.none no) c.in-Ok.ensures.updates y

pub returns-in-Err-clause-kept : goal.returns-in-Err-clause-kept
returns-in-Err-clause-kept c stays =
    let no : c.write.result ≡ false = search rules in
    let some : is_none (present c.args.counts.now) ≡ false = search rules in
    absurd (not_zero c.args.counts.now some (stays (ap counts_or (none_of _ (sym c.write.ensures.had ∙ no)))))

pub returns-in-Err-clause-none : goal.returns-in-Err-clause-none
returns-in-Err-clause-none c e =
    let no : c.write.result ≡ false = search rules in
    c.in-Err.ensures.err ∙ c.write.ensures.none no
